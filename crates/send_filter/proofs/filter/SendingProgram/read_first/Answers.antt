use Rattle.std.proofs.Common.{refl, ◌∙◌}
use Rattle.kinds.specs.Bytes.{byte_form}
use Rattle.runs.specs.declared.standing.SendLine.TheVariants.{Header}
use Rattle.runs.specs.Runs.{send_read}
use Rattle.opening.proofs.First.{first_read}
use Rattle.send_filter.proofs.filter.SendingProgram.read_first.Goals as goal

pub returns : goal.returns
returns c = c.standing.ensures ∙ first_read Header (send_read byte_form) _ refl (λ c cs. refl) c.args.line.now _ _ c.new-reader.ensures c.read.ensures.standing
