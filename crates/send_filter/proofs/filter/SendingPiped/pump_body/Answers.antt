use Rattle.std.proofs.Common.{◌++◌, Some, sym, ap, ◌∙◌}
use Rattle.stream.specs.Lines.{lines_of}
use Rattle.sending.specs.Text.{body_text}
use Rattle.send_filter.proofs.filter.SendingPiped.pump_body.Goals as goal

pub returns-in_ok-fault-in-Bytes : goal.returns-in_ok-fault-in-Bytes
returns-in_ok-fault-in-Bytes g c xs ys l o =
    c.in_ok-fault-in-Bytes.ensures xs ys l o
    ∙ ap (λ kind. Some (ys ++ body_text kind c.args.header.sheet (lines_of xs))) (sym c.in-Bytes.is)

pub returns-in_ok-fault-in-Digits : goal.returns-in_ok-fault-in-Digits
returns-in_ok-fault-in-Digits g c xs ys l o =
    c.in_ok-fault-in-Digits.ensures xs ys l o
    ∙ ap (λ kind. Some (ys ++ body_text kind c.args.header.sheet (lines_of xs))) (sym c.in-Digits.is)
