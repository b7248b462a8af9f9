use Rattle.std.proofs.Common.{◌++◌, vec_items, sym, ap, ◌∙◌}
use Rattle.text.specs.Reading.{header_read}
use Rattle.runs.proofs.Positions.{header_within}
use Rattle.opening.proofs.First.{begun, stopped_first, not_before}
use Rattle.opening.proofs.header.Opening.take_first.Goals.{in-InRun+in_ok-print_header-in-InRun, in-Stopped+in_ok-print_fault-in-Stopped, in-BeforeHeader}
use Rattle.opening.proofs.header.Opening.take_first.Goals as goal

pub returns : goal.returns
returns g c =
    let echo = g.G.Program.echo in
    let out = vec_items c.args.out.now in
    let line = c.args.line.now in
    elim c.match-standing.branch [
      | in-InRun+in_ok-print_header-in-InRun w ↦ record {
        stands = w.standing-is ∙ w.in-InRun.ensures;
        prints =
            ap vec_items w.out-is ∙ w.in_ok-print_header-in-InRun.ensures
            ∙ ap (λ text. out ++ text) (begun echo (header_read line) _ _ (sym (w.in-InRun.ensures)));
      }
      | in-Stopped+in_ok-print_fault-in-Stopped w ↦ record {
        stands = w.standing-is ∙ w.in-Stopped.ensures;
        prints =
            ap vec_items w.out-is ∙ w.in_ok-print_fault-in-Stopped.ensures
            ∙ ap (λ text. out ++ text) (stopped_first echo (header_read line) _ (header_within line) (sym (w.in-Stopped.ensures)));
      }
      | in-BeforeHeader w ↦ absurd (not_before (header_read line) (sym (w.in-BeforeHeader.ensures)))
    ]
