use Rattle.std.proofs.Common.{◌++◌, length, vec_items, ap, ◌∙◌}
use Rattle.std.proofs.lemmas.List.{length-replicate}
use Rattle.stream.specs.Lines.{lines_of}
use Rattle.opening.proofs.Taking.{none_left}
use Rattle.sending.proofs.Taking.{running}
use Rattle.send_filter.proofs.Filtering.{new_prints}
use Rattle.send_filter.proofs.filter.send_rows.Goals as goal

pub returns : goal.returns
returns g c =
    let K = g.P.Symbol.kind in
    let F = g.P.Printed.form in
    let p = c.args.header.sheet in
    let made = c.new-run.ensures in
    let fed = c.in_ok-feed_whole.ensures made.sound made.going in
    (c.in_ok-end.ensures fed.stays).0
    ∙ ap (λ x. vec_items c.feed_whole.new.out ++ x) (none_left (running K F) c.feed_whole.new.run c.args.text.now _ fed.all)
    ∙ fed.prints
    ∙ ap (λ x. vec_items c.args.out.now ++ x)
    (new_prints K F p _ _ _ c.new-run.result
    (ap length (c.as_mut_slice.ensures.value ∙ c.in_ok-window.ensures) ∙ length-replicate c.window_len.result _ ∙ c.window_len.ensures)
    (ap length c.in_ok-row.ensures ∙ length-replicate p.row _)
    (ap length c.in_ok-packet.ensures ∙ length-replicate c.packet_len.result _ ∙ c.packet_len.ensures)
    made (lines_of c.args.text.now))
