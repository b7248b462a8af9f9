use Rattle.std.proofs.Common.{length, vec_items, ap, ◌∙◌, rules}
use Rattle.std.proofs.lemmas.List.{length-replicate}
use Rattle.mending.specs.Running.{rest_of, Sound, stopped, Ended}
use Rattle.piping.proofs.Ending.{all_written}
use Rattle.opening.proofs.Taking.{over}
use Rattle.mending.proofs.Taking.{running}
use Rattle.mend_filter.proofs.Filtering.{new_prints}
use Rattle.mend_filter.proofs.filter.pump_slots.Goals as goal

pub returns : goal.returns
returns g c =
    let K = g.P.Symbol.kind in
    let F = g.P.Printed.form in
    let p = c.args.header.sheet in
    let made = c.new-run.ensures in
    let (last, fed, none, printed, empty, ran, pumped, wrote) = c.in_ok-fault.ensures in
    let ends : Ended K F last (vec_items none.now) (vec_items printed.now) c.in_ok-fault.fault = search rules in
    all_written (rest_of K F) Sound stopped _ (vec_items none.now) (vec_items printed.now) made.sound made.going
    (new_prints K F p _ _ _ _ c.new-run.result
    (ap length (c.as_mut_slice.ensures.value ∙ c.in_ok-window.ensures) ∙ length-replicate c.window_len.result _ ∙ c.window_len.ensures)
    (ap length c.in_ok-packet.ensures ∙ length-replicate c.packet_len.result _ ∙ c.packet_len.ensures)
    (ap length c.in_ok-row.ensures ∙ length-replicate p.row _)
    (ap length c.in_ok-marks.ensures ∙ length-replicate p.row _)
    made)
    empty pumped (λ stays. (ends stays).0) (over (running K F) last) wrote
