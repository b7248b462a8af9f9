use Rattle.std.proofs.Common.{◌≡◌, ℕ, ◌+◌, ◌*◌, ◌≤◌, cond, length, is_some, sym, ap, ◌∙◌, arith, rules}
use borrow.Author.Rules.{scaled_fits≤}
use Rattle.receive.proofs.Driving.{part_ends, taking_none, taking_never, taking_more}
use Rattle.receive.proofs.receiver.Receiver.take_slots.Goals as goal
use Rattle.receive.proofs.receiver.Receiver.take_slots.Goals.{then-is_some, else-is_some}

pub loop-i-init : goal.loop-i-init
loop-i-init g c = taking_none g.S.Symbol.kind c.args.self.now c.args.states.now c.args.packets.now c.args.rows.now c.args.marks.now (sym c.in_ok-check_slots.ensures)

pub offset_bounds-rows-start : goal.offset_bounds-rows-start
offset_bounds-rows-start g c =
    let r = c.args.self.now in
    let starts : c.loop-i.i * r.sheet.row ≤ length c.args.rows.now = omega (arith, part_ends c.loop-i.i (length c.args.states.now) r.sheet.row c.loop-i-test.true) in
    scaled_fits≤ (c.loop-i.i * r.sheet.row) (length c.args.rows.now) _ starts (search rules)

-- a slot that has its part is not refused
pub returns-in_err-due : goal.returns-in_err-due
returns-in_err-due g c =
    absurd (taking_never c.loop-i.invariant c.loop-i-test.true c.loop-i.auto.rows c.loop-i.auto.marks _ c.packet_len-packet.ensures c.take_slot.new.self c.take_slot.new.row c.take_slot.new.marks _ c.in_err-due.ensures)

pub loop-i-preserved : goal.loop-i-preserved
loop-i-preserved g c =
    let handed_is : c.if-is_some.handed ≡ c.loop-i.handed + cond (is_some c.in_ok-due.due) 1 0 = elim c.if-is_some.branch [
      | then-is_some w ↦ omega (arith, ap {B = ℕ} (λ x. cond x 1 0) (sym w.if-is_some.true ∙ c.is_some.ensures))
      | else-is_some w ↦ omega (arith, ap {B = ℕ} (λ x. cond x 1 0) (sym w.if-is_some.false ∙ c.is_some.ensures))
    ] in
    taking_more c.loop-i.invariant c.loop-i-test.true c.loop-i.auto.rows c.loop-i.auto.marks _ c.packet_len-packet.ensures c.take_slot.new.self c.take_slot.new.row c.take_slot.new.marks
    c.in_ok-due.due c.if-is_some.handed c.take_slot.auto.row c.take_slot.auto.marks c.in_ok-due.ensures handed_is
