use Rattle.std.proofs.Common.{◌≡◌, length, Some, None, sym, refl}
use Rattle.std.proofs.lemmas.Bool.{eqb-true, not-false}
use Rattle.code.specs.Sheets.{n}
use Rattle.receive.specs.Refusing.{unfit, slot_refused}
use Rattle.receive.specs.Calls.{room}
use Rattle.receive.proofs.Slots.{accepted, slot_call}
use Rattle.receive.proofs.receiver.Receiver.arrived.Goals as goal

pub returns : goal.returns
returns g c =
    let r = c.args.self.now in
    let q = c.args.packet.now in
    let none : slot_refused r.sheet (room r) r.counters.slots (unfit r.sheet (Some q)) (length c.args.row.now) (length c.args.marks.now) ≡ None = rw c.packet_len.ensures at (sym c.in_ok-check_slot.ensures) in
    let fits : length q ≡ n r.sheet = eqb-true (length q) (n r.sheet) (not-false _ (accepted r.sheet (room r) r.counters.slots _ (length c.args.row.now) (length c.args.marks.now) none).fit) in
    slot_call r (Some q) q none fits refl refl refl c.note.ensures.set c.note.ensures.long c.push_all.ensures.held c.push_all.ensures.kept c.hand_out.ensures
