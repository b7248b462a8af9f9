-- The numbers of the refusals that the two ends give. Assumes nothing.
use Rattle.std.specs.Prelude.{ℕ}
use Rattle.code.specs.declared.refusal.PutRefusal.{PutRefusal}
use Rattle.code.specs.declared.refusal.TailRefusal.{TailRefusal}
use Rattle.code.specs.declared.refusal.SlotRefusal.{SlotRefusal}

abbrev pub put_number : PutRefusal → ℕ
put_number PutRefusal.Window = 11
put_number PutRefusal.Slots = 12
put_number PutRefusal.Row = 13
put_number PutRefusal.Place = 14

abbrev pub tail_number : TailRefusal → ℕ
tail_number TailRefusal.Window = 11
tail_number TailRefusal.Slots = 12
tail_number TailRefusal.Place = 14
tail_number TailRefusal.Tail = 15

abbrev pub slot_number : SlotRefusal → ℕ
slot_number SlotRefusal.Window = 11
slot_number SlotRefusal.Slots = 12
slot_number SlotRefusal.Packet = 13
slot_number SlotRefusal.Place = 14

-- the slots that a run has at most
abbrev pub top_slots : ℕ
top_slots = 1000000
