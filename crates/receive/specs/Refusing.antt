-- Why a call on a receiver is refused. Assumes nothing.
use Rattle.std.specs.Prelude.{◌≡◌, ℕ, ◌-◌, ◌*◌, ◌<◌, ◌≤◌, Bool, false, cond, not, ◌||◌, ◌≢◌, ◌⊎◌, List, length, Some, None, Option, ◌==◌, nat_le, nat_lt}
use Rattle.code.specs.declared.refusal.SlotRefusal.{SlotRefusal}
use Rattle.code.specs.declared.sheet.Sheet.{Sheet}
use Rattle.code.specs.Sheets.{n}
use Rattle.code.specs.Refusals.{top_slots}
use Rattle.receive.specs.Memory.{need}

-- What came in a slot is a packet, or None where the slot was missed. A packet has the wrong length:
abbrev pub unfit : {S : Type 0} → Sheet → Option (List S) → Bool
unfit p (Some q) = not (length q == n p)
unfit p None = false

-- The first refusal that holds of a slot call, over a window of w symbols, after t slots, with what came fit or unfit,
-- and places for so many symbols and marks.
abbrev pub slot_refused : Sheet → (w t : ℕ) → Bool → (symbols marks : ℕ) → Option SlotRefusal
slot_refused p w t bad symbols marks =
    cond (nat_lt w (need p)) (Some SlotRefusal.Window)
    (cond (nat_le top_slots t) (Some SlotRefusal.Slots)
    (cond bad (Some SlotRefusal.Packet)
    (cond (not (symbols == p.row) || not (marks == p.row)) (Some SlotRefusal.Place) None)))

-- what each refusal says of a slot call
abbrev pub SlotReason : {S : Type 0} → Sheet → (w t : ℕ) → Option (List S) → (symbols marks : ℕ) → SlotRefusal → Type 0
SlotReason p w t came symbols marks SlotRefusal.Window = w < need p
SlotReason p w t came symbols marks SlotRefusal.Slots = top_slots ≤ t
SlotReason {S} p w t came symbols marks SlotRefusal.Packet = (q : List S) × (came ≡ Some q) × (length q ≢ n p)
SlotReason p w t came symbols marks SlotRefusal.Place = (symbols ≢ p.row) ⊎ (marks ≢ p.row)

-- The first refusal that holds of taking m slots, one after the other: m is more than the run has left, or there is not a
-- packet, a place for a row and one for its marks for each of them.
abbrev pub slots_refused : Sheet → (w t m packets symbols marks : ℕ) → Option SlotRefusal
slots_refused p w t m packets symbols marks =
    cond (nat_lt w (need p)) (Some SlotRefusal.Window)
    (cond (nat_lt (top_slots - t) m) (Some SlotRefusal.Slots)
    (cond (not (packets == m * n p)) (Some SlotRefusal.Packet)
    (cond (not (symbols == m * p.row) || not (marks == m * p.row)) (Some SlotRefusal.Place) None)))
