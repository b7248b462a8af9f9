-- Why a call on a sender is refused. Assumes nothing.
use Rattle.std.specs.Prelude.{ℕ, ◌<◌, ◌≤◌, cond, not, ◌≢◌, Some, None, Option, ◌==◌, nat_le, nat_lt}
use Rattle.code.specs.declared.refusal.PutRefusal.{PutRefusal}
use Rattle.code.specs.declared.refusal.TailRefusal.{TailRefusal}
use Rattle.code.specs.declared.sheet.Sheet.{Sheet}
use Rattle.code.specs.Sheets.{T, n}
use Rattle.code.specs.Refusals.{top_slots}
use Rattle.transmit.specs.Keeping.{need}

-- The first refusal that holds of putting a row of so many symbols, over a window of w symbols, after t slots.
abbrev pub put_refused : Sheet → (w t row place : ℕ) → Option PutRefusal
put_refused p w t row place =
    cond (nat_lt w (need p)) (Some PutRefusal.Window)
    (cond (nat_le top_slots t) (Some PutRefusal.Slots)
    (cond (not (row == p.row)) (Some PutRefusal.Row)
    (cond (not (place == n p)) (Some PutRefusal.Place) None)))

-- The first that holds of drawing a tail packet, after t slots, the last i of which were tails.
abbrev pub tail_refused : Sheet → (w t i place : ℕ) → Option TailRefusal
tail_refused p w t i place =
    cond (nat_lt w (need p)) (Some TailRefusal.Window)
    (cond (nat_le top_slots t) (Some TailRefusal.Slots)
    (cond (not (place == n p)) (Some TailRefusal.Place)
    (cond (nat_le (T p) i) (Some TailRefusal.Tail) None)))

-- what each refusal says of a putting call ..
abbrev pub PutReason : Sheet → (w t row place : ℕ) → PutRefusal → Type 0
PutReason p w t row place PutRefusal.Window = w < need p
PutReason p w t row place PutRefusal.Slots = top_slots ≤ t
PutReason p w t row place PutRefusal.Row = row ≢ p.row
PutReason p w t row place PutRefusal.Place = place ≢ n p

-- .. and of a tail call
abbrev pub TailReason : Sheet → (w t i place : ℕ) → TailRefusal → Type 0
TailReason p w t i place TailRefusal.Window = w < need p
TailReason p w t i place TailRefusal.Slots = top_slots ≤ t
TailReason p w t i place TailRefusal.Place = place ≢ n p
TailReason p w t i place TailRefusal.Tail = T p ≤ i
