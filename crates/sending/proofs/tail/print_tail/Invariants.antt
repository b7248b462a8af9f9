use Rattle.std.proofs.Common.{◌≡◌, ℕ, ◌+◌, length, vec_items}
use Rattle.sending.proofs.Tailing.{Draws}
use Rattle.sending.proofs.tail.print_tail.Given as goal

-- i tail packets were drawn
abbrev pub invariant-loop-slot : goal.invariant-loop-slot
invariant-loop-slot g l =
    (i : ℕ) × (l.slot ≡ l.rows + i)
    × Draws g.P.Symbol.kind g.P.Printed.form l.sheet l.rows l.initial.winding (length l.initial.packet) (vec_items l.initial.out)
    l.winding (vec_items l.out) i
