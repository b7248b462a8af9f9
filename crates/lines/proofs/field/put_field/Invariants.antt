use Rattle.std.proofs.Common.{◌≡◌, ◌^◌, ◌<◌, ◌++◌, length, drop}
use Rattle.std.specs.Int.Digits.{digits_of}
use Rattle.lines.specs.Fields.{justified, field}
use Rattle.lines.proofs.field.put_field.Given as goal

abbrev pub invariant-loop-i : goal.invariant-loop-i
invariant-loop-i l =
    (justified l.i (digits_of 10 l.left) ++ drop l.i l.place ≡ field (length l.place) l.number)
    × (l.left < 10 ^ l.i)
