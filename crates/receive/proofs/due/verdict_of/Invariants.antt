use Rattle.std.proofs.Common.{◌≡◌, ◌≤◌, take}
use Rattle.std.specs.List.{count_by}
use Rattle.receive.specs.Handing.{is_mended, is_lost}
use Rattle.receive.proofs.due.verdict_of.Given as goal

abbrev pub invariant-loop-mark : goal.invariant-loop-mark
invariant-loop-mark l =
    (l.mended ≡ count_by is_mended (take l.mark-index l.marks))
    × (l.lost ≡ count_by is_lost (take l.mark-index l.marks))
    × (l.mended ≤ l.mark-index)
    × (l.lost ≤ l.mark-index)
