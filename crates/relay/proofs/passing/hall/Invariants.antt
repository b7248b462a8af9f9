use Rattle.std.proofs.Common.{◌≡◌, ◌+◌, ◌≤◌, ◌++◌, length, vec_items}
use Rattle.stream.specs.Lines.{lines_of}
use Rattle.relay.specs.Relaying.{text_of, hall}
use Rattle.relay.specs.Halls.{listed, all_passed}
use Rattle.relay.proofs.passing.hall.Given as goal

abbrev pub invariant-loop-line : goal.invariant-loop-line
invariant-loop-line l =
    (vec_items l.out ++ text_of (all_passed (listed l.missed) l.before (lines_of l.rest)) ≡ hall (listed l.missed) l.text)
    × (l.before + length l.rest ≤ length l.text)

abbrev pub decreases-loop-line : goal.decreases-loop-line
decreases-loop-line l = length l.rest
