use Rattle.std.proofs.Common.{◌≡◌, take, replicate}
use Rattle.receive.proofs.receiver.mending.mark_all.Given as goal

abbrev pub invariant-loop-place : goal.invariant-loop-place
invariant-loop-place l = take l.place-index l.places ≡ replicate l.place-index l.mark
