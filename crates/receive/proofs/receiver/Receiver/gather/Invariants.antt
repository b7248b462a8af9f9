use Rattle.std.proofs.Common.{◌≡◌, min}
use Rattle.code.specs.Mending.{heard}
use Rattle.receive.specs.Memory.{memory}
use Rattle.receive.specs.Blocks.{sums_beside, known_beside}
use Rattle.receive.proofs.receiver.Receiver.gather.Given as goal

abbrev pub invariant-loop-other : goal.invariant-loop-other
invariant-loop-other g l =
    let K = g.S.Symbol.kind in
    let p = l.self.sheet in
    (l.other-iterator.sheet ≡ l.self.sheet)
    × (l.sums ≡ sums_beside K p (memory K l.self) l.carrier l.block.first (min l.other-iterator.first p.row))
    × (l.outlooks ≡ known_beside p (heard (memory K l.self)) l.carrier l.block.first (min l.other-iterator.first p.row))
