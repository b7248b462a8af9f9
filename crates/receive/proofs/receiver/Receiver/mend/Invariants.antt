use Rattle.std.proofs.Common.{◌≡◌, min, map, take}
use Rattle.std.specs.List.{range_with_len}
use Rattle.code.specs.Mending.{heard, mark, given}
use Rattle.receive.specs.Memory.{memory}
use Rattle.receive.proofs.receiver.Receiver.mend.Given as given'

abbrev pub invariant-loop-block : given'.invariant-loop-block
invariant-loop-block g l =
    let K = g.S.Symbol.kind in
    let p = l.self.sheet in
    (l.block-iterator.sheet ≡ l.self.sheet)
    × (take (min l.block-iterator.first p.row) l.symbols ≡ map (given K p (memory K l.self) l.row) (range_with_len 0 (min l.block-iterator.first p.row)))
    × (take (min l.block-iterator.first p.row) l.marks ≡ map (mark p (heard (memory K l.self)) l.row) (range_with_len 0 (min l.block-iterator.first p.row)))
