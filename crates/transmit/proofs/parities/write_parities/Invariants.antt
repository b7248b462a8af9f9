use Rattle.std.proofs.Common.{◌≡◌, min}
use Rattle.transmit.specs.Keeping.{kept, sums}
use Rattle.transmit.proofs.parities.write_parities.Given as goal

abbrev pub invariant-loop-block : goal.invariant-loop-block
invariant-loop-block g l =
    (l.block-iterator.sheet ≡ l.fn.sheet)
    × (l.place ≡ sums g.S.Symbol.kind l.fn.sheet (kept g.S.Symbol.kind l.fn.sheet l.slots l.line) l.slots (min l.block-iterator.first l.fn.sheet.row))
