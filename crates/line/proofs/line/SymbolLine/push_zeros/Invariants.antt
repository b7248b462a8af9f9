use Rattle.std.proofs.Common.{◌≡◌, replicate}
use Rattle.line.specs.Ring.{entered}
use Rattle.line.specs.Line.{contents, Stays}
use Rattle.line.proofs.line.SymbolLine.push_zeros.Given as goal

abbrev pub invariant-loop-left : goal.invariant-loop-left
invariant-loop-left g l =
    let z = g.S.Symbol.kind.zero in
    record {
      goes : entered (replicate l.left z) (contents l.self) ≡ entered (replicate l.fn.count z) (contents l.fn.self);
      stays : Stays l.fn.self l.self;
    }

abbrev pub decreases-loop-left : goal.decreases-loop-left
decreases-loop-left g l = l.left
