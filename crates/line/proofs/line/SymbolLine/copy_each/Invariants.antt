use Rattle.std.proofs.Common.{◌≡◌, ◌-◌}
use Rattle.line.specs.Ring.{symbol_back}
use Rattle.line.specs.Line.{contents}
use Rattle.line.proofs.Filling.{filled}
use Rattle.line.proofs.line.SymbolLine.copy_each.Given as goal

abbrev pub invariant-loop-i : goal.invariant-loop-i
invariant-loop-i g l =
    let K = g.S.Symbol.kind in
    l.place ≡ filled (λ i. symbol_back K.zero (contents l.fn.self) (l.fn.steps - i)) l.fn.place l.i
