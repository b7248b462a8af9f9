use Rattle.std.proofs.Common.{◌≡◌, ◌-◌, get_or}
use Rattle.line.specs.Ring.{symbol_back}
use Rattle.line.specs.Line.{contents}
use Rattle.line.proofs.Filling.{filled}
use Rattle.line.proofs.line.SymbolLine.add_each.Given as goal

abbrev pub invariant-loop-i : goal.invariant-loop-i
invariant-loop-i g l =
    let K = g.S.Symbol.kind in
    l.place ≡ filled (λ i. K.sum (symbol_back K.zero (contents l.fn.self) (l.fn.steps - i)) (get_or l.fn.place i K.zero)) l.fn.place l.i
