use Rattle.std.proofs.Common.{◌≡◌, ◌-◌, get_or}
use Rattle.code.specs.declared.mark.Mark.{Mark}
use Rattle.line.specs.Ring.{symbol_back}
use Rattle.line.specs.Line.{contents}
use Rattle.line.proofs.Filling.{filled}
use Rattle.receive.specs.Blocks.{settled}
use Rattle.receive.proofs.receiver.mending.settle_all.Given as goal

abbrev pub invariant-loop-i : goal.invariant-loop-i
invariant-loop-i g l =
    let K = g.S.Symbol.kind in
    l.places ≡ filled (λ i. settled K (get_or l.outlooks i Mark.Arrived) (symbol_back K.zero (contents l.line) (l.steps - i)) (get_or l.initial.places i K.zero)) l.initial.places l.i
