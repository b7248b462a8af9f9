use Rattle.std.proofs.Common.{◌≡◌, get_or}
use Rattle.line.proofs.Filling.{filled}
use Rattle.line.proofs.line.calls.add_piece.Given as goal

abbrev pub invariant-loop-i : goal.invariant-loop-i
invariant-loop-i g l =
    let K = g.S.Symbol.kind in
    l.place ≡ filled (λ i. K.sum (get_or l.fn.symbols i K.zero) (get_or l.fn.place i K.zero)) l.fn.place l.i
