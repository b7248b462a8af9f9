use Rattle.std.proofs.Common.{◌+◌, ◌*◌, ap, ◌∙◌, arith}
use native.Mathlib.Nat.{add-mod_right, add-div_right}
use Rattle.code.proofs.block.calls.BlocksIterator.next.Goals as goal

pub invariant_of-self : goal.invariant_of-self
invariant_of-self c =
    let s = c.args.self.now in
    let p = s.sheet in
    record {
      near = omega arith;
      whole = add-mod_right s.first p.parity ∙ s.whole;
      carried = omega (arith, s.carried, ap (λ q. (1 + q) * p.burst) (add-div_right s.first p.parities.0));
    }
