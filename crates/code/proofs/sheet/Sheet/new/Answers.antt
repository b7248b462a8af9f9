use Rattle.std.proofs.Common.{◌≡◌, ℕ, ◌+◌, ◌-◌, ◌*◌, ◌<◌, ◌/◌, sym, ap, ◌∙◌, rules}
use Rattle.code.proofs.Numbers.{rounded_up}
use Rattle.code.proofs.sheet.Sheet.new.Goals as goal

pub returns-then-delay-gt256 : goal.returns-then-delay-gt256
returns-then-delay-gt256 c =
    let some : 0 < c.args.parity = search rules in
    let up : (c.args.row + (c.args.parity - 1)) / c.args.parity ≡ c.div_ceil-blocks.result = rounded_up c.args.row c.args.parity some ∙ sym c.div_ceil-blocks.ensures in
    rw up (search rules)

pub invariant_of-result : goal.invariant_of-result
invariant_of-result c =
    let some : 0 < c.args.parity = search rules in
    record {
      bursts = search rules;
      rows = search rules;
      parities = search rules;
      waits = ap (λ (q : ℕ). c.args.burst * q) (c.div_ceil-blocks.ensures ∙ sym (rounded_up c.args.row c.args.parity some));
      few = search rules;
    }
