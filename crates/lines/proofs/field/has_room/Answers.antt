use Rattle.std.proofs.Common.{◌^◌, ◌<◌, ◌≤◌, sym, arith}
use native.Mathlib.Nat.{pow-le-pow_right}
use Rattle.std.proofs.lemmas.Bool.{lt-ltb}
use Rattle.lines.proofs.field.has_room.Goals as goal

-- ten columns have room for any number of 32 bits
pub returns-in_default : goal.returns-in_default
returns-in_default c =
    let w : 10 ≤ c.args.width = omega arith in
    let p : 10 ^ 10 ≤ 10 ^ c.args.width = pow-le-pow_right (omega arith) w in
    let q : c.args.number < 10 ^ 10 = omega arith in
    sym (lt-ltb c.args.number (10 ^ c.args.width) (omega arith))
