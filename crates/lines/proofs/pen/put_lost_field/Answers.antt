use native.Mathlib.Nat.{one-le-pow}
use Rattle.std.proofs.Common.{length, arith}
use Rattle.lines.proofs.Pieces.{lost_put}
use Rattle.lines.proofs.pen.put_lost_field.Goals as goal

pub put_field-requires : goal.put_field-requires
put_field-requires c = record { room = one-le-pow (length c.args.part.now) 10 (omega arith); some = c.requires }

pub returns : goal.returns
returns c =
    lost_put c.put_field.new.place (length c.args.part.now) c.requires c.put_field.ensures c.put_field.auto.place
