use Rattle.std.proofs.Common.{◌≡◌, ◌^◌, ap, arith}
use Rattle.lines.proofs.Rooms.{wide, room}
use Rattle.lines.proofs.pen.LinePen.due_symbol.Goals as goal

pub number-requires-in-Arrived : goal.number-requires-in-Arrived
number-requires-in-Arrived g c =
    let w = wide g.P.Symbol.kind g.P.Printed.form in
    let r = room g.P.Printed.form c.args.symbol in
    let e : 10 ^ c.args.width ≡ 10 ^ g.P.Printed.form.layout.width = ap (λ x. 10 ^ x) c.requires.kind in
    record { within = c.requires.within; some = omega arith; room = omega arith }

pub lost-requires-clause-some : goal.lost-requires-clause-some
lost-requires-clause-some g c =
    let w = wide g.P.Symbol.kind g.P.Printed.form in
    omega arith
