use Rattle.std.proofs.Common.{◌≡◌, ◌^◌, ap, arith}
use Rattle.lines.proofs.Rooms.{wide, room}
use Rattle.lines.proofs.pen.LinePen.symbols.Goals as goal

pub number-requires-in-loop-symbol-clause-some : goal.number-requires-in-loop-symbol-clause-some
number-requires-in-loop-symbol-clause-some g c =
    let w = wide g.P.Symbol.kind g.P.Printed.form in
    let k : c.layout-width.result.width ≡ g.P.Printed.form.layout.width = ap (λ x. x.width) c.layout-width.ensures in
    omega arith

pub number-requires-in-loop-symbol-clause-room : goal.number-requires-in-loop-symbol-clause-room
number-requires-in-loop-symbol-clause-room g c =
    let r = room g.P.Printed.form c.symbol-item.result in
    let e : 10 ^ c.layout-width.result.width ≡ 10 ^ g.P.Printed.form.layout.width = ap (λ x. 10 ^ x.width) c.layout-width.ensures in
    omega arith
