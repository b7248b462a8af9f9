use Rattle.std.proofs.Common.{◌*◌, take}
use Rattle.lines.specs.Lines.{symbol_fields}
use Rattle.lines.specs.Pen.{Puts}
use Rattle.lines.proofs.pen.LinePen.symbols.Given as goal

abbrev pub invariant-loop-symbol : goal.invariant-loop-symbol
invariant-loop-symbol g l =
    let F = g.P.Printed.form in
    Puts l.initial.self l.self (l.symbol-index * F.layout.width) (symbol_fields F (take l.symbol-index l.symbols))
