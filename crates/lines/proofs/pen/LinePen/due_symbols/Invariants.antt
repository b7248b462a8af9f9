use Rattle.std.proofs.Common.{◌*◌, length, take}
use Rattle.lines.specs.Lines.{due_fields}
use Rattle.lines.specs.Pen.{Puts}
use Rattle.lines.proofs.pen.LinePen.due_symbols.Given as goal

abbrev pub invariant-loop-symbol : goal.invariant-loop-symbol
invariant-loop-symbol g l =
    let F = g.P.Printed.form in
    let i = length l.yielded in
    Puts l.initial.self l.self (i * F.layout.width) (due_fields F (take i l.row) (take i l.marks))
