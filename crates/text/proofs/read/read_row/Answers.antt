use Rattle.text.proofs.Inverses.{row_inverse}
use Rattle.text.proofs.read.read_row.Goals as goal

pub returns-clause-inverse : goal.returns-clause-inverse
returns-clause-inverse g c = row_inverse g.P.Symbol.kind g.P.Printed.form c.args.sheet
