use Rattle.lines.proofs.LineLengths.{lengths}
use Rattle.lines.proofs.writer.line_len.Goals as goal

pub returns-in-H-clause-lengths : goal.returns-in-H-clause-lengths
returns-in-H-clause-lengths g c = lengths g.P.Symbol.kind g.P.Printed.form c.args.sheet

pub returns-in-R-clause-lengths : goal.returns-in-R-clause-lengths
returns-in-R-clause-lengths g c = lengths g.P.Symbol.kind g.P.Printed.form c.args.sheet

pub returns-in-A-clause-lengths : goal.returns-in-A-clause-lengths
returns-in-A-clause-lengths g c = lengths g.P.Symbol.kind g.P.Printed.form c.args.sheet

pub returns-in-M-clause-lengths : goal.returns-in-M-clause-lengths
returns-in-M-clause-lengths g c = lengths g.P.Symbol.kind g.P.Printed.form c.args.sheet

pub returns-in-E-clause-lengths : goal.returns-in-E-clause-lengths
returns-in-E-clause-lengths g c = lengths g.P.Symbol.kind g.P.Printed.form c.args.sheet

pub returns-in-X-clause-lengths : goal.returns-in-X-clause-lengths
returns-in-X-clause-lengths g c = lengths g.P.Symbol.kind g.P.Printed.form c.args.sheet

pub returns-in_default-clause-lengths : goal.returns-in_default-clause-lengths
returns-in_default-clause-lengths g c = lengths g.P.Symbol.kind g.P.Printed.form c.args.sheet
