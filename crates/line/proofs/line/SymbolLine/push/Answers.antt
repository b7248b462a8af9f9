use Rattle.std.proofs.Common.{arith}
use Rattle.line.proofs.Rings.{symbol_put}
use Rattle.line.proofs.line.SymbolLine.push.Goals as goal

pub returns-clause-held : goal.returns-clause-held
returns-clause-held g c =
    let l = c.args.self.now in
    symbol_put l.window.now l.places c.len-len.result l.head c.oldest-start.result c.args.symbol c.len-len.ensures (omega arith) c.oldest-start.ensures
