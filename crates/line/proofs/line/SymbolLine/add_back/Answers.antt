use Rattle.std.proofs.Common.{◌∙◌}
use Rattle.line.specs.Line.{ring}
use Rattle.line.proofs.Rings.{piece_added}
use Rattle.line.proofs.line.SymbolLine.add_back.Goals as goal

pub returns-in-Some : goal.returns-in-Some
returns-in-Some g c =
    let l = c.args.self.now in
    let e = c.in-Some.ensures in
    rw c.ring.ensures at c.add_piece.ensures
    ∙ piece_added g.S.Symbol.kind (ring l) c.args.place.now l.head c.args.steps c.in-Some.at e.0 e.1 e.2
