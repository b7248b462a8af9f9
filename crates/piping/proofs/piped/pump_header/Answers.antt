use Rattle.std.proofs.Common.{vec_items, rules}
use Rattle.piping.specs.Writing.{OpeningEnded}
use Rattle.piping.proofs.Ending.{opening_ended}
use Rattle.piping.proofs.piped.pump_header.Goals as goal

pub returns : goal.returns
returns g c =
    let (last, fed, none, printed, empty, ran, pumped, wrote) = c.in_ok-header.ensures in
    let ends : OpeningEnded g.G.Program.echo g.G.Program.body last (vec_items none.now) (vec_items printed.now) c.in_ok-header.header = search rules in
    opening_ended g.G.Program.echo g.G.Program.body {out' = g.O.Write.contents c.pump_to_end.new.output} (vec_items none.now) (vec_items printed.now) c.in_ok-header.header c.new-opening.ensures empty pumped ends wrote
