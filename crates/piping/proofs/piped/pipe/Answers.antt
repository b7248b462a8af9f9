use Rattle.std.proofs.Common.{◌∙◌}
use Rattle.piping.proofs.Ending.{no_header, header_and_body, reader_has}
use Rattle.piping.proofs.piped.pipe.Goals as goal

pub returns-in_default-2 : goal.returns-in_default-2
returns-in_default-2 g c xs ys l o =
    let made = c.in-Ok.ensures in
    no_header g.G.Program.echo g.G.Program.body c.in_ok-header.field-0 c.in_default-2.is c.in_ok-header.ensures xs ys
    (reader_has g.I.Read.remaining c.in-Ok.input c.args.input made.all made.none_waits made.room ∙ l) o

pub returns : goal.returns
returns g c xs ys l o =
    let made = c.in-Ok.ensures in
    header_and_body g.G.Program.echo g.G.Program.body c.in_ok-header.field-0 c.in-Some.header c.in-Some.is c.in_ok-header.ensures
    c.in_ok-pump_body.ensures xs ys
    (reader_has g.I.Read.remaining c.in-Ok.input c.args.input made.all made.none_waits made.room ∙ l) o
