use Rattle.std.proofs.Common.{◌<◌, length, subst, rules}
use Rattle.std.specs.Io.BufRead.{FillKeeps}
use Rattle.piping.proofs.Turns.{fed}
use Rattle.piping.proofs.flow.feed_piece.Goals as goal

pub returns : goal.returns
returns g c =
    let rested = c.fill_buf.follows.lender-at-none in
    let kept = subst (FillKeeps _ (g.I.Read.remaining rested) (g.I.BufRead.consumable_len rested)) c.in_ok-piece.was c.fill_buf.follows.holds-at-none in
    let some : 0 < length c.in_ok-piece.piece.now = search rules in
    fed g.R.LineRun.rest g.R.LineRun.sound g.R.LineRun.paused (g.I.Read.remaining rested) (g.I.BufRead.consumable_len rested)
    c.in_ok-piece.piece.now c.in_ok-used.used some c.in_ok-piece.ensures.front kept.0 kept.1 c.in_ok-used.ensures c.consume.ensures.bytes
