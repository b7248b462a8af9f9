use Rattle.std.proofs.Common.{sym}
use Rattle.stream.proofs.Turning.{less_left, turns, holds}
use Rattle.stream.proofs.feed.LineFeed.feed.Goals as goal

pub loop-rest-preserved : goal.loop-rest-preserved
loop-rest-preserved g c = (
  less_left _ _ _ _ c.loop-rest.invariant.0 c.in-Some.ensures.1,
  turns g.R.LineRun.rest g.R.LineRun.sound g.R.LineRun.paused _ _ _ _ _ _ _ _ _ _ _ _ _
      c.loop-rest.invariant.1 (sym c.loop-rest-test.ensures) c.in-Some.ensures.0 c.in-Some.ensures.1
      c.in_ok-end_line.ensures.took c.in_ok-end_line.ensures.held,
)

pub returns-in_default : goal.returns-in_default
returns-in_default g c =
    holds g.R.LineRun.rest g.R.LineRun.sound g.R.LineRun.paused _ _ _ _ _ _ _ _ _ _ _
    c.loop-rest.invariant.1 (sym c.loop-rest-test.ensures) c.in_default.ensures c.in_ok-hold.ensures
