use Rattle.piping.proofs.Turns.{fresh}
use Rattle.piping.proofs.flow.pump.Goals as goal

pub returns : goal.returns
returns g c = fresh g.R.LineRun.rest g.R.LineRun.sound g.R.LineRun.paused c.new-feed.ensures c.new-printed.ensures.items c.in_ok-pump_from.ensures
