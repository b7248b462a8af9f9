use Rattle.std.proofs.Common.{vec_items}
use Rattle.piping.proofs.Turns.{Goes}
use Rattle.piping.proofs.flow.pump_from.Given as goal

abbrev pub invariant-loop-turn : goal.invariant-loop-turn
invariant-loop-turn g l =
    Goes g.R.LineRun.rest g.R.LineRun.sound g.R.LineRun.paused l.fn.run l.run (vec_items l.fn.feed.held) (vec_items l.feed.held)
    (vec_items l.fn.printed) (vec_items l.printed)
    (g.I.Read.remaining l.fn.input) (g.I.Read.remaining l.input) (g.O.Write.contents l.fn.output) (g.O.Write.contents l.output)
