use Rattle.std.proofs.Common.{length, vec_items}
use Rattle.stream.proofs.Turning.{Left, Goes}
use Rattle.stream.proofs.feed.LineFeed.feed.Given as goal

abbrev pub invariant-loop-rest : goal.invariant-loop-rest
invariant-loop-rest g l =
    Left l.bytes l.rest
    × Goes g.R.LineRun.rest g.R.LineRun.sound g.R.LineRun.paused l.initial.run l.run (vec_items l.initial.self.held)
    (vec_items l.self.held) l.bytes l.rest (vec_items l.initial.out) (vec_items l.out)

abbrev pub decreases-loop-rest : goal.decreases-loop-rest
decreases-loop-rest g l = length l.rest
