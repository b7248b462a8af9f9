use Rattle.std.proofs.Common.{◌≡◌, false, sym, ◌∙◌, subst}
use Rattle.piping.specs.Pumping.{PieceFed}
use Rattle.piping.proofs.Turns.{writes, turns, stops, ends}
use Rattle.piping.proofs.flow.pump_from.Goals as goal

pub returns-then-is_paused : goal.returns-then-is_paused
returns-then-is_paused g c =
    let none = c.in_ok-write_out.ensures.none in
    stops g.R.LineRun.rest g.R.LineRun.sound g.R.LineRun.paused
    (writes g.R.LineRun.rest g.R.LineRun.sound g.R.LineRun.paused _ c.loop-turn.invariant c.in_ok-write_out.ensures.wrote none)
    none (sym c.is_paused.ensures ∙ c.if-is_paused.true)

pub loop-turn-preserved : goal.loop-turn-preserved
loop-turn-preserved g c =
    turns g.R.LineRun.rest g.R.LineRun.sound g.R.LineRun.paused _
    (writes g.R.LineRun.rest g.R.LineRun.sound g.R.LineRun.paused _ c.loop-turn.invariant c.in_ok-write_out.ensures.wrote c.in_ok-write_out.ensures.none)
    (sym c.is_paused.ensures ∙ c.if-is_paused.false) c.in_ok-feed_piece.ensures

pub returns-then-not-branch : goal.returns-then-not-branch
returns-then-not-branch g c =
    let over : c.in_ok-feed_piece.field-0 ≡ false = c.if-not-branch.true in
    ends g.R.LineRun.rest g.R.LineRun.sound g.R.LineRun.paused _
    (writes g.R.LineRun.rest g.R.LineRun.sound g.R.LineRun.paused _ c.loop-turn.invariant c.in_ok-write_out.ensures.wrote c.in_ok-write_out.ensures.none)
    (sym c.is_paused.ensures ∙ c.if-is_paused.false)
    (subst (PieceFed g.R.LineRun.rest g.R.LineRun.sound g.R.LineRun.paused _ _ _ _ _ _ _ _) over c.in_ok-feed_piece.ensures)
    c.in_ok-finish.ensures c.in_ok-write_out-2.ensures.wrote c.in_ok-write_out-2.ensures.none
