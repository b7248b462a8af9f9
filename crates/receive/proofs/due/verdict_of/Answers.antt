use Rattle.std.proofs.Common.{◌≡◌, ◌≤◌, Bool, true, false, cond, get_or, refl, ap, ◌∙◌, arith}
use mir.Val.{bool_byte}
use denote.Enum.Bare.{sameb}
use Rattle.code.specs.contracts.mark.Mark.{the_type}
use Rattle.code.specs.declared.mark.Mark.{Mark}
use Rattle.receive.specs.Handing.{is_mended, is_lost}
use Rattle.receive.proofs.Judging.{counted_more, lost_verdict, mended_verdict, whole_verdict}
use Rattle.receive.proofs.due.verdict_of.Goals as goal

one_mended : (x : Mark) → bool_byte (sameb the_type x Mark.Mended) ≡ cond (is_mended x) 1 0
one_mended Mark.Arrived = refl
one_mended Mark.Mended = refl
one_mended Mark.Lost = refl

one_lost : (x : Mark) → bool_byte (sameb the_type x Mark.Lost) ≡ cond (is_lost x) 1 0
one_lost Mark.Arrived = refl
one_lost Mark.Mended = refl
one_lost Mark.Lost = refl

one_at_most : (x : Bool) → bool_byte x ≤ 1
one_at_most true = omega arith
one_at_most false = omega arith

pub loop-mark-preserved : goal.loop-mark-preserved
loop-mark-preserved c =
    let marks = c.args.marks.now in
    let i = c.loop-mark.mark-index in
    let x = get_or marks i Mark.Arrived in
    let v = c.loop-mark.invariant in (
      counted_more is_mended marks i Mark.Arrived c.loop-mark.mended _ c.loop-mark-test.true v.0 (c.from-mended.ensures ∙ ap bool_byte c.eq.ensures ∙ one_mended x),
      counted_more is_lost marks i Mark.Arrived c.loop-mark.lost _ c.loop-mark-test.true v.1 (c.from-lost.ensures ∙ ap bool_byte c.eq-in-loop-mark.ensures ∙ one_lost x),
      omega (arith, c.from-mended.ensures, one_at_most c.eq.result, v.2),
      omega (arith, c.from-lost.ensures, one_at_most c.eq-in-loop-mark.result, v.3),
    )

pub returns-then-lost-gt0 : goal.returns-then-lost-gt0
returns-then-lost-gt0 c =
    let v = c.loop-mark.invariant in
    lost_verdict c.args.marks.now c.loop-mark.mark-index _ _ c.loop-mark-test.false v.0 v.1
    c.unwrap_or-first.result c.first_lost.result c.if-lost-gt0.true c.first_lost.ensures c.unwrap_or-first.ensures

pub returns-then-mended-gt0 : goal.returns-then-mended-gt0
returns-then-mended-gt0 c =
    let v = c.loop-mark.invariant in
    mended_verdict c.args.marks.now c.loop-mark.mark-index _ _ c.loop-mark-test.false v.0 v.1 c.if-lost-gt0.false c.if-mended-gt0.true

pub returns-else-mended-gt0 : goal.returns-else-mended-gt0
returns-else-mended-gt0 c =
    let v = c.loop-mark.invariant in
    whole_verdict c.args.marks.now c.loop-mark.mark-index _ _ c.loop-mark-test.false v.0 v.1 c.if-lost-gt0.false c.if-mended-gt0.false
