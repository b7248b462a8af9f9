use Rattle.std.proofs.Common.{◌≡◌, ◌≤◌, length, ap, ◌∙◌, arith, length-set}
use Rattle.lines.specs.Fields.{field}
use Rattle.lines.proofs.Columns.{turn, less_left, opening, closing}
use Rattle.lines.proofs.field.put_field.Goals as goal

pub loop-i-init : goal.loop-i-init
loop-i-init c = (
  opening c.args.place.now c.args.number c.requires.some,
  less_left (length c.args.place.now) c.args.number c.requires.some c.requires.room,
)

pub loop-i-preserved : goal.loop-i-preserved
loop-i-preserved c =
    let w : length c.loop-i.place ≡ length c.args.place.now = c.loop-i.auto.place ∙ length-set _ _ _ in
    let l : c.loop-i.i ≤ length c.loop-i.place = omega arith in (
      turn c.loop-i.i c.loop-i.left c.args.number c.column.result c.loop-i.place
          c.loop-i-test.true l c.column.ensures c.loop-i.invariant.0,
      less_left c.loop-i.i c.loop-i.left c.loop-i-test.true c.loop-i.invariant.1,
    )

pub returns : goal.returns
returns c =
    let w : length c.loop-i.place ≡ length c.args.place.now = c.loop-i.auto.place ∙ length-set _ _ _ in
    closing c.loop-i.i c.loop-i.left c.loop-i.place _ c.loop-i-test.false c.loop-i.invariant.1 c.loop-i.invariant.0
    ∙ ap (λ x. field x c.args.number) w
