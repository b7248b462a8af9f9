use Rattle.std.proofs.Common.{◌+◌, ◌-◌, ◌*◌, take, drop, ◌∙◌, ap₂}
use borrow.Rule.Slice.PartMut.{put_mid}
use Rattle.line.specs.Ring.{added}
use Rattle.line.specs.Line.{contents}
use Rattle.code.proofs.Pieces.{at_column}
use Rattle.transmit.proofs.Adding.{too_early, one_block, enough}
use Rattle.transmit.proofs.parities.add_block.Goals as goal

pub returns-then-slots-block : goal.returns-then-slots-block
returns-then-slots-block g c = λ was. was ∙ too_early g.S.Symbol.kind c.args.block c.args.line.now c.args.slots c.if-slots-block.true

pub overflow_sub-steps : goal.overflow_sub-steps
overflow_sub-steps g c = enough c.args.block

pub returns : goal.returns
returns g c = λ was.
    let K = g.S.Symbol.kind in
    let b = c.args.block in
    let place = c.args.place.now in
    let line = c.args.line.now in
    let part = c.add_back.new.place in
    let steps = b.lag * b.sheet.row - b.first in
    let column = c.column-column.ensures ∙ at_column b in
    ap₂ (λ a s. put_mid a ((a + s) - a) place part) column c.len-size.ensures
    ∙ one_block K b line c.args.slots place part c.if-slots-block.false c.requires was
    (c.add_back.ensures ∙ ap₂ (λ a s. added K (contents line) steps (take ((a + s) - a) (drop a place))) column c.len-size.ensures)
