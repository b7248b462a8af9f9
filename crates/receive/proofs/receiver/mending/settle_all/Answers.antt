use Rattle.std.proofs.Common.{◌≡◌, ◌-◌, ◌<◌, length, get_or, sym, ap, ◌∙◌, ap₂, arith}
use Rattle.code.specs.declared.mark.Mark.{Mark}
use Rattle.line.specs.Ring.{symbol_back}
use Rattle.line.specs.Line.{contents}
use Rattle.line.proofs.Filling.{filled_read, filled_more, filled_all}
use Rattle.receive.specs.Blocks.{settled}
use Rattle.receive.proofs.receiver.mending.settle_all.Goals as goal

pub loop-i-preserved : goal.loop-i-preserved
loop-i-preserved g c =
    let K = g.S.Symbol.kind in
    let i = c.loop-i.i in
    let places = c.loop-i.places in
    let old = c.args.places.now in
    let within : i < length places = omega arith in
    let was : c.index-places-i.result ≡ get_or old i K.zero =
    filled_read _ old i c.index-places-i.result K.zero places within c.loop-i.invariant c.index-places-i.is in
    let is : c.back_or_zero-parity.result ≡ symbol_back K.zero (contents c.args.line.now) (c.args.steps - i) =
    c.back_or_zero-parity.ensures ∙ ap (symbol_back K.zero (contents c.args.line.now)) c.saturating_sub.ensures in
    filled_more _ old i c.settle.result places (omega arith) c.loop-i.invariant
    (c.settle.ensures ∙ ap₂ (settled K (get_or c.args.outlooks.now i Mark.Arrived)) is (sym c.index-places-i.is ∙ was))

pub returns : goal.returns
returns g c = filled_all _ c.args.places.now c.loop-i.i c.loop-i.places (omega arith) c.loop-i.invariant
