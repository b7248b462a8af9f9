use Rattle.std.proofs.Common.{◌≡◌, ◌+◌, ◌*◌, length, take, sym, ap, ◌∙◌}
use Rattle.std.specs.Iterator.Adapters.{zip_first, zip_second}
use Rattle.std.specs.Slice.Iter.{iter_rest}
use Rattle.std.proofs.lemmas.List.{length_push}
use Rattle.std.proofs.lemmas.Slice.Zip.{zip_turn}
use Rattle.lines.specs.Lines.{due_field, due_fields}
use Rattle.lines.proofs.Pieces.{puts_more, due_more}
use Rattle.lines.proofs.Rooms.{times_more}
use Rattle.lines.proofs.pen.LinePen.due_symbols.Goals as goal

pub loop-symbol-preserved : goal.loop-symbol-preserved
loop-symbol-preserved g c =
    let F = g.P.Printed.form in
    let row = c.args.row.now in
    let marks = c.args.marks.now in
    let i = length c.loop-symbol.yielded in
    let k : c.layout-width.result.width ≡ g.P.Printed.form.layout.width = ap (λ x. x.width) c.layout-width.ensures in
    let first : iter_rest (zip_first c.into_iter-symbol-iterator.result) ≡ c.args.row.now = cc in
    let second : iter_rest (zip_second c.into_iter-symbol-iterator.result) ≡ c.args.marks.now = cc in
    let t = zip_turn row marks c.loop-symbol.yielded c.into_iter-symbol-iterator.result c.loop-symbol.symbol-iterator
    c.next.new.self c.next.result first second c.loop-symbol.yielded_by (c.in-Some.symbol, c.in-Some.mark) c.in-Some.is
    c.next.ensures.steps in
    let n = length_push c.loop-symbol.yielded (c.in-Some.symbol, c.in-Some.mark) in
    puts_more c.args.self.now c.loop-symbol.self c.due_symbol.new.self (i * F.layout.width) c.layout-width.result.width _
    (due_fields F (take i row) (take i marks)) (due_field F c.in-Some.mark.now c.in-Some.symbol.now) _ c.loop-symbol.invariant c.due_symbol.ensures
    (ap (λ x. x * F.layout.width) n ∙ (times_more i F.layout.width ∙ ap (λ x. i * F.layout.width + x) (sym k)))
    (ap (λ x. due_fields F (take x row) (take x marks)) n
    ∙ due_more F row marks i c.in-Some.symbol.now c.in-Some.mark.now t.0 c.requires.paired (t.2 c.in-Some.symbol.now)
    (t.3 c.in-Some.mark.now))
