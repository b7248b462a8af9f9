use Rattle.std.proofs.Common.{◌≡◌, Ok, arith}
use Rattle.std.proofs.lemmas.Grind.{common_steps}
use Rattle.text.specs.Reading.{symbols_of, told}
use Rattle.text.proofs.Inverses.{symbols_parts}
use Rattle.text.proofs.LineReads.{misfitting}
use Rattle.text.proofs.Symbols.{length_read}
use Rattle.text.proofs.read.read_symbols.Goals as goal

pub returns-then-place-count-clause-answer : goal.returns-then-place-count-clause-answer
returns-then-place-count-clause-answer g c =
    let F = g.P.Printed.form in
    let line = c.args.line.now in
    let reads : told (symbols_of g.P.Printed.form c.args.letter c.args.count c.args.next c.args.line.now) ≡ Ok tt =
    grind (arith, common_steps) in
    misfitting c.args.misfit c.args.place.now _ c.args.count reads
    (λ xs h. length_read F c.args.count 10 _ xs (symbols_parts F c.args.letter c.args.count c.args.next line xs h).1)
    c.if-place-count.true
