use Rattle.std.proofs.Common.{◌≡◌, ◌-◌, length, Err, sym, ap, ◌∙◌, arith, length-drop}
use Rattle.std.proofs.lemmas.Result.{err_from_is_err_and}
use Rattle.text.specs.Reading.{symbols_read}
use Rattle.text.proofs.Symbols.{fields_left, check_refused, check_passed}
use Rattle.text.proofs.read.check_fields.Goals as goal

pub returns-in_err-next_symbol : goal.returns-in_err-next_symbol
returns-in_err-next_symbol g c =
    let F = g.P.Printed.form in
    let p = err_from_is_err_and c.from_residual.result c.from_residual.ensures.1 in
    p.1 ∙ (ap Err p.2
    ∙ sym (check_refused F c.loop.part.at c.next_symbol.new.part.at c.args.count c.loop.counter c.loop.part.bytes.now
    c.next_symbol.new.part.bytes.now c.next_symbol.result c.loop-test.true c.next_symbol.ensures.first
    c.next_symbol.ensures.at c.next_symbol.ensures.rest
    (symbols_read F c.args.part.at c.args.count c.args.part.bytes.now) c.loop.invariant.reads
    c.in_err-next_symbol.field-0.0 c.in_err-next_symbol.was))

pub loop-preserved : goal.loop-preserved
loop-preserved g c =
    let F = g.P.Printed.form in
    let w = F.layout.width in
    let l = fields_left c.args.count c.loop.counter w c.loop-test.true in
    let d : length c.next_symbol.new.part.bytes.now ≡ length c.loop.part.bytes.now - F.layout.width =
    ap length c.next_symbol.ensures.rest ∙ length-drop w c.loop.part.bytes.now in
    record {
      reads = check_passed F c.loop.part.at c.next_symbol.new.part.at c.args.count c.loop.counter c.loop.part.bytes.now
          c.next_symbol.new.part.bytes.now c.next_symbol.result c.loop-test.true c.next_symbol.ensures.first
          c.next_symbol.ensures.at c.next_symbol.ensures.rest
          (symbols_read F c.args.part.at c.args.count c.args.part.bytes.now) c.loop.invariant.reads
          c.in_ok-next_symbol.field-0 c.in_ok-next_symbol.was;
      fill = omega arith;
      short = omega arith;
    }
