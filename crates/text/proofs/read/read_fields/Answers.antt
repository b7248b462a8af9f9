use Rattle.std.proofs.Common.{◌≡◌, ◌-◌, length, ap, ◌∙◌, arith, length-drop}
use Rattle.std.proofs.lemmas.Result.{err_from_is_err_and}
use Rattle.text.specs.Reading.{symbols_read}
use Rattle.text.proofs.Symbols.{fields_left, refused, taken, all_read}
use Rattle.text.proofs.read.read_fields.Goals as goal

pub returns-in_err-symbol : goal.returns-in_err-symbol
returns-in_err-symbol g c =
    let F = g.P.Printed.form in
    let p = err_from_is_err_and c.from_residual.result c.from_residual.ensures.1 in
    let count = length c.args.symbols.now in
    rw (p.1, p.2)
    (refused F c.loop-symbol.part.at c.next_symbol.new.part.at count c.loop-symbol.symbol-index c.loop-symbol.part.bytes.now
    c.next_symbol.new.part.bytes.now c.next_symbol.result c.loop-symbol-test.true c.next_symbol.ensures.first
    c.next_symbol.ensures.at c.next_symbol.ensures.rest c.loop-symbol.symbols
    (symbols_read F c.args.part.at count c.args.part.bytes.now) c.loop-symbol.invariant.reads
    c.in_err-symbol.field-0.0 c.in_err-symbol.was)

pub loop-symbol-preserved : goal.loop-symbol-preserved
loop-symbol-preserved g c =
    let F = g.P.Printed.form in
    let w = F.layout.width in
    let count = length c.args.symbols.now in
    let l = fields_left (length c.args.symbols.now) c.loop-symbol.symbol-index w c.loop-symbol-test.true in
    let d : length c.next_symbol.new.part.bytes.now ≡ length c.loop-symbol.part.bytes.now - F.layout.width =
    ap length c.next_symbol.ensures.rest ∙ length-drop w c.loop-symbol.part.bytes.now in
    record {
      reads = taken F c.loop-symbol.part.at c.next_symbol.new.part.at count c.loop-symbol.symbol-index
          c.loop-symbol.part.bytes.now c.next_symbol.new.part.bytes.now c.next_symbol.result
          c.loop-symbol-test.true c.next_symbol.ensures.first c.next_symbol.ensures.at c.next_symbol.ensures.rest
          c.loop-symbol.symbols (symbols_read F c.args.part.at count c.args.part.bytes.now)
          c.loop-symbol.invariant.reads (omega arith) c.in_ok-symbol.field-0 c.in_ok-symbol.was;
      fill = omega arith;
      short = omega arith;
    }

pub returns : goal.returns
returns g c =
    c.loop-symbol.invariant.reads
    ∙ all_read g.P.Printed.form c.loop-symbol.part.at (length c.args.symbols.now) c.loop-symbol.symbol-index
    c.loop-symbol.part.bytes.now c.loop-symbol.symbols c.loop-symbol-test.false (omega arith)
