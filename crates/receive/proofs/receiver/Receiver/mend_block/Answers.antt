use Rattle.std.proofs.Common.{◌≡◌, ◌+◌, ◌-◌, sym, ap, ◌∙◌, arith}
use Rattle.code.specs.declared.sheet.Sheet.{Sheet}
use Rattle.code.proofs.Pieces.{at_column}
use Rattle.receive.specs.Memory.{memory}
use Rattle.receive.proofs.Reading.{read_back}
use Rattle.receive.proofs.Settling.{lost_symbols, lost_marks, mended_symbols, mended_marks}
use Rattle.receive.proofs.receiver.Receiver.mend_block.Goals as goal

pub returns-then-not-heard : goal.returns-then-not-heard
returns-then-not-heard g c =
    let K = g.S.Symbol.kind in
    let h = memory K c.args.self.now in
    let silent = sym c.heard.ensures ∙ c.if-not-heard.true in
    record {
      symbols = c.clear.ensures ∙ lost_symbols K h c.args.row c.args.block c.requires.sheet c.requires.missed silent _ c.requires.symbols;
      marks = c.mark_all.ensures ∙ lost_marks K h c.args.row c.args.block c.requires.sheet c.requires.missed silent _ c.requires.marks;
    }

pub returns : goal.returns
returns g c =
    let K = g.S.Symbol.kind in
    let r = c.args.self.now in
    let p = r.sheet in
    let b = c.args.block in
    let came = sym c.heard.ensures ∙ c.if-not-heard.false in
    let stands : c.column.result ≡ p.parity - p.row = omega (arith, c.column.ensures, at_column b, ap (λ (q : Sheet). q.row) c.requires.sheet, ap (λ (q : Sheet). q.parity) c.requires.sheet) in
    record {
      symbols = mended_symbols K (memory K r) c.args.row b c.requires.sheet c.requires.missed came
          c.gather.new.outlooks _ c.gather.new.sums c.settle_all.new.places c.gather.ensures.outlooks c.gather.ensures.sums
          (λ i l. read_back K r (c.args.row + b.lag) (p.row + c.column.result) c.steps_to-steps.result i (p.row + ((p.parity - p.row) + i)) came c.steps_to-steps.ensures (omega arith) (omega arith))
          c.settle_all.ensures;
      marks = mended_marks K (memory K r) c.args.row b c.requires.sheet c.requires.missed came c.gather.new.outlooks c.gather.ensures.outlooks;
    }
