use Rattle.std.proofs.Common.{length, sym, ◌∙◌}
use Rattle.code.specs.Mending.{heard}
use Rattle.receive.specs.Memory.{memory}
use Rattle.receive.proofs.Settling.{arrived_row, arrived_marks, whole_verdict}
use Rattle.receive.proofs.receiver.Receiver.write_row.Goals as goal

pub returns-then-heard : goal.returns-then-heard
returns-then-heard g c =
    let K = g.S.Symbol.kind in
    let r = c.args.self.now in
    let came = sym c.if-heard.ensures in
    let marks-are = arrived_marks r.sheet (heard (memory K r)) c.args.row came _ c.requires.marks in
    record {
      symbols = c.copy_back.ensures ∙ arrived_row K r c.args.row came _ _ c.steps_to.ensures c.requires.symbols;
      marks = c.mark_all.ensures ∙ marks-are;
      verdict = whole_verdict _ (length c.args.marks.now) (sym marks-are);
    }
