use Rattle.std.proofs.Common.{Some, sym, ap, ◌∙◌, mod-eq_of_lt, arith}
use Rattle.kinds.specs.Bytes.{byte_path, byte_form}
use Rattle.kinds.specs.Numbers.{symbol_of_below}
use Rattle.kinds.proofs.byte.calls.BytePrinted.of_number.Goals as goal

pub returns-then-n-le-TOP : goal.returns-then-n-le-TOP
returns-then-n-le-TOP c =
    let h = c.if-n-le-TOP.true in
    ap Some (byte_path _ _ (sym (mod-eq_of_lt (omega arith)))) ∙ sym (symbol_of_below byte_form c.args.n h)
