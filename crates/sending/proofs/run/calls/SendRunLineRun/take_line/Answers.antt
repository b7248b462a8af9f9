use Rattle.std.proofs.Common.{Ok, vec_items, sym, refl, ap, ◌∙◌}
use Rattle.runs.specs.Runs.{send_read, send_place}
use Rattle.opening.proofs.Taking.{heard}
use Rattle.sending.proofs.Taking.{row_took, fault_took}
use Rattle.sending.proofs.run.calls.SendRunLineRun.take_line.Goals as goal

pub returns-in_ok-put_row-in-Ok-Row : goal.returns-in_ok-put_row-in-Ok-Row
returns-in_ok-put_row-in-Ok-Row g c =
    let F = g.P.Printed.form in
    let r = c.args.self.now in
    row_took g.P.Symbol.kind F r _ c.put_row.new.self c.args.line.now (vec_items c.args.out.now) (vec_items c.put_row.new.out) _ refl refl refl
    (heard (send_read F) (send_place F) r.reader.standing _ c.args.line.now _ r.row _ c.read.new.row c.as_mut_slice.ensures.value c.as_mut_slice.ensures.len c.read.auto.row
    c.read.ensures.answer c.read.ensures.standing c.read.ensures.place)
    c.in-Ok-Row.number (sym (c.in-Ok-Row.is ∙ ap Ok c.in-Ok-Row.field-0-is)) c.in_ok-put_row-in-Ok-Row.ensures

pub returns-in_ok-print_fault-in-Err : goal.returns-in_ok-print_fault-in-Err
returns-in_ok-print_fault-in-Err g c =
    let F = g.P.Printed.form in
    let r = c.args.self.now in
    fault_took g.P.Symbol.kind F r _ _ c.args.line.now (vec_items c.args.out.now) (vec_items c.print_fault.new.out) _ refl refl refl
    (heard (send_read F) (send_place F) r.reader.standing _ c.args.line.now _ r.row _ c.read.new.row c.as_mut_slice.ensures.value c.as_mut_slice.ensures.len c.read.auto.row
    c.read.ensures.answer c.read.ensures.standing c.read.ensures.place)
    c.in-Err.fault (sym c.in-Err.is) refl c.in_ok-print_fault-in-Err.ensures
