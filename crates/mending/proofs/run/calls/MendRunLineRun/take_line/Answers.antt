use Rattle.std.proofs.Common.{Ok, vec_items, sym, refl, ap, ◌∙◌}
use Rattle.runs.specs.Runs.{mend_read, mend_place}
use Rattle.opening.proofs.Taking.{heard}
use Rattle.mending.proofs.Taking.{packet_took, missed_took, fault_took}
use Rattle.mending.proofs.run.calls.MendRunLineRun.take_line.Goals as goal

pub returns-in_ok-take_arrived-in-Ok-Arrived : goal.returns-in_ok-take_arrived-in-Ok-Arrived
returns-in_ok-take_arrived-in-Ok-Arrived g c =
    let F = g.P.Printed.form in
    let r = c.args.self.now in
    packet_took g.P.Symbol.kind F r _ c.take_arrived.new.self c.args.line.now (vec_items c.args.out.now) (vec_items c.take_arrived.new.out) _ refl refl refl refl
    (heard (mend_read F) (mend_place F) r.reader.standing _ c.args.line.now _ r.packet _ c.read.new.packet c.as_mut_slice.ensures.value c.as_mut_slice.ensures.len c.read.auto.packet
    c.read.ensures.answer c.read.ensures.standing c.read.ensures.place)
    c.in-Ok-Arrived.field-0-0 (sym (c.in-Ok-Arrived.is ∙ ap Ok c.in-Ok-Arrived.field-0-is)) c.in_ok-take_arrived-in-Ok-Arrived.ensures

pub returns-in_ok-take_missed-in-Ok-Missed : goal.returns-in_ok-take_missed-in-Ok-Missed
returns-in_ok-take_missed-in-Ok-Missed g c =
    let F = g.P.Printed.form in
    let r = c.args.self.now in
    missed_took g.P.Symbol.kind F r _ c.take_missed.new.self c.args.line.now (vec_items c.args.out.now) (vec_items c.take_missed.new.out) _ refl refl refl refl
    (heard (mend_read F) (mend_place F) r.reader.standing _ c.args.line.now _ r.packet _ c.read.new.packet c.as_mut_slice.ensures.value c.as_mut_slice.ensures.len c.read.auto.packet
    c.read.ensures.answer c.read.ensures.standing c.read.ensures.place)
    c.in-Ok-Missed.field-0-0 (sym (c.in-Ok-Missed.is ∙ ap Ok c.in-Ok-Missed.field-0-is)) c.in_ok-take_missed-in-Ok-Missed.ensures

pub returns-in_ok-print_fault-in-Err : goal.returns-in_ok-print_fault-in-Err
returns-in_ok-print_fault-in-Err g c =
    let F = g.P.Printed.form in
    let r = c.args.self.now in
    fault_took g.P.Symbol.kind F r _ _ c.args.line.now (vec_items c.args.out.now) (vec_items c.print_fault.new.out) _ refl refl refl refl
    (heard (mend_read F) (mend_place F) r.reader.standing _ c.args.line.now _ r.packet _ c.read.new.packet c.as_mut_slice.ensures.value c.as_mut_slice.ensures.len c.read.auto.packet
    c.read.ensures.answer c.read.ensures.standing c.read.ensures.place)
    c.in-Err.fault (sym c.in-Err.is) refl c.in_ok-print_fault-in-Err.ensures
