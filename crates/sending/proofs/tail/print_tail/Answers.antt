use Rattle.std.proofs.Common.{◌+◌, ◌++◌, length, vec_items, ap, ◌∙◌, arith}
use Rattle.sending.specs.Printing.{packet_text}
use Rattle.sending.proofs.Tailing.{begins, drawn, stops, all_drawn}
use Rattle.sending.proofs.tail.print_tail.Goals as goal

pub loop-slot-init : goal.loop-slot-init
loop-slot-init g c = (
  0,
  omega arith,
  begins g.P.Symbol.kind g.P.Printed.form c.args.sheet c.args.rows c.args.winding.now (length c.args.packet.now) (vec_items c.args.out.now),
)

pub returns-in-Err : goal.returns-in-Err
returns-in-Err g c = λ w.
    let now = c.loop-slot.invariant in
    stops g.P.Symbol.kind g.P.Printed.form c.args.sheet c.args.rows c.args.winding.now (length c.args.packet.now) (vec_items c.args.out.now)
    c.loop-slot.winding c.tail.new.self now.0 (vec_items c.loop-slot.out) (vec_items c.print_fault.new.out) c.loop-slot.packet c.tail.new.place c.tail.result
    (omega arith) c.loop-slot.auto.packet c.tail.ensures (now.2 w) c.requires c.in-Err.refusal c.in-Err.is c.in_ok-print_fault-in-Err.ensures

pub loop-slot-preserved : goal.loop-slot-preserved
loop-slot-preserved g c =
    let now = c.loop-slot.invariant in (
      now.0 + 1,
      omega arith,
      λ w.
          drawn g.P.Symbol.kind g.P.Printed.form c.args.sheet c.args.rows c.args.winding.now (length c.args.packet.now) (vec_items c.args.out.now)
          c.loop-slot.winding c.tail.new.self now.0 (vec_items c.loop-slot.out) (vec_items c.print_packet.new.out) c.loop-slot.packet c.tail.new.place c.tail.result
          (omega arith) c.loop-slot.auto.packet c.tail.ensures (now.2 w) c.in-Ok.is
          (c.in_ok-print_packet-in-Ok.ensures ∙ ap (λ slot. vec_items c.loop-slot.out ++ packet_text g.P.Printed.form c.args.sheet slot c.tail.new.place) now.1),
    )

pub returns : goal.returns
returns g c = λ w.
    let now = c.loop-slot.invariant in
    all_drawn g.P.Symbol.kind g.P.Printed.form c.args.sheet c.args.rows c.args.winding.now (length c.args.packet.now) (vec_items c.args.out.now)
    c.loop-slot.winding (vec_items c.loop-slot.out) now.0 (omega arith) (now.2 w)
