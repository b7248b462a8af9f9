use Rattle.receive.specs.Driving.{slots_of}
use Rattle.receive.proofs.Driving.{Taking}
use Rattle.receive.proofs.receiver.Receiver.take_slots.Given as goal

abbrev pub invariant-loop-i : goal.invariant-loop-i
invariant-loop-i g l =
    Taking g.S.Symbol.kind l.initial.self.sheet l.initial.self.counters.slots l.initial.self
    (slots_of l.states l.packets l.initial.rows l.rows l.initial.marks l.marks) l.i l.self l.handed
