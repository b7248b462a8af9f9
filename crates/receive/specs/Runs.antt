-- Runs of calls on one receiver. Assumes nothing.
use Rattle.std.specs.Prelude.{List, [], ◌∷◌, Option}
use Rattle.kinds.specs.Kind.{Kind}
use Rattle.receive.specs.declared.receiver.Receiver.{Receiver}
use Rattle.receive.specs.declared.tally.Tally.{Tally}
use Rattle.receive.specs.Handing.{Reply}
use Rattle.receive.specs.Calls.{SlotCall, TallyCall}

-- a slot call, with what came and what it gave back; or a tally, and what it told
pub data Event (S : Type 0) : Type 0 where
  slot : Option (List S) → Reply S → Event S
  tally : Tally → Event S

-- these calls, one after the other, take the first receiver to the second
pub data Run {S : Type 0} (K : Kind S) : Receiver S → List (Event S) → Receiver S → Type 0 where
  stop : {r : Receiver S} → Run K r [] r
  slot_call : {r s q : Receiver S} {came : Option (List S)} {a : Reply S} {es : List (Event S)} →
      SlotCall K r s came a → Run K s es q → Run K r (slot came a ∷ es) q
  tally_call : {r q : Receiver S} {told : Tally} {es : List (Event S)} →
      TallyCall r told → Run K r es q → Run K r (tally told ∷ es) q
