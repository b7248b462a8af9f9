-- Runs of calls on one sender. Assumes nothing.
use Rattle.std.specs.Prelude.{List, [], ◌∷◌}
use Rattle.kinds.specs.Kind.{Kind}
use Rattle.transmit.specs.declared.sender.Sender.{Sender}
use Rattle.transmit.specs.declared.sender.WindingSender.{WindingSender}
use Rattle.transmit.specs.declared.sender.Sent.{Sent}
use Rattle.transmit.specs.Calls.{Put, Drawn, PutCall, WindCall, TailCall, EndCall}

-- a sender takes rows, or is winding down, or has ended
pub data Standing (S : Type 0) : Type 0 where
  taking : Sender S → Standing S
  winding : WindingSender S → Standing S
  ended : Standing S

-- a call, with what it was given and what it answered
pub data Event (S : Type 0) : Type 0 where
  put : Put S → Event S
  wind : Event S
  tail : Drawn S → Event S
  end : Sent S → Event S

-- these calls, one after the other, lead from the first standing to the second
pub data Run {S : Type 0} (K : Kind S) : Standing S → List (Event S) → Standing S → Type 0 where
  stop : {s : Standing S} → Run K s [] s
  put_call : {s s' : Sender S} {q : Standing S} {c : Put S} {es : List (Event S)} →
      PutCall K s s' c → Run K (taking s') es q → Run K (taking s) (put c ∷ es) q
  wind_call : {s : Sender S} {v : WindingSender S} {q : Standing S} {es : List (Event S)} →
      WindCall K s v → Run K (winding v) es q → Run K (taking s) (wind ∷ es) q
  tail_call : {v v' : WindingSender S} {q : Standing S} {c : Drawn S} {es : List (Event S)} →
      TailCall K v v' c → Run K (winding v') es q → Run K (winding v) (tail c ∷ es) q
  end_call : {v : WindingSender S} {told : Sent S} → EndCall v told → Run K (winding v) (end told ∷ []) ended
