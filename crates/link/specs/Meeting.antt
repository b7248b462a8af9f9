-- The two ends meet. Assumes nothing.
use Rattle.std.specs.Prelude.{◌≡◌, ℕ, List, ◌∷◌, ◌++◌, Some, Ok}
use Rattle.kinds.specs.Kind.{Kind}
use Rattle.code.specs.declared.sheet.Sheet.{Sheet}
use Rattle.transmit.specs.declared.sender.Sender.{Sender}
use Rattle.transmit.specs.Calls.{Put, Drawn}
use Rattle.transmit.specs.Runs as sending
use Rattle.transmit.specs.Law.{rows_put, used, list_of}
use Rattle.receive.specs.Runs as receiving
use Rattle.receive.specs.Law.{history, Sent}

-- the packet q was written for slot t in a sending run, by a putting call or by a tail call
pub data Wrote {S : Type 0} (es : List (sending.Event S)) (t : ℕ) (q : List S) : Type 0 where
  by_put : (past later : List (sending.Event S)) (c : Put S) → es ≡ past ++ (sending.put c ∷ later) → c.answer ≡ Ok tt →
      used past ≡ t → q ≡ c.place' → Wrote es t q
  by_tail : (past later : List (sending.Event S)) (c : Drawn S) → es ≡ past ++ (sending.tail c ∷ later) → c.answer ≡ Ok tt →
      used past ≡ t → q ≡ c.place' → Wrote es t q

-- If every packet that arrives in a run of a receiver was written for that slot in one run of the sender s, then the packets
-- are those of the rows that were put, zeros elsewhere: what the law over the receiver's run assumes.
abbrev pub Meet : {S : Type 0} → Kind S → Sheet → Sender S → Type 0
Meet {S} K p s =
    (es : List (sending.Event S)) (e : sending.Standing S) → sending.Run K (sending.taking s) es e →
    (fs : List (receiving.Event S)) → ((t : ℕ) (q : List S) → history fs t ≡ Some q → Wrote es t q) →
    Sent K p (list_of K (rows_put es)) fs
