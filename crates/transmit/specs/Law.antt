-- The law over sending runs: what holds of all calls on one sender, whatever their number. Assumes nothing.
use Rattle.std.specs.Prelude.{◌≡◌, ℕ, ◌+◌, List, [], ◌∷◌, ◌++◌, length, drop, Ok, Err, Result, slice_index_or}
use Rattle.kinds.specs.Kind.{Kind}
use Rattle.code.specs.declared.refusal.PutRefusal.{PutRefusal}
use Rattle.code.specs.declared.refusal.TailRefusal.{TailRefusal}
use Rattle.code.specs.declared.sheet.Sheet.{Sheet}
use Rattle.code.specs.Packets.{Rows, packet}
use Rattle.transmit.specs.declared.sender.Sender.{Sender}
use Rattle.transmit.specs.declared.sender.Sent.{Sent}
use Rattle.line.specs.Line.{fitting}
use Rattle.transmit.specs.Keeping.{need}
use Rattle.transmit.specs.Refusing.{PutReason, TailReason}
use Rattle.transmit.specs.Calls.{Put, Drawn}
use Rattle.transmit.specs.Runs.{Standing, taking, Event, put, wind, tail, end, Run}

-- x goes in front where the call was not refused
abbrev pub keep_if : {E X : Type 0} → Result (Unit {0}) E → X → List X → List X
keep_if (Ok u) x xs = x ∷ xs
keep_if (Err e) x xs = xs

module _ {S : Type 0} where
  -- the rows that were put, in order: those of the putting calls that were not refused
  abbrev pub rows_put : List (Event S) → List (List S)
  rows_put [] = []
  rows_put (put c ∷ es) = keep_if c.answer c.row (rows_put es)
  rows_put (wind ∷ es) = rows_put es
  rows_put (tail c ∷ es) = rows_put es
  rows_put (end told ∷ es) = rows_put es

  -- the tail packets that were given
  abbrev pub tails_given : List (Event S) → List (List S)
  tails_given [] = []
  tails_given (put c ∷ es) = tails_given es
  tails_given (wind ∷ es) = tails_given es
  tails_given (tail c ∷ es) = keep_if c.answer c.place' (tails_given es)
  tails_given (end told ∷ es) = tails_given es

  -- the slots that these calls used
  abbrev pub used : List (Event S) → ℕ
  used es = length (rows_put es) + length (tails_given es)

-- these rows, and zeros everywhere else
abbrev pub list_of : {S : Type 0} → Kind S → List (List S) → Rows S
list_of K rows j b = slice_index_or (slice_index_or rows j []) b K.zero

module _ {S : Type 0} (K : Kind S) (p : Sheet) where
  -- the packet that slot t has from all the rows of a run
  abbrev pub packet_of : List (Event S) → ℕ → List S
  packet_of es t = packet K p (list_of K (rows_put es)) t

  -- The law of a run es of calls on one sender, made on the sheet p over a window that held `lent`.
  pub record Law (lent : List S) (es : List (Event S)) : Type 0 where
    -- A row that is put uses the next slot, and its packet is the one of all rows put in the run, zeros elsewhere.
    pub rows : (past later : List (Event S)) (c : Put S) → es ≡ past ++ (put c ∷ later) → c.answer ≡ Ok tt →
        c.place' ≡ packet_of es (used past)
    -- So does each tail packet.
    pub tails : (past later : List (Event S)) (c : Drawn S) → es ≡ past ++ (tail c ∷ later) → c.answer ≡ Ok tt →
        c.place' ≡ packet_of es (used past)
    -- A call is refused only for a reason that holds, and then its place keeps what it had.
    pub put_refusals : (past later : List (Event S)) (c : Put S) (e : PutRefusal) → es ≡ past ++ (put c ∷ later) → c.answer ≡ Err e →
        PutReason p (length lent) (used past) (length c.row) (length c.place) e × (c.place' ≡ c.place)
    pub tail_refusals : (past later : List (Event S)) (c : Drawn S) (e : TailRefusal) → es ≡ past ++ (tail c ∷ later) → c.answer ≡ Err e →
        TailReason p (length lent) (used past) (length (tails_given past)) (length c.place) e × (c.place' ≡ c.place)
    -- The end tells the rows put and the tail packets given, and gives back a window that has not changed past the part that
    -- a sender needs; where it was shorter, it has not changed at all.
    pub told : (past later : List (Event S)) (t : Sent S) → es ≡ past ++ (end t ∷ later) →
        (t.rows ≡ length (rows_put past)) × (t.tails ≡ length (tails_given past))
        × (drop (fitting (need p) (length lent)) t.window.now ≡ drop (fitting (need p) (length lent)) lent)

  -- whatever calls follow on the sender s
  abbrev pub Lawful : List S → Sender S → Type 0
  Lawful lent s = (es : List (Event S)) (q : Standing S) → Run K (taking s) es q → Law lent es
