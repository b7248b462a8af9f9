-- The law over runs: what holds of all calls on one receiver, whatever their number and order. Assumes nothing.
use Rattle.std.specs.Prelude.{◌≡◌, ℕ, ◌+◌, ◌<◌, Bool, ◌≢◌, List, [], ◌∷◌, ◌++◌, length, drop, Some, None, Ok, Err, Option, slice_index_or}
use Rattle.kinds.specs.Kind.{Kind}
use Rattle.code.specs.declared.mark.Mark.{Mark}
use Rattle.code.specs.declared.mark.Mark.TheVariants.{Arrived, Lost}
use Rattle.code.specs.declared.refusal.SlotRefusal.{SlotRefusal}
use Rattle.code.specs.declared.sheet.Sheet.{Sheet}
use Rattle.code.specs.Sheets.{T}
use Rattle.code.specs.Packets.{Rows, packet}
use Rattle.code.specs.Mending.{History, heard}
use Rattle.code.specs.Bursts.{Missed, Bursts}
use Rattle.code.specs.Theory.{Holds}
use Rattle.line.specs.Line.{fitting}
use Rattle.receive.specs.declared.due.Due.{Due}
use Rattle.receive.specs.declared.due.Verdict.{Verdict}
use Rattle.receive.specs.declared.receiver.Receiver.{Receiver}
use Rattle.receive.specs.declared.tally.Tally.{Tally}
use Rattle.receive.specs.Memory.{need}
use Rattle.receive.specs.Refusing.{SlotReason}
use Rattle.receive.specs.Handing.{Answer, Reply, Hands, one, whole_row, mended_row, lost_row}
use Rattle.receive.specs.Calls.{window, tally_of}
use Rattle.receive.specs.Runs.{Event, slot, tally, Run}

-- what came goes in front where the call was not refused
abbrev pub take_if : {X : Type 0} → Answer → X → List X → List X
take_if (Ok due) x xs = x ∷ xs
take_if (Err e) x xs = xs

module _ {S : Type 0} where
  -- The slots that a run takes, from slot 0 on, one for each slot call that is not refused: the packet that arrived, or None
  -- for a slot that was missed.
  abbrev pub slots : List (Event S) → List (Option (List S))
  slots [] = []
  slots (slot came a ∷ es) = take_if a.answer came (slots es)
  slots (tally told ∷ es) = slots es

  -- how many those are
  abbrev pub taken : List (Event S) → ℕ
  taken es = length (slots es)

  -- the packet of each slot of the run that arrived
  abbrev pub history : List (Event S) → History S
  history es s = slice_index_or (slots es) s None

  -- slot s is one of the first m slots of the run, and was missed
  abbrev pub MissedIn : List (Event S) → (m s : ℕ) → Type 0
  MissedIn es m s = Missed (heard (history es)) m s

  -- how many rows with such a verdict the answers name
  abbrev pub rows_given : (Verdict → Bool) → List (Event S) → ℕ
  rows_given test [] = 0
  rows_given test (slot came a ∷ es) = one test a.answer + rows_given test es
  rows_given test (tally told ∷ es) = rows_given test es

  -- each slot call of the run es, with the events `past` before it
  abbrev pub Each : List (Event S) → (List (Event S) → Option (List S) → Reply S → Type 0) → Type 0
  Each es holds = (past later : List (Event S)) (came : Option (List S)) (a : Reply S) → es ≡ past ++ (slot came a ∷ later) → holds past came a

  -- each symbol that a slot call of the run hands out, with the slot t of the call, the row j that the answer names, the
  -- symbol's number b, the symbol and its mark
  abbrev pub EachSymbol : Kind S → Sheet → List (Event S) → ((t j b : ℕ) → S → Mark → Type 0) → Type 0
  EachSymbol K p es holds = Each es (λ past came a.
      (due : Due) (b : ℕ) → a.answer ≡ Ok (Some due) → b < p.row →
      holds (taken past) due.row b (slice_index_or a.row' b K.zero) (slice_index_or a.marks' b Arrived))

module _ {S : Type 0} (K : Kind S) (p : Sheet) where
  -- every packet that arrives is the one that the sheet gives for that slot from this list of rows
  abbrev pub Sent : Rows S → List (Event S) → Type 0
  Sent rows es = (s : ℕ) (q : List S) → history es s ≡ Some q → q ≡ packet K p rows s

  -- another list of rows has another symbol b in row j, and the same packet in every slot but those missed up to slot t
  abbrev pub Undetermined : Rows S → List (Event S) → (t j b : ℕ) → Type 0
  Undetermined rows es t j b =
      (rows' : Rows S) × (rows' j b ≢ rows j b)
      × ((s : ℕ) → (MissedIn es (t + 1) s → ⊥) → packet K p rows' s ≡ packet K p rows s)

  -- all lists of rows that fit what arrived up to slot t have the same symbol b in row j
  abbrev pub Determined : List (Event S) → (t j b : ℕ) → Type 0
  Determined es t j b =
      (rows rows' : Rows S) → Holds K p rows (history es) t → Holds K p rows' (history es) t → rows' j b ≡ rows j b

  -- The law of a run es of calls on one receiver, made on the sheet p over a window that held `lent`, which leads to the
  -- receiver q.
  pub record Law (lent : List S) (es : List (Event S)) (q : Receiver S) : Type 0 where
    -- A call is refused only for a reason that holds, and then the places keep what they had.
    pub refusals : Each es (λ past came a. (e : SlotRefusal) → a.answer ≡ Err e →
        SlotReason p (length lent) (taken past) came (length a.row) (length a.marks) e
        × (a.row' ≡ a.row) × (a.marks' ≡ a.marks))
    -- Every other slot call takes the next slot t and hands out row t - T, if there is one, with the marks and the verdict
    -- that the rule gives for the slots of this run; while t < T the places keep what they had.
    pub due : Each es (λ past came a. (due : Option Due) → a.answer ≡ Ok due → Hands K p (history es) (taken past) a)
    -- Each tally tells the slots taken so far, and counts the rows handed out so far under their verdicts.
    pub tallies : (past later : List (Event S)) (told : Tally) → es ≡ past ++ (tally told ∷ later) →
        told ≡ tally_of (taken past) (rows_given whole_row past) (rows_given mended_row past) (rows_given lost_row past)
    -- Every symbol handed out and not marked lost is the list's own symbol, given T slots after its row's slot.
    pub own : (rows : Rows S) → Sent rows es → EachSymbol K p es (λ t j b symbol mark. mark ≢ Lost →
        (symbol ≡ rows j b) × (t ≡ j + T p))
    -- For each symbol marked lost, what arrived leaves open what it was ..
    pub undetermined : (rows : Rows S) → Sent rows es → EachSymbol K p es (λ t j b symbol mark. mark ≡ Lost →
        Undetermined rows es t j b)
    -- .. and for no other.
    pub determined : EachSymbol K p es (λ t j b symbol mark. mark ≢ Lost → Determined es t j b)
    -- If the missed slots of the run form bursts, nothing is marked lost.
    pub bursts : (group : ℕ → ℕ) → Bursts p (MissedIn es (taken es)) group → EachSymbol K p es (λ t j b symbol mark. mark ≢ Lost)
    -- What lies past the part of the window that a receiver needs is as it was, and all of a shorter window.
    pub past : drop (fitting (need p) (length lent)) (window q) ≡ drop (fitting (need p) (length lent)) lent

  -- whatever calls follow on the receiver r
  abbrev pub Lawful : List S → Receiver S → Type 0
  Lawful lent r = (es : List (Event S)) (q : Receiver S) → Run K r es q → Law lent es q
