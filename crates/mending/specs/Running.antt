-- What is still to be printed, by where a mending run stands. Assumes nothing.
use Rattle.std.specs.Prelude.{◌≡◌, ℕ, Bool, true, false, List, [], ◌++◌, length, Some, None, Ok, Err, vec_items, Option}
use Rattle.kinds.specs.Kind.{Kind}
use Rattle.kinds.specs.Form.{Form}
use Rattle.code.specs.declared.sheet.Sheet.{Sheet}
use Rattle.lines.specs.Writing.{fault_refused}
use Rattle.text.specs.declared.fault.LineFault.TheVariants as fault
use Rattle.text.specs.declared.fault.RunFault.{RunFault}
use Rattle.text.specs.Faults.{run_line, run_number, run_position}
use Rattle.line.specs.Line.{fitting}
use Rattle.receive.specs.declared.receiver.Receiver.{Receiver}
use Rattle.receive.specs.declared.tally.Tally.{Tally}
use Rattle.receive.specs.Memory.{need, memory}
use Rattle.receive.specs.Handing.{Answer, replied}
use Rattle.receive.specs.Calls.{room, tally_of, SlotCall}
use Rattle.runs.specs.Standings.{refused_by}
use Rattle.runs.specs.Whole.{fault_text, unless}
use Rattle.runs.specs.declared.standing.Standing.{Standing}
use Rattle.runs.specs.declared.standing.Standing.TheVariants.{BeforeHeader, InRun, Stopped}
use Rattle.mending.specs.declared.run.MendRun.{MendRun}
use Rattle.mending.specs.Printing.{Lent, due_printed, slots_text}

-- the run takes no more lines
abbrev pub stopped_at : Standing → Bool
stopped_at BeforeHeader = true
stopped_at (InRun header next) = false
stopped_at (Stopped f) = true

-- the fault that stopped a run
abbrev pub fault_at : Standing → Option RunFault
fault_at BeforeHeader = None
fault_at (InRun header next) = None
fault_at (Stopped f) = Some f

-- what a receiver has counted
abbrev pub told_by : {S : Type 0} → Receiver S → Tally
told_by r = tally_of r.counters.slots r.counters.whole r.counters.mended r.counters.lost

module _ {S : Type 0} where
  -- the lengths of what a run was lent; its receiver has room for what it needs, or for nothing
  abbrev pub lent_to : MendRun S → Lent
  lent_to r = record {
    window = room r.receiver;
    packet = length (vec_items r.packet);
    row = length (vec_items r.row);
    marks = length (vec_items r.marks);
  }

  abbrev pub stopped : MendRun S → Bool
  stopped r = stopped_at r.reader.standing

  abbrev pub fault_of : MendRun S → Option RunFault
  fault_of r = fault_at r.reader.standing

  -- reader and receiver are on the run's sheet, and have come equally far
  abbrev pub SoundAt : Standing → MendRun S → Type 0
  SoundAt BeforeHeader r = ⊥
  SoundAt (InRun header next) r =
      (header.sheet ≡ r.sheet) × (r.receiver.sheet ≡ r.sheet) × (r.receiver.counters.slots ≡ next)
  SoundAt (Stopped f) r = Unit {0}

  abbrev pub Sound : MendRun S → Type 0
  Sound r = SoundAt r.reader.standing r

module _ {S : Type 0} (F : Form S) where
  -- what is printed by the receiver's answer: the row that fell due, or nothing, or the fault, which stops the run
  abbrev pub PrintedBy : (before after : MendRun S) (out out' : List ℕ) → Answer → Type 0
  PrintedBy before after out out' (Ok None) = (after.reader.standing ≡ before.reader.standing) × (out' ≡ out)
  PrintedBy before after out out' (Ok (Some due)) =
      (after.reader.standing ≡ before.reader.standing)
      × (out' ≡ out ++ due_printed F before.sheet due.row (vec_items after.row) (vec_items after.marks))
  PrintedBy before after out out' (Err e) =
      let f = refused_by (fault.Slot e) before.reader.standing in
      (after.reader.standing ≡ Stopped f)
      × (out' ≡ out ++ unless (fault_refused (run_line f) (run_number f) (run_position f) 18) (fault_text f))

  -- .. and nothing else changes
  pub record AnswerPrinted (before after : MendRun S) (out out' : List ℕ) (answer : Answer) : Type 0 where
    pub sheet : after.sheet ≡ before.sheet
    pub receiver : after.receiver ≡ before.receiver
    pub packet : vec_items after.packet ≡ vec_items before.packet
    pub row : vec_items after.row ≡ vec_items before.row
    pub marks : vec_items after.marks ≡ vec_items before.marks
    pub printed : PrintedBy before after out out' answer

module _ {S : Type 0} (K : Kind S) (F : Form S) where
  -- what lines still bring: by what the receiver remembers and has counted, or nothing once the run is stopped
  abbrev pub rest_at : Standing → MendRun S → List (List ℕ) → List ℕ
  rest_at BeforeHeader r lines = []
  rest_at (InRun header next) r lines =
      slots_text K F r.sheet (lent_to r) (memory K r.receiver) next (told_by r.receiver) lines
  rest_at (Stopped f) r lines = []

  abbrev pub rest_of : MendRun S → List (List ℕ) → List ℕ
  rest_of r lines = rest_at r.reader.standing r lines

  -- a run as it is made on the sheet p, over a window and places of these lengths
  pub record NewRun (p : Sheet) (window packet row marks : ℕ) (r : MendRun S) : Type 0 where
    pub sound : Sound r
    pub going : stopped r ≡ false
    pub prints : (lines : List (List ℕ)) →
        rest_of r lines
        ≡ slots_text K F p (record { window = fitting (need p) window; packet = packet; row = row; marks = marks }) (λ _. None) 0
        (tally_of 0 0 0 0) lines

  -- the lines have ended: what is left is printed, and the fault is told
  abbrev pub Ended : MendRun S → (out out' : List ℕ) → Option RunFault → Type 0
  Ended r out out' fault = Sound r → (out' ≡ out ++ rest_of r []) × (fault ≡ fault_of r)

  -- a slot was taken, or refused: `came` is the packet that was read, or None for a slot that was missed
  pub record SlotTaken (before after : MendRun S) (came : Option (List S)) (out out' : List ℕ) : Type 0 where
    pub sheet : after.sheet ≡ before.sheet
    pub packet : vec_items after.packet ≡ vec_items before.packet
    pub answer : Answer
    pub call : SlotCall K before.receiver after.receiver came
        (replied (vec_items before.row) (vec_items after.row) (vec_items before.marks) (vec_items after.marks) answer)
    pub printed : PrintedBy F before after out out' answer
