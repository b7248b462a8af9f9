-- What is still to be printed, by where a sending run stands. Assumes nothing.
use Rattle.std.specs.Prelude.{◌≡◌, ℕ, Bool, true, false, List, [], ◌++◌, length, Some, None, Ok, Err, vec_items, Option, Result}
use Rattle.kinds.specs.Kind.{Kind}
use Rattle.kinds.specs.Form.{Form}
use Rattle.code.specs.declared.refusal.PutRefusal.{PutRefusal}
use Rattle.code.specs.declared.sheet.Sheet.{Sheet}
use Rattle.code.specs.Sheets.{T}
use Rattle.lines.specs.Writing.{fault_refused}
use Rattle.text.specs.declared.fault.LineFault.TheVariants as fault
use Rattle.text.specs.declared.fault.RunFault.{RunFault}
use Rattle.text.specs.Faults.{run_line, run_number, run_position}
use Rattle.line.specs.Line.{fitting}
use Rattle.transmit.specs.Keeping.{need, kept}
use Rattle.transmit.specs.Calls.{room, PutCall, putting}
use Rattle.transmit.specs.Law.{list_of}
use Rattle.runs.specs.Standings.{refused_by}
use Rattle.runs.specs.Whole.{fault_text, unless}
use Rattle.runs.specs.declared.standing.Standing.{Standing}
use Rattle.runs.specs.declared.standing.Standing.TheVariants.{BeforeHeader, InRun, Stopped}
use Rattle.sending.specs.declared.run.SendRun.{SendRun}
use Rattle.sending.specs.Printing.{Lent, packet_text, tail_fault, rows_text}

-- the run takes no more lines
abbrev pub stopped_at : Standing → Bool
stopped_at BeforeHeader = true
stopped_at (InRun header next) = false
stopped_at (Stopped f) = true

module _ {S : Type 0} where
  -- the lengths of what a run was lent; its sender has room for what it needs, or for nothing
  abbrev pub lent_to : SendRun S → Lent
  lent_to r = record { window = room r.sender.line; row = length (vec_items r.row); packet = length (vec_items r.packet) }

  abbrev pub stopped : SendRun S → Bool
  stopped r = stopped_at r.reader.standing

  -- reader and sender are on the run's sheet, and have come equally far
  abbrev pub SoundAt : Standing → SendRun S → Type 0
  SoundAt BeforeHeader r = ⊥
  SoundAt (InRun header next) r =
      (header.sheet ≡ r.sheet) × (r.sender.sheet ≡ r.sheet) × (r.sender.count.rows ≡ next)
  SoundAt (Stopped f) r = Unit {0}

  abbrev pub Sound : SendRun S → Type 0
  Sound r = SoundAt r.reader.standing r

module _ {S : Type 0} (K : Kind S) (F : Form S) where
  -- what lines still bring: by the rows that the sender keeps, or nothing once the run is stopped
  abbrev pub rest_at : Standing → SendRun S → List (List ℕ) → List ℕ
  rest_at BeforeHeader r lines = []
  rest_at (InRun header next) r lines =
      rows_text K F r.sheet (lent_to r) (kept K r.sheet next r.sender.line) next lines
  rest_at (Stopped f) r lines = []

  abbrev pub rest_of : SendRun S → List (List ℕ) → List ℕ
  rest_of r lines = rest_at r.reader.standing r lines

  -- a run as it is made on the sheet p, over a window and places of these lengths
  pub record NewRun (p : Sheet) (window row packet : ℕ) (r : SendRun S) : Type 0 where
    pub sound : Sound r
    pub going : stopped r ≡ false
    pub prints : (lines : List (List ℕ)) →
        rest_of r lines
        ≡ rows_text K F p (record { window = fitting (need p) window; row = row; packet = packet }) (list_of K []) 0 lines

  -- the fault that ends a run when its lines have ended
  abbrev pub fault_at : Standing → SendRun S → Option RunFault
  fault_at BeforeHeader r = None
  fault_at (InRun header next) r = tail_fault K F r.sheet (lent_to r).window (lent_to r).packet next 0 (T r.sheet)
  fault_at (Stopped f) r = Some f

  abbrev pub fault_of : SendRun S → Option RunFault
  fault_of r = fault_at r.reader.standing r

  -- the lines have ended: what is left is printed, and the fault is told
  abbrev pub Ended : SendRun S → (out out' : List ℕ) → Option RunFault → Type 0
  Ended r out out' fault = Sound r → (out' ≡ out ++ rest_of r []) × (fault ≡ fault_of r)

  -- the row that was read was put, or refused, and its packet or the fault is printed
  abbrev pub PutPrinted : (before after : SendRun S) (slot : ℕ) (out out' : List ℕ) → Result (Unit {0}) PutRefusal → Type 0
  PutPrinted before after slot out out' (Ok u) =
      (after.reader.standing ≡ before.reader.standing)
      × (out' ≡ out ++ packet_text F before.sheet slot (vec_items after.packet))
  PutPrinted before after slot out out' (Err e) =
      let f = refused_by (fault.Put e) before.reader.standing in
      (after.reader.standing ≡ Stopped f)
      × (out' ≡ out ++ unless (fault_refused (run_line f) (run_number f) (run_position f) 18) (fault_text f))

  pub record RowPut (before after : SendRun S) (slot : ℕ) (out out' : List ℕ) : Type 0 where
    pub sheet : after.sheet ≡ before.sheet
    pub row : vec_items after.row ≡ vec_items before.row
    pub answer : Result (Unit {0}) PutRefusal
    pub call : PutCall K before.sender after.sender (putting (vec_items before.row) (vec_items before.packet) (vec_items after.packet) answer)
    pub printed : PutPrinted before after slot out out' answer
