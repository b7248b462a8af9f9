-- What a mending run prints, line by line. Assumes nothing.
use Rattle.std.specs.Prelude.{ℕ, ◌+◌, ◌-◌, ◌*◌, false, cond, List, [], ◌∷◌, ◌++◌, length, Some, None, Ok, Err, Option, Result, ◌==◌, nat_lt}
use Rattle.kinds.specs.Kind.{Kind}
use Rattle.kinds.specs.Form.{Form}
use Rattle.code.specs.declared.mark.Mark.{Mark}
use Rattle.code.specs.declared.refusal.SlotRefusal.{SlotRefusal}
use Rattle.code.specs.declared.sheet.Sheet.{Sheet}
use Rattle.code.specs.Sheets.{T, n}
use Rattle.code.specs.Mending.{History, heard, row_of, marks_of}
use Rattle.receive.specs.declared.due.Verdict.{Verdict}
use Rattle.receive.specs.declared.tally.Tally.{Tally}
use Rattle.receive.specs.Memory.{need}
use Rattle.receive.specs.Refusing.{slot_refused}
use Rattle.receive.specs.Handing.{verdict, whole_row, mended_row, lost_row}
use Rattle.receive.specs.Calls.{tally_of}
use Rattle.lines.specs.Lines.{ended, due_line, tally_line}
use Rattle.lines.specs.Writing.{due_refused}
use Rattle.text.specs.declared.fault.LineFault.{LineFault}
use Rattle.text.specs.declared.fault.LineFault.TheVariants as fault
use Rattle.text.specs.Reading.{and_then, begins, packet_into, missed_read}
use Rattle.runs.specs.Whole.{unless, after_line}

-- the lengths of what a mending run was lent: its window, and the places for a packet, for a row and for its marks
pub record Lent : Type 0 where
  pub window : ℕ
  pub packet : ℕ
  pub row : ℕ
  pub marks : ℕ

-- those that a sheet needs
abbrev pub fit : Sheet → Lent
fit p = record { window = need p; packet = n p; row = p.row; marks = p.row }

-- a slot that is taken, or the fault of its line
abbrev pub slot_or : {S : Type 0} → Option SlotRefusal → Option (List S) → Result (Option (List S)) LineFault
slot_or (Some e) came = Err (fault.Slot e)
slot_or None came = Ok came

-- what came in the slots, with this in slot t
abbrev pub with_slot : {S : Type 0} → History S → ℕ → Option (List S) → History S
with_slot h t came s = cond (s == t) came (h s)

-- the tally with one slot more ..
abbrev pub one_slot : Tally → Tally
one_slot told = tally_of (told.slots + 1) told.whole told.mended told.lost

-- .. and with one row of this verdict more
abbrev pub one_row : Verdict → Tally → Tally
one_row v told =
    tally_of (told.slots + 1) (told.whole + cond (whole_row v) 1 0) (told.mended + cond (mended_row v) 1 0)
    (told.lost + cond (lost_row v) 1 0)

-- the W, N or L line of a row, unless it cannot be written: its number is above the top, or it or its marks are not of the
-- sheet's length
abbrev pub due_printed : {S : Type 0} → Form S → Sheet → ℕ → List S → List Mark → List ℕ
due_printed F p number row marks =
    unless (due_refused F.layout.width p.row number (length row) (length marks) (10 + p.row * F.layout.width))
    (ended (due_line F number row marks))

-- the E line
abbrev pub tally_text : Tally → List ℕ
tally_text told = ended (tally_line told.slots told.whole told.mended told.lost)

module _ {S : Type 0} (K : Kind S) (F : Form S) (p : Sheet) where
  -- the line of row j as it is handed out
  abbrev pub due_text : History S → ℕ → List ℕ
  due_text h j = ended (due_line F j (row_of K p h j) (marks_of p (heard h) j))

  -- what slot t brings: nothing while t < T, and then row t - T
  abbrev pub slot_text : History S → ℕ → List ℕ
  slot_text h t = cond (nat_lt t (T p)) [] (due_text h (t - T p))

  -- the tally after slot t
  abbrev pub counted : History S → ℕ → Tally → Tally
  counted h t told = cond (nat_lt t (T p)) (one_slot told) (one_row (verdict (marks_of p (heard h) (t - T p))) told)

  module _ (lent : Lent) where
    -- what line t + 2 says of slot t: an A line has its packet, which is read into its place; an M line says that it was missed
    abbrev pub slot_into : ℕ → List ℕ → Result (Option (List S)) LineFault
    slot_into t line =
        cond (begins 77 line)
        (and_then (missed_read t line) (λ _. Ok None))
        (and_then (packet_into F p t lent.packet line) (λ packet. Ok (Some packet)))

    -- the slot of line t + 2, which is read and taken
    abbrev pub slot_taken : ℕ → List ℕ → Result (Option (List S)) LineFault
    slot_taken t line =
        and_then (slot_into t line) (λ came.
        slot_or (slot_refused p lent.window t false lent.row lent.marks) came)

    -- after t slots, the text that these lines still bring: a line for each row that falls due, and at the end of the lines the tally
    abbrev pub slots_text : History S → ℕ → Tally → List (List ℕ) → List ℕ
    slots_text h t told [] = tally_text told
    slots_text h t told (line ∷ lines) =
        after_line t (slot_taken t line) (λ came.
        slot_text (with_slot h t came) t ++ slots_text (with_slot h t came) (t + 1) (counted (with_slot h t came) t told) lines)
