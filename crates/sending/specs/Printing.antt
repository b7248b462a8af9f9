-- What a sending run prints, line by line. Assumes nothing.
use Rattle.std.specs.Prelude.{ℕ, zero, suc, ◌+◌, ◌*◌, List, [], ◌∷◌, ◌++◌, length, Some, None, Ok, Err, Option, Result}
use Rattle.kinds.specs.Kind.{Kind}
use Rattle.kinds.specs.Form.{Form}
use Rattle.code.specs.declared.refusal.PutRefusal.{PutRefusal}
use Rattle.code.specs.declared.refusal.TailRefusal.{TailRefusal}
use Rattle.code.specs.declared.sheet.Sheet.{Sheet}
use Rattle.code.specs.Sheets.{T, n}
use Rattle.code.specs.Packets.{Rows, packet}
use Rattle.transmit.specs.Keeping.{need, with_row}
use Rattle.transmit.specs.Refusing.{put_refused, tail_refused}
use Rattle.lines.specs.Lines.{ended, packet_line}
use Rattle.lines.specs.Writing.{symbols_refused}
use Rattle.text.specs.declared.fault.LineFault.{LineFault}
use Rattle.text.specs.declared.fault.LineFault.TheVariants as fault
use Rattle.text.specs.declared.fault.RunFault.{RunFault}
use Rattle.text.specs.declared.fault.RunFault.TheVariants as run
use Rattle.text.specs.Reading.{and_then, row_into}
use Rattle.runs.specs.Whole.{fault_text, unless, after_line}

-- the lengths of what a sending run was lent: its window, and the places for a row and for a packet
pub record Lent : Type 0 where
  pub window : ℕ
  pub row : ℕ
  pub packet : ℕ

-- those that a sheet needs
abbrev pub fit : Sheet → Lent
fit p = record { window = need p; row = p.row; packet = n p }

-- a row that is put, or the fault of the line that held it
abbrev pub put_or : {S : Type 0} → Option PutRefusal → List S → Result (List S) LineFault
put_or (Some e) row = Err (fault.Put e)
put_or None row = Ok row

-- the tail packet after m rows that is not refused, and what follows it, or the X line of its refusal
abbrev pub after_tail : ℕ → Option TailRefusal → List ℕ → List ℕ
after_tail m (Some e) text = fault_text (run.Tail (m + 2) e)
after_tail m None text = text

abbrev pub tail_stop : ℕ → Option TailRefusal → Option RunFault → Option RunFault
tail_stop m (Some e) later = Some (run.Tail (m + 2) e)
tail_stop m None later = later

-- the A line of a packet, unless it cannot be written: its slot's number is above the top, or it is not of the sheet's length
abbrev pub packet_text : {S : Type 0} → Form S → Sheet → ℕ → List S → List ℕ
packet_text F p slot packet =
    unless (symbols_refused F.layout.width (n p) slot (length packet) (10 + n p * F.layout.width))
    (ended (packet_line F slot packet))

module _ {S : Type 0} (K : Kind S) (F : Form S) (p : Sheet) where
  -- the A line of slot t
  abbrev pub slot_text : Rows S → ℕ → List ℕ
  slot_text rows t = ended (packet_line F t (packet K p rows t))

  -- over a window and a place of these lengths:
  module _ (window place : ℕ) where
    -- after m rows and i tail packets, the next `left` tail packets, up to the first that is refused
    abbrev pub tail_text : Rows S → (m i left : ℕ) → List ℕ
    tail_text rows m i zero = []
    tail_text rows m i (suc left) =
        after_tail m (tail_refused p window (m + i) i place)
        (slot_text rows (m + i) ++ tail_text rows m (i + 1) left)

    -- the refusal that ends the tail early
    abbrev pub tail_fault : (m i left : ℕ) → Option RunFault
    tail_fault m i zero = None
    tail_fault m i (suc left) = tail_stop m (tail_refused p window (m + i) i place) (tail_fault m (i + 1) left)

  module _ (lent : Lent) where
    -- the row of line t + 2, which is read into its place and put
    abbrev pub row_taken : ℕ → List ℕ → Result (List S) LineFault
    row_taken t line =
        and_then (row_into F p t lent.row line) (λ row.
        put_or (put_refused p lent.window t (length row) lent.packet) row)

    -- after t rows, the text that these lines still bring: an A line for each row, and at the end of the lines the tail
    abbrev pub rows_text : Rows S → ℕ → List (List ℕ) → List ℕ
    rows_text rows t [] = tail_text lent.window lent.packet rows t 0 (T p)
    rows_text rows t (line ∷ lines) =
        after_line t (row_taken t line) (λ row.
        slot_text (with_row K rows t row) t ++ rows_text (with_row K rows t row) (t + 1) lines)
