-- The whole text that `send` prints for a whole text, for any bytes. Assumes nothing.
use Rattle.std.specs.Prelude.{ℕ, ◌+◌, ◌-◌, min, cond, List, [], ◌++◌, length, Some, None, Option, Result, nat_lt}
use Rattle.std.specs.List.{range_with_len, flat_map}
use Rattle.kinds.specs.Kind.{Kind}
use Rattle.kinds.specs.Form.{Form}
use Rattle.code.specs.declared.refusal.TailRefusal.{TailRefusal}
use Rattle.code.specs.declared.sheet.Sheet.{Sheet}
use Rattle.code.specs.Refusals.{top_slots}
use Rattle.code.specs.Sheets.{T}
use Rattle.code.specs.Packets.{Rows}
use Rattle.transmit.specs.Law.{list_of}
use Rattle.lines.specs.declared.header.Header.{Header}
use Rattle.lines.specs.declared.header.SymbolKind.{SymbolKind}
use Rattle.lines.specs.Lines.{ended, header_line}
use Rattle.text.specs.declared.fault.LineFault.{LineFault}
use Rattle.text.specs.declared.fault.RunFault.TheVariants as run
use Rattle.text.specs.Reading.{row_read}
use Rattle.runs.specs.Whole.{sums_of, form_of, fault_text, Read, reading}
use Rattle.opening.specs.Headed as headed
use Rattle.sending.specs.Printing.{slot_text}

module _ {S : Type 0} (K : Kind S) (F : Form S) (p : Sheet) where
  -- the A lines of m slots, from slot t on
  abbrev pub slots_text : Rows S → (t m : ℕ) → List ℕ
  slots_text rows t m = flat_map (slot_text K F p rows) (range_with_len t m)

  -- how many tail packets there are after m rows: T, or as many as the run has slots left
  abbrev pub tails : ℕ → ℕ
  tails m = min (T p) (top_slots - m)

  -- after m rows: the X line of a fault, or the tail; where the slots do not suffice for it, the X line of refusal 12 on the line
  -- after the last
  abbrev pub ending : Rows S → (m : ℕ) → Option LineFault → List ℕ
  ending rows m (Some e) = fault_text (run.Line (m + 2) e)
  ending rows m None =
      slots_text rows m (tails m) ++ cond (nat_lt (tails m) (T p)) (fault_text (run.Tail (m + 2) TailRefusal.Slots)) []

  -- the A lines of the rows that were read, each with the packet of its slot from all of them, and the ending
  abbrev pub list_text : Read (List S) → List ℕ
  list_text read =
      slots_text (list_of K read.values) 0 (length read.values)
      ++ ending (list_of K read.values) (length read.values) read.fault

-- the lines after the header
abbrev pub body_text : (kind : SymbolKind) → Sheet → List (List ℕ) → List ℕ
body_text kind p lines = list_text (sums_of kind) (form_of kind) p (reading (row_read (form_of kind) p) 0 lines)

-- the H line of a header ..
abbrev pub echo : Header → List ℕ
echo header = ended (header_line header.kind header.sheet)

-- .. and what the lines after it bring
abbrev pub body : Header → List (List ℕ) → List ℕ
body header lines = body_text header.kind header.sheet lines

-- the H line and what follows it, or the X line of the header's fault
abbrev pub headed_text : Result Header LineFault → List (List ℕ) → List ℕ
headed_text = headed.headed_text echo body

-- no line at all is one empty line
abbrev pub lines_text : List (List ℕ) → List ℕ
lines_text = headed.lines_text echo body

abbrev pub send_text : List ℕ → List ℕ
send_text = headed.whole_text echo body
