-- The whole text that `mend` prints for a whole text, for any bytes. Assumes nothing.
use Rattle.std.specs.Prelude.{ℕ, ◌+◌, ◌-◌, List, [], ◌++◌, map, length, Some, None, Option, Result, slice_index_or}
use Rattle.std.specs.List.{range_with_len, flat_map}
use Rattle.kinds.specs.Kind.{Kind}
use Rattle.kinds.specs.Form.{Form}
use Rattle.code.specs.declared.sheet.Sheet.{Sheet}
use Rattle.code.specs.Sheets.{T}
use Rattle.code.specs.Mending.{History, heard, marks_of}
use Rattle.receive.specs.declared.due.Verdict.{Verdict}
use Rattle.receive.specs.declared.tally.Tally.{Tally}
use Rattle.receive.specs.Handing.{count, verdict, whole_row, mended_row, lost_row}
use Rattle.receive.specs.Calls.{tally_of}
use Rattle.lines.specs.declared.header.Header.{Header}
use Rattle.lines.specs.declared.header.SymbolKind.{SymbolKind}
use Rattle.text.specs.declared.fault.LineFault.{LineFault}
use Rattle.text.specs.declared.fault.RunFault.TheVariants as run
use Rattle.runs.specs.Whole.{sums_of, form_of, fault_text, Read, reading, slot_read}
use Rattle.opening.specs.Headed as headed
use Rattle.mending.specs.Printing.{due_text, tally_text}

-- the packet of each slot that arrived
abbrev pub came_in : {S : Type 0} → List (Option (List S)) → History S
came_in slots s = slice_index_or slots s None

module _ {S : Type 0} (K : Kind S) (F : Form S) (p : Sheet) where
  -- how many rows fall due with m slots
  abbrev pub due_rows : ℕ → ℕ
  due_rows m = m - T p

  -- the lines of those rows, as they are handed out
  abbrev pub rows_text : History S → (m : ℕ) → List ℕ
  rows_text h m = flat_map (due_text K F p h) (range_with_len 0 (due_rows m))

  -- their verdicts
  abbrev pub verdicts : History S → (m : ℕ) → List Verdict
  verdicts h m = map (λ j. verdict (marks_of p (heard h) j)) (range_with_len 0 (due_rows m))

  -- the tally of m slots
  abbrev pub tally_after : History S → (m : ℕ) → Tally
  tally_after h m =
      tally_of m (count whole_row (verdicts h m)) (count mended_row (verdicts h m)) (count lost_row (verdicts h m))

  -- after m slots: the X line of a fault, or the E line
  abbrev pub ending : History S → (m : ℕ) → Option LineFault → List ℕ
  ending h m (Some e) = fault_text (run.Line (m + 2) e)
  ending h m None = tally_text (tally_after h m)

  -- the rows that fall due with the slots that were read, and the ending
  abbrev pub list_text : Read (Option (List S)) → List ℕ
  list_text read =
      rows_text (came_in read.values) (length read.values)
      ++ ending (came_in read.values) (length read.values) read.fault

-- the lines after the header
abbrev pub body_text : (kind : SymbolKind) → Sheet → List (List ℕ) → List ℕ
body_text kind p lines = list_text (sums_of kind) (form_of kind) p (reading (slot_read (form_of kind) p) 0 lines)

-- nothing is printed of a header ..
abbrev pub echo : Header → List ℕ
echo header = []

-- .. and this is what the lines after it bring
abbrev pub body : Header → List (List ℕ) → List ℕ
body header lines = body_text header.kind header.sheet lines

-- what follows the header, or the X line of its fault
abbrev pub headed_text : Result Header LineFault → List (List ℕ) → List ℕ
headed_text = headed.headed_text echo body

-- no line at all is one empty line
abbrev pub lines_text : List (List ℕ) → List ℕ
lines_text = headed.lines_text echo body

abbrev pub mend_text : List ℕ → List ℕ
mend_text = headed.whole_text echo body
