-- Every line that can be written has the length of its letter. Assumes nothing.
use Rattle.std.specs.Prelude.{◌≡◌, ℕ, ◌≤◌, List, length, Some}
use Rattle.kinds.specs.Form.{Form}
use Rattle.code.specs.Sheets.{n}
use Rattle.code.specs.declared.mark.Mark.{Mark}
use Rattle.code.specs.declared.sheet.Sheet.{Sheet}
use Rattle.lines.specs.declared.header.SymbolKind.{SymbolKind}
use Rattle.lines.specs.Lines.{ended, header_line, row_line, packet_line, missed_line, due_letter, due_line, tally_line, fault_line, line_length}

module _ {S : Type 0} (F : Form S) (p : Sheet) where
  -- the line has the length of the letter, byte 10 included
  abbrev pub HasLength : ℕ → List ℕ → Type 0
  HasLength letter line = line_length F.layout p letter ≡ Some (length (ended line))

  pub record Lengths : Type 0 where
    pub header : (kind : SymbolKind) → HasLength 72 (header_line kind p)
    pub row : (number : ℕ) (symbols : List S) → number ≤ 999999 → length symbols ≡ p.row → HasLength 82 (row_line F number symbols)
    pub packet : (number : ℕ) (symbols : List S) → number ≤ 999999 → length symbols ≡ n p → HasLength 65 (packet_line F number symbols)
    pub missed : (number : ℕ) → number ≤ 999999 → HasLength 77 (missed_line number)
    pub due : (number : ℕ) (symbols : List S) (marks : List Mark) → number ≤ 999999 → length symbols ≡ p.row →
        length marks ≡ p.row → HasLength (due_letter marks) (due_line F number symbols marks)
    pub tally : (slots whole mended lost : ℕ) → slots ≤ 1000000 → whole ≤ 1000000 → mended ≤ 1000000 → lost ≤ 1000000 →
        HasLength 69 (tally_line slots whole mended lost)
    pub fault : (line refusal position : ℕ) → line ≤ 99999999 → refusal ≤ 9999 → position ≤ 9999 →
        HasLength 88 (fault_line line refusal position)
