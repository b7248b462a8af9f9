-- The lines, by their letters. A line is a list of bytes without the byte 10 that ends it. Assumes nothing.
use Rattle.std.specs.Prelude.{ℕ, ◌+◌, ◌-◌, ◌*◌, Bool, false, cond, ◌||◌, List, [], ◌∷◌, ◌++◌, replicate, Some, None, Option, ◌==◌}
use Rattle.std.specs.List.{flat_map}
use Rattle.kinds.specs.Form.{Form}
use Rattle.kinds.specs.declared.layout.Layout.{Layout}
use Rattle.code.specs.Marks.{mark_number}
use Rattle.code.specs.Sheets.{n}
use Rattle.code.specs.declared.mark.Mark.{Mark}
use Rattle.code.specs.declared.mark.Mark.TheVariants.{Arrived, Mended, Lost}
use Rattle.code.specs.declared.sheet.Sheet.{Sheet}
use Rattle.lines.specs.declared.header.SymbolKind.{SymbolKind}
use Rattle.lines.specs.declared.header.SymbolKind.TheVariants.{Bytes, Digits}
use Rattle.lines.specs.Fields.{field}

-- a line as it is written
abbrev pub ended : List ℕ → List ℕ
ended line = line ++ (10 ∷ [])

-- B or D
abbrev pub kind_letter : SymbolKind → ℕ
kind_letter Bytes = 66
kind_letter Digits = 68

-- H, the kind letter, then L, k and r
abbrev pub header_line : SymbolKind → Sheet → List ℕ
header_line kind p = 72 ∷ (kind_letter kind ∷ (field 4 p.burst ++ (field 4 p.row ++ field 4 p.parity)))

-- the field of a lost symbol: blanks, and ? in the last column
abbrev pub lost_field : ℕ → List ℕ
lost_field width = replicate (width - 1) 32 ++ (63 ∷ [])

-- one of the marks is this mark
abbrev pub has_mark : Mark → List Mark → Bool
has_mark mark [] = false
has_mark mark (m ∷ ms) = mark_number m == mark_number mark || has_mark mark ms

-- L if any mark is lost, else N if any is mended, else W
abbrev pub due_letter : List Mark → ℕ
due_letter marks = cond (has_mark Lost marks) 76 (cond (has_mark Mended marks) 78 87)

module _ {S : Type 0} (F : Form S) where
  -- the field of a symbol: that of its number
  abbrev pub symbol_field : S → List ℕ
  symbol_field s = field F.layout.width (F.number s)

  -- the fields of symbols, one after another
  abbrev pub symbol_fields : List S → List ℕ
  symbol_fields symbols = flat_map symbol_field symbols

  -- a letter, a number, and a field for each symbol
  abbrev pub symbols_line : ℕ → ℕ → List S → List ℕ
  symbols_line letter number symbols = letter ∷ (field 8 number ++ symbol_fields symbols)

  -- R, the row's number, the row
  abbrev pub row_line : ℕ → List S → List ℕ
  row_line number row = symbols_line 82 number row

  -- A, the slot's number, the packet
  abbrev pub packet_line : ℕ → List S → List ℕ
  packet_line number packet = symbols_line 65 number packet

  -- the field of a symbol that is handed out with this mark
  abbrev pub due_field : Mark → S → List ℕ
  due_field Arrived s = symbol_field s
  due_field Mended s = symbol_field s
  due_field Lost s = lost_field F.layout.width

  -- the fields of a row that is handed out with these marks
  abbrev pub due_fields : List S → List Mark → List ℕ
  due_fields [] marks = []
  due_fields (s ∷ row) [] = []
  due_fields (s ∷ row) (m ∷ marks) = due_field m s ++ due_fields row marks

  -- W, N or L, the row's number, the row as it is handed out
  abbrev pub due_line : ℕ → List S → List Mark → List ℕ
  due_line number row marks = due_letter marks ∷ (field 8 number ++ due_fields row marks)

-- M, the slot's number
abbrev pub missed_line : ℕ → List ℕ
missed_line number = 77 ∷ field 8 number

-- E, the slots taken, the rows whole, mended and lost
abbrev pub tally_line : ℕ → ℕ → ℕ → ℕ → List ℕ
tally_line slots whole mended lost = 69 ∷ (field 8 slots ++ (field 8 whole ++ (field 8 mended ++ field 8 lost)))

-- X, the line's number, the refusal, the position
abbrev pub fault_line : ℕ → ℕ → ℕ → List ℕ
fault_line line refusal position = 88 ∷ (field 8 line ++ (field 4 refusal ++ field 4 position))

-- the bytes of the line that has this letter, byte 10 included
abbrev pub line_length : Layout → Sheet → ℕ → Option ℕ
line_length layout p letter =
    cond (letter == 72) (Some 15)
    (cond (letter == 82) (Some (10 + p.row * layout.width))
    (cond (letter == 65) (Some (10 + n p * layout.width))
    (cond (letter == 77) (Some 10)
    (cond (letter == 87) (Some (10 + p.row * layout.width))
    (cond (letter == 78) (Some (10 + p.row * layout.width))
    (cond (letter == 76) (Some (10 + p.row * layout.width))
    (cond (letter == 69) (Some 34)
    (cond (letter == 88) (Some 18) None))))))))
