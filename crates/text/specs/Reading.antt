-- What a line reads as: its value, or the first refusal that holds. Assumes nothing.
use Rattle.std.specs.Prelude.{ℕ, zero, suc, ◌+◌, ◌*◌, Bool, false, cond, List, [], ◌∷◌, length, take, drop, Ok, Err, Result, ◌==◌}
use Rattle.kinds.specs.Form.{Form}
use Rattle.code.specs.Sheets.{n}
use Rattle.code.specs.declared.refusal.PutRefusal.TheVariants as put
use Rattle.code.specs.declared.refusal.SlotRefusal.TheVariants as slot
use Rattle.code.specs.declared.sheet.Sheet.{Sheet}
use Rattle.code.specs.declared.sheet.SheetRefusal.{SheetRefusal}
use Rattle.lines.specs.declared.field.FieldFault.{FieldFault}
use Rattle.text.specs.declared.fault.LineFault.{LineFault}
use Rattle.text.specs.declared.fault.LineFault.TheVariants as fault
use Rattle.lines.specs.declared.header.Header.{Header}
use Rattle.lines.specs.declared.header.SymbolKind.{SymbolKind}
use Rattle.lines.specs.declared.header.SymbolKind.TheVariants.{Bytes, Digits}
use Rattle.lines.specs.Fields.{field_read}
use Rattle.lines.specs.Symbols.{symbol_read}
use Rattle.text.specs.Sheets.{sheet_of}

-- what follows what was read
abbrev pub and_then : {X Y E : Type 0} → Result X E → (X → Result Y E) → Result Y E
and_then (Ok x) f = f x
and_then (Err e) f = Err e

-- a field's fault as the line's
abbrev pub of_field : {X : Type 0} → Result X FieldFault → Result X LineFault
of_field (Ok x) = Ok x
of_field (Err e) = Err (fault.Field e)

-- a sheet's refusal as the line's
abbrev pub of_sheet : {X : Type 0} → Result X SheetRefusal → Result X LineFault
of_sheet (Ok x) = Ok x
of_sheet (Err e) = Err (fault.Sheet e)

-- the line begins with this letter
abbrev pub begins : ℕ → List ℕ → Bool
begins letter [] = false
begins letter (c ∷ cs) = c == letter

-- the number in the 8 columns after the letter
abbrev pub number_of : List ℕ → Result ℕ LineFault
number_of line = of_field (field_read 2 999999 (take 8 (drop 1 line)))

-- the number of a line of this length that begins with this letter
abbrev pub numbered : ℕ → ℕ → List ℕ → Result ℕ LineFault
numbered letter len line =
    cond (begins letter line) (cond (length line == len) (number_of line) (Err fault.Length)) (Err fault.Letter)

-- B or D
abbrev pub kind_of : ℕ → Result SymbolKind LineFault
kind_of c = cond (c == 66) (Ok Bytes) (cond (c == 68) (Ok Digits) (Err fault.Kind))

-- the header that the kind letter and the bytes after it hold
abbrev pub header_of : ℕ → List ℕ → Result Header LineFault
header_of letter rest =
    and_then (kind_of letter) (λ kind.
    and_then (of_field (field_read 3 9999 (take 4 rest))) (λ burst.
    and_then (of_field (field_read 7 9999 (take 4 (drop 4 rest)))) (λ row.
    and_then (of_field (field_read 11 9999 (take 4 (drop 8 rest)))) (λ parity.
    and_then (of_sheet (sheet_of burst row parity)) (λ sheet.
    Ok (record { kind = kind; sheet = sheet }))))))

-- the header that an H line holds
abbrev pub header_read : List ℕ → Result Header LineFault
header_read [] = Err fault.Letter
header_read (c ∷ []) = cond (c == 72) (Err fault.Length) (Err fault.Letter)
header_read (c ∷ (letter ∷ rest)) =
    cond (c == 72) (cond (length rest == 12) (header_of letter rest) (Err fault.Length)) (Err fault.Letter)

module _ {S : Type 0} (F : Form S) where
  -- the symbols in so many fields, the first of which begins at the byte `at`; else the fault of the leftmost bad one
  abbrev pub symbols_read : ℕ → ℕ → List ℕ → Result (List S) FieldFault
  symbols_read at zero fields = Ok []
  symbols_read at (suc count) fields =
      and_then (symbol_read F at (take F.layout.width fields)) (λ symbol.
      and_then (symbols_read (at + F.layout.width) count (drop F.layout.width fields)) (λ symbols.
      Ok (symbol ∷ symbols)))

  -- the symbols of a line with this letter, which has to have the next number
  abbrev pub symbols_of : ℕ → ℕ → ℕ → List ℕ → Result (List S) LineFault
  symbols_of letter count next line =
      cond (begins letter line)
      (cond (length line == 9 + count * F.layout.width)
      (and_then (number_of line) (λ number.
      and_then (of_field (symbols_read 10 count (drop 9 line))) (λ symbols.
      cond (number == next) (Ok symbols) (Err fault.Order))))
      (Err fault.Length))
      (Err fault.Letter)

  -- the row that an R line holds
  abbrev pub row_read : Sheet → ℕ → List ℕ → Result (List S) LineFault
  row_read p next line = symbols_of 82 p.row next line

  -- the packet that an A line holds
  abbrev pub packet_read : Sheet → ℕ → List ℕ → Result (List S) LineFault
  packet_read p next line = symbols_of 65 (n p) next line

-- an M line holds the next number
abbrev pub missed_read : ℕ → List ℕ → Result (Unit {0}) LineFault
missed_read next line =
    cond (begins 77 line)
    (cond (length line == 9)
    (and_then (number_of line) (λ number. cond (number == next) (Ok tt) (Err fault.Order)))
    (Err fault.Length))
    (Err fault.Letter)

-- Symbols that were read go into a place of their length, all of them or none; `misfit` is the fault of any other place.
abbrev pub fitting : {S : Type 0} → LineFault → ℕ → Result (List S) LineFault → Result (List S) LineFault
fitting misfit place read = and_then read (λ symbols. cond (place == length symbols) (Ok symbols) (Err misfit))

-- the row of a line that goes into a place of this length
abbrev pub row_into : {S : Type 0} → Form S → Sheet → ℕ → ℕ → List ℕ → Result (List S) LineFault
row_into F p next place line = fitting (fault.Put put.Place) place (row_read F p next line)

-- the packet of a line that goes into a place of this length
abbrev pub packet_into : {S : Type 0} → Form S → Sheet → ℕ → ℕ → List ℕ → Result (List S) LineFault
packet_into F p next place line = fitting (fault.Slot slot.Place) place (packet_read F p next line)

-- the symbols that were read, or what the place had
abbrev pub symbols_or : {S : Type 0} → List S → Result (List S) LineFault → List S
symbols_or before (Ok symbols) = symbols
symbols_or before (Err e) = before

-- an answer, with what it left in a place
abbrev pub holding : {X E : Type 0} → Result (Unit {0}) E → X → Result X E
holding (Ok u) x = Ok x
holding (Err e) x = Err e

-- an answer that does not tell what was read
abbrev pub told : {X E : Type 0} → Result X E → Result (Unit {0}) E
told (Ok x) = Ok tt
told (Err e) = Err e
