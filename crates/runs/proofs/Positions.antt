-- The faults of lines have positions that an X line has room for. Assumes nothing.
use Rattle.std.proofs.Common.{◌≡◌, ℕ, zero, suc, ◌+◌, ◌*◌, ◌≤◌, Bool, true, false, cond, eqb, leb, List, [], ◌∷◌, length, take, drop, Some, None, Ok, Err, Option, Result, refl, ap, subst, suc-mul, mul-le-mul, arith}
use Rattle.std.proofs.lemmas.Bool.{le-ltb, or_from}
use Rattle.kinds.specs.Form.{Form}
use Rattle.code.specs.declared.refusal.PutRefusal.{PutRefusal}
use Rattle.code.specs.declared.refusal.SlotRefusal.{SlotRefusal}
use Rattle.code.specs.declared.refusal.TailRefusal.{TailRefusal}
use Rattle.code.specs.declared.sheet.Sheet.{Sheet}
use Rattle.code.specs.declared.sheet.SheetRefusal.{SheetRefusal}
use Rattle.code.specs.Sheets.{n}
use Rattle.lines.specs.declared.field.FieldFault.{FieldFault}
use Rattle.lines.specs.declared.field.FieldFault.TheVariants.{NotANumber, AboveTop}
use Rattle.lines.specs.declared.header.SymbolKind.{SymbolKind}
use Rattle.lines.specs.Fields.{field_position, field_read, read_under, number_in}
use Rattle.lines.specs.Symbols.{symbol_read, symbol_under}
use Rattle.lines.specs.Writing.{fault_refused, first_refused}
use Rattle.text.specs.declared.fault.LineFault.{LineFault}
use Rattle.text.specs.declared.fault.LineFault.TheVariants as fault
use Rattle.text.specs.declared.fault.RunFault.{RunFault}
use Rattle.text.specs.declared.fault.RunFault.TheVariants as run
use Rattle.text.specs.Faults.{line_number, line_position, run_line, run_number, run_position}
use Rattle.text.specs.Reading.{and_then, of_field, of_sheet, begins, number_of, kind_of, header_read, symbols_read, symbols_of, row_into, packet_into, missed_read, fitting}
use Rattle.runs.specs.Whole.{fault_text, unless}

-- a fault of this reading lies at most so far right
abbrev pub Within : {X : Type 0} → ℕ → Result X LineFault → Type 0
Within top read = (e : LineFault) → read ≡ Err e → line_position e ≤ top

abbrev Near : {X : Type 0} → ℕ → Result X FieldFault → Type 0
Near top read = (e : FieldFault) → read ≡ Err e → field_position e ≤ top

module _ {X : Type 0} where
  ok_within : (top : ℕ) (x : X) → Within {X = X} top (Ok x)
  ok_within top x e is = let z : ◌≡◌ {A = ℕ} 0 1 = cc in absurd (omega arith)

  err_within : (top : ℕ) (f : LineFault) → line_position f ≤ top → Within {X = X} top (Err f)
  err_within top f l e is = let same : f ≡ e = cc in subst (λ (g : LineFault). line_position g ≤ top) same l

  cond_within : (top : ℕ) (b : Bool) (r s : Result X LineFault) → Within top r → Within top s → Within top (cond b r s)
  cond_within top true r s p q = p
  cond_within top false r s p q = q

  pub then_within : {Y : Type 0} (top : ℕ) (r : Result X LineFault) (f : X → Result Y LineFault) → Within top r → ((x : X) → Within top (f x)) → Within top (and_then r f)
  then_within top (Ok x) f p q = q x
  then_within top (Err e) f p q = λ g is. let same : e ≡ g = cc in p g (ap Err same)

  field_within : (top : ℕ) (r : Result X FieldFault) → Near top r → Within top (of_field r)
  field_within top (Ok x) p = ok_within top x
  field_within top (Err e) p = err_within top (fault.Field e) (p e refl)

  sheet_within : (top : ℕ) (r : Result X SheetRefusal) → Within top (of_sheet r)
  sheet_within top (Ok x) = ok_within top x
  sheet_within top (Err e) = err_within top (fault.Sheet e) (omega arith)

  near_ok : (top : ℕ) (x : X) → Near {X = X} top (Ok x)
  near_ok top x e is = let z : ◌≡◌ {A = ℕ} 0 1 = cc in absurd (omega arith)

  near_err : (top : ℕ) (f : FieldFault) → field_position f ≤ top → Near {X = X} top (Err f)
  near_err top f l e is = let same : f ≡ e = cc in subst (λ (g : FieldFault). field_position g ≤ top) same l

  near_cond : (top : ℕ) (b : Bool) (r s : Result X FieldFault) → Near top r → Near top s → Near top (cond b r s)
  near_cond top true r s p q = p
  near_cond top false r s p q = q

  near_then : {Y : Type 0} (top : ℕ) (r : Result X FieldFault) (f : X → Result Y FieldFault) → Near top r → ((x : X) → Near top (f x)) → Near top (and_then r f)
  near_then top (Ok x) f p q = q x
  near_then top (Err e) f p q = λ g is. let same : e ≡ g = cc in p g (ap Err same)

  near_more : (low high : ℕ) (r : Result X FieldFault) → low ≤ high → Near low r → Near high r
  near_more low high r l p e is = omega (arith, p e is)

near_number : (at top : ℕ) (o : Option ℕ) → Near at (read_under at top o)
near_number at top None = near_err at (NotANumber at) (omega arith)
near_number at top (Some m) = near_cond at (leb m top) (Ok m) (Err (AboveTop at)) (near_ok at m) (near_err at (AboveTop at) (omega arith))

module _ {S : Type 0} (F : Form S) where
  near_symbol : (at : ℕ) (o : Option ℕ) → Near at (symbol_under F at o)
  near_symbol at None = near_err at (NotANumber at) (omega arith)
  near_symbol at (Some m) = near_cond at (leb m F.layout.top) (Ok (F.symbol m)) (Err (AboveTop at)) (near_ok at (F.symbol m)) (near_err at (AboveTop at) (omega arith))

  near_symbols : (at count : ℕ) (fields : List ℕ) → Near (at + count * F.layout.width) (symbols_read F at count fields)
  near_symbols at zero fields = near_ok _ []
  near_symbols at (suc count) fields =
      let w : ℕ = F.layout.width in
      let top : ℕ = at + suc count * F.layout.width in
      let more : suc count * F.layout.width ≡ count * F.layout.width + F.layout.width = suc-mul count F.layout.width in
      near_then top (symbol_read F at (take w fields)) _ (near_more at top _ (omega arith) (near_symbol at (number_in (take w fields)))) (λ symbol.
      near_then top (symbols_read F (at + w) count (drop w fields)) _
      (near_more ((at + w) + count * w) top _ (omega (arith, more)) (near_symbols (at + w) count (drop w fields))) (λ symbols. near_ok top (symbol ∷ symbols)))

  symbols_within : (letter count next : ℕ) (line : List ℕ) → count ≤ 64 → Within 9999 (symbols_of F letter count next line)
  symbols_within letter count next line few =
      let room : count * F.layout.width ≤ 64 * 8 = mul-le-mul few F.width_small in
      cond_within 9999 (begins letter line) _ _
      (cond_within 9999 (eqb (length line) (9 + count * F.layout.width)) _ _
      (then_within 9999 (number_of line) _ (field_within 9999 _ (near_more 2 9999 _ (omega arith) (near_number 2 999999 (number_in (take 8 (drop 1 line)))))) (λ number.
      then_within 9999 (of_field (symbols_read F 10 count (drop 9 line))) _
      (field_within 9999 _ (near_more (10 + count * F.layout.width) 9999 _ (omega (arith, room)) (near_symbols 10 count (drop 9 line)))) (λ symbols.
      cond_within 9999 (eqb number next) _ _ (ok_within 9999 symbols) (err_within 9999 fault.Order (omega arith)))))
      (err_within 9999 fault.Length (omega arith)))
      (err_within 9999 fault.Letter (omega arith))

  into_within : (misfit : LineFault) (letter count next place : ℕ) (line : List ℕ) → count ≤ 64 → line_position misfit ≤ 9999 →
      Within 9999 (fitting misfit place (symbols_of F letter count next line))
  into_within misfit letter count next place line few l =
      then_within 9999 (symbols_of F letter count next line) _ (symbols_within letter count next line few) (λ symbols.
      cond_within 9999 (eqb place (length symbols)) _ _ (ok_within 9999 symbols) (err_within 9999 misfit l))

  pub row_within : (p : Sheet) (next place : ℕ) (line : List ℕ) → Within 9999 (row_into F p next place line)
  row_within p next place line = into_within (fault.Put PutRefusal.Place) 82 p.row next place line (omega (arith, p.rows.1)) (omega arith)

  pub packet_within : (p : Sheet) (next place : ℕ) (line : List ℕ) → Within 9999 (packet_into F p next place line)
  packet_within p next place line = into_within (fault.Slot SlotRefusal.Place) 65 (n p) next place line (omega (arith, p.rows.1, p.parities.1)) (omega arith)

pub missed_within : (next : ℕ) (line : List ℕ) → Within 9999 (missed_read next line)
missed_within next line =
    cond_within 9999 (begins 77 line) _ _
    (cond_within 9999 (eqb (length line) 9) _ _
    (then_within 9999 (number_of line) _ (field_within 9999 _ (near_more 2 9999 _ (omega arith) (near_number 2 999999 (number_in (take 8 (drop 1 line)))))) (λ number.
    cond_within 9999 (eqb number next) _ _ (ok_within 9999 tt) (err_within 9999 fault.Order (omega arith))))
    (err_within 9999 fault.Length (omega arith)))
    (err_within 9999 fault.Letter (omega arith))

kind_within : (c : ℕ) → Within 9999 (kind_of c)
kind_within c =
    cond_within 9999 (eqb c 66) _ _ (ok_within 9999 SymbolKind.Bytes)
    (cond_within 9999 (eqb c 68) _ _ (ok_within 9999 SymbolKind.Digits) (err_within 9999 fault.Kind (omega arith)))

number_within : (at : ℕ) (part : List ℕ) → at ≤ 9999 → Within 9999 (of_field (field_read at 9999 part))
number_within at part l = field_within 9999 _ (near_more at 9999 _ l (near_number at 9999 (number_in part)))

pub header_within : (line : List ℕ) → Within 9999 (header_read line)
header_within [] = err_within 9999 fault.Letter (omega arith)
header_within (c ∷ []) = cond_within 9999 (eqb c 72) _ _ (err_within 9999 fault.Length (omega arith)) (err_within 9999 fault.Letter (omega arith))
header_within (c ∷ (letter ∷ rest)) =
    cond_within 9999 (eqb c 72) _ _
    (cond_within 9999 (eqb (length rest) 12) _ _
    (then_within 9999 (kind_of letter) _ (kind_within letter) (λ kind.
    then_within 9999 _ _ (number_within 3 (take 4 rest) (omega arith)) (λ burst.
    then_within 9999 _ _ (number_within 7 (take 4 (drop 4 rest)) (omega arith)) (λ row.
    then_within 9999 _ _ (number_within 11 (take 4 (drop 8 rest)) (omega arith)) (λ parity.
    then_within 9999 _ _ (sheet_within 9999 _) (λ sheet. ok_within 9999 _))))))
    (err_within 9999 fault.Length (omega arith)))
    (err_within 9999 fault.Letter (omega arith))

-- no refusal has a number above 15
small_field : (f : FieldFault) → line_number (fault.Field f) ≤ 15
small_field (NotANumber at) = omega arith
small_field (AboveTop at) = omega arith

small_sheet : (e : SheetRefusal) → line_number (fault.Sheet e) ≤ 15
small_sheet SheetRefusal.Burst = omega arith
small_sheet SheetRefusal.Row = omega arith
small_sheet SheetRefusal.Parity = omega arith
small_sheet SheetRefusal.Delay = omega arith

small_put : (e : PutRefusal) → line_number (fault.Put e) ≤ 15
small_put PutRefusal.Window = omega arith
small_put PutRefusal.Slots = omega arith
small_put PutRefusal.Row = omega arith
small_put PutRefusal.Place = omega arith

small_slot : (e : SlotRefusal) → line_number (fault.Slot e) ≤ 15
small_slot SlotRefusal.Window = omega arith
small_slot SlotRefusal.Slots = omega arith
small_slot SlotRefusal.Packet = omega arith
small_slot SlotRefusal.Place = omega arith

small_tail : (line : ℕ) (e : TailRefusal) → run_number (run.Tail line e) ≤ 15
small_tail line TailRefusal.Window = omega arith
small_tail line TailRefusal.Slots = omega arith
small_tail line TailRefusal.Place = omega arith
small_tail line TailRefusal.Tail = omega arith

small_line : (e : LineFault) → line_number e ≤ 15
small_line fault.Letter = omega arith
small_line fault.Length = omega arith
small_line fault.Kind = omega arith
small_line (fault.Field f) = small_field f
small_line fault.Order = omega arith
small_line (fault.Sheet e) = small_sheet e
small_line (fault.Put e) = small_put e
small_line (fault.Slot e) = small_slot e

-- a fault whose numbers are within their tops is printed
fits : (f : RunFault) → run_line f ≤ 99999999 → run_number f ≤ 15 → run_position f ≤ 9999 →
    unless (fault_refused (run_line f) (run_number f) (run_position f) 18) (fault_text f) ≡ fault_text f
fits f l m k =
    ap (λ b. unless (first_refused b false false) (fault_text f))
    (or_from _ _ (le-ltb 99999999 (run_line f) l) (or_from _ _ (le-ltb 9999 (run_number f) (omega arith)) (le-ltb 9999 (run_position f) k)))

pub line_printed : (line : ℕ) (e : LineFault) → line ≤ 99999999 → line_position e ≤ 9999 →
    unless (fault_refused line (line_number e) (line_position e) 18) (fault_text (run.Line line e)) ≡ fault_text (run.Line line e)
line_printed line e l k = fits (run.Line line e) l (small_line e) k

pub tail_printed : (line : ℕ) (e : TailRefusal) → line ≤ 99999999 →
    unless (fault_refused line (run_number (run.Tail line e)) 0 18) (fault_text (run.Tail line e)) ≡ fault_text (run.Tail line e)
tail_printed line e l = fits (run.Tail line e) l (small_tail line e) (omega arith)
