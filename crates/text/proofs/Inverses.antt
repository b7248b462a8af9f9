-- A line is read to a value exactly when the value is written to that line.
use Rattle.std.proofs.Common.{◌≡◌, ℕ, zero, suc, ◌+◌, ◌*◌, ◌^◌, ◌<◌, ◌≤◌, Bool, true, false, cond, eqb, leb, List, [], ◌∷◌, ◌++◌, length, take, drop, Some, None, Ok, Err, Option, Result, sym, refl, ap, ◌∙◌, suc-mul, zero-mul, arith, length-append, length-drop}
use Rattle.std.proofs.lemmas.List.{length-take-le, take-append-drop, take_at, drop_at, take_all, nil_from_length}
use Rattle.std.proofs.lemmas.Bool.{cond-true, eq-eqb, eqb-true, le-leb, leb-true}
use Rattle.kinds.specs.Form.{Form}
use Rattle.kinds.specs.Kind.{Kind}
use Rattle.lines.specs.declared.field.FieldFault.{FieldFault}
use Rattle.text.specs.declared.fault.LineFault.TheVariants as fault
use Rattle.lines.specs.Fields.{field, number_in, read_under, field_read}
use Rattle.lines.specs.Lines.{symbol_field, symbol_fields, symbols_line, missed_line}
use Rattle.text.specs.Reading.{and_then, of_field, begins, number_of, symbols_read, symbols_of, missed_read}
use Rattle.code.specs.Sheets.{n}
use Rattle.code.specs.declared.sheet.Sheet.{Sheet}
use Rattle.text.specs.Inverse.{WrittenSo, RowInverse, PacketInverse, MissedInverse}
use Rattle.lines.proofs.Numbers.{field_reads, reads_field, length-field}
use Rattle.lines.proofs.Widths.{length-symbol, length_symbols}
use Rattle.lines.specs.Symbols.{symbol_under, symbol_read}
use Rattle.text.proofs.Symbols.{length_read}

-- What a success says of its parts.

pub no_ok : {X E : Type 0} {e : E} {x : X} {P : Type 0} → Err e ≡ Ok x → P
no_ok h = let z : ◌≡◌ {A = ℕ} 0 1 = cc in absurd (omega arith)

pub then_ok : {X Y E : Type 0} (r : Result X E) (f : X → Result Y E) (y : Y) → and_then r f ≡ Ok y →
    (x : X) × (r ≡ Ok x) × (f x ≡ Ok y)
then_ok (Ok x) f y h = (x, refl, h)
then_ok (Err e) f y h = no_ok h

pub cond_ok : {X E : Type 0} (b : Bool) (r : Result X E) (e : E) (x : X) → cond b r (Err e) ≡ Ok x → (b ≡ true) × (r ≡ Ok x)
cond_ok true r e x h = (refl, h)
cond_ok false r e x h = no_ok h

pub field_ok : {X : Type 0} (r : Result X FieldFault) (x : X) → of_field r ≡ Ok x → r ≡ Ok x
field_ok (Ok y) x h = let e : y ≡ x = cc in ap Ok e
field_ok (Err e) x h = no_ok h

under_ok : (at top number : ℕ) (o : Option ℕ) → read_under at top o ≡ Ok number → (o ≡ Some number) × (number ≤ top)
under_ok at top number None h = no_ok h
under_ok at top number (Some m) h =
    let p = cond_ok (leb m top) (Ok m) _ number h in
    let e : m ≡ number = cc in
    let l = leb-true m top p.0 in
    (ap Some e, omega arith)

-- a number that was read is written so
pub number_read : (at top width number : ℕ) (part : List ℕ) → field_read at top part ≡ Ok number → length part ≡ width →
    (part ≡ field width number) × (number ≤ top)
number_read at top width number part h l =
    let p = under_ok at top number (number_in part) h in
    ((reads_field part number p.0).1 ∙ ap (λ w. field w number) l, p.1)

-- and a number that is written is read
pub number_back : (at top width number : ℕ) (part : List ℕ) → part ≡ field width number → 1 ≤ width → width ≤ 8 →
    number < 10 ^ width → number ≤ top → field_read at top part ≡ Ok number
number_back at top width number part e p q h l =
    let w : length part ≡ width = ap length e ∙ length-field width number p h in
    ap (read_under at top) (field_reads part number (omega arith) (e ∙ ap (λ x. field x number) (sym w)))
    ∙ cond-true (leb number top) _ _ (le-leb number top l)

begins_is : (letter : ℕ) (line : List ℕ) → begins letter line ≡ true → (rest : List ℕ) × (line ≡ letter ∷ rest)
begins_is letter [] h = let z : ◌≡◌ {A = ℕ} 0 1 = cc in absurd (omega arith)
begins_is letter (c ∷ cs) h = (cs, ap (λ x. x ∷ cs) (eqb-true c letter h))

module _ {S : Type 0} (F : Form S) where
  -- what a line of symbols that was read holds
  pub symbols_parts : (letter count next : ℕ) (line : List ℕ) (xs : List S) → symbols_of F letter count next line ≡ Ok xs →
      (next ≤ 999999) × (symbols_read F 10 count (drop 9 line) ≡ Ok xs)
  symbols_parts letter count next line xs h =
      let a = cond_ok (begins letter line) _ _ xs h in
      let b = cond_ok (eqb (length line) (9 + count * F.layout.width)) _ _ xs a.1 in
      let c = then_ok (number_of line) _ xs b.1 in
      let d = then_ok (of_field (symbols_read F 10 count (drop 9 line))) _ xs c.2 in
      let e = cond_ok (eqb c.0 next) (Ok d.0) _ xs d.2 in
      let f : d.0 ≡ xs = cc in
      let same : c.0 ≡ next = eqb-true c.0 next e.0 in
      let u = under_ok 2 999999 c.0 (number_in (take 8 (drop 1 line))) (field_ok _ c.0 c.1) in
      (let m = u.1 in omega arith, field_ok _ d.0 d.1 ∙ ap Ok f)

module _ {S : Type 0} (K : Kind S) (F : Form S) where
  abbrev w : ℕ
  w = F.layout.width

  symbol_under_ok : (at : ℕ) (s : S) (o : Option ℕ) → symbol_under F at o ≡ Ok s → o ≡ Some (F.number s)
  symbol_under_ok at s None h = no_ok h
  symbol_under_ok at s (Some m) h =
      let p = cond_ok (leb m F.layout.top) (Ok (F.symbol m)) _ s h in
      let e : F.symbol m ≡ s = cc in
      ap Some (sym (sym (ap F.number e) ∙ F.number_symbol m (leb-true m F.layout.top p.0)))

  symbol_is : (at : ℕ) (part : List ℕ) (s : S) → symbol_read F at part ≡ Ok s → length part ≡ w → part ≡ symbol_field F s
  symbol_is at part s h l =
      (reads_field part (F.number s) (symbol_under_ok at s (number_in part) h)).1 ∙ ap (λ x. field x (F.number s)) l

  symbol_back : (at : ℕ) (s : S) → symbol_read F at (symbol_field F s) ≡ Ok s
  symbol_back at s =
      let l = length-symbol K F s in
      ap (symbol_under F at)
      (field_reads (symbol_field F s) (F.number s) (let h = F.width_small in omega arith) (ap (λ x. field x (F.number s)) (sym l)))
      ∙ (cond-true (leb (F.number s) F.layout.top) _ _ (le-leb _ _ (F.number_top s)) ∙ ap Ok (F.symbol_number s))

  pub symbols_is : (count at : ℕ) (fields : List ℕ) (xs : List S) → symbols_read F at count fields ≡ Ok xs →
      length fields ≡ count * F.layout.width → fields ≡ symbol_fields F xs
  symbols_is zero at fields xs h l =
      let e : [] ≡ xs = cc in
      nil_from_length fields (l ∙ zero-mul w) ∙ ap (symbol_fields F) e
  symbols_is (suc count) at fields xs h l =
      let a = then_ok (symbol_read F at (take w fields)) _ xs h in
      let b = then_ok (symbols_read F (at + w) count (drop w fields)) _ xs a.2 in
      let c : a.0 ∷ b.0 ≡ xs = cc in
      let m : length fields ≡ count * F.layout.width + F.layout.width = l ∙ suc-mul count w in
      let t : length (take F.layout.width fields) ≡ F.layout.width = length-take-le w fields (omega arith) in
      let d : length (drop F.layout.width fields) ≡ count * F.layout.width = length-drop w fields ∙ omega arith in
      sym (take-append-drop w fields)
      ∙ (ap (λ x. x ++ drop w fields) (symbol_is at (take w fields) a.0 a.1 t)
      ∙ (ap (λ x. symbol_field F a.0 ++ x) (symbols_is count (at + w) (drop w fields) b.0 b.1 d)
      ∙ ap (symbol_fields F) c))

  pub symbols_back : (at : ℕ) (xs : List S) → symbols_read F at (length xs) (symbol_fields F xs) ≡ Ok xs
  symbols_back at [] = refl
  symbols_back at (s ∷ xs) =
      let l = length-symbol K F s in
      let t : take F.layout.width (symbol_fields F (s ∷ xs)) ≡ symbol_field F s = take_at (symbol_field F s) (symbol_fields F xs) w l in
      let d : drop F.layout.width (symbol_fields F (s ∷ xs)) ≡ symbol_fields F xs = drop_at (symbol_field F s) (symbol_fields F xs) w l in
      ap (λ x. and_then x (λ symbol. and_then (symbols_read F (at + w) (length xs) (drop w (symbol_fields F (s ∷ xs)))) (λ symbols. Ok (symbol ∷ symbols))))
      (ap (symbol_read F at) t ∙ symbol_back at s)
      ∙ ap (λ x. and_then x (λ symbols. Ok (s ∷ symbols))) (ap (symbols_read F (at + w) (length xs)) d ∙ symbols_back (at + w) xs)

  -- a line of symbols
  pub symbols_line_is : (letter count next : ℕ) (line : List ℕ) (xs : List S) → symbols_of F letter count next line ≡ Ok xs →
      length xs ≡ count → WrittenSo count next xs (symbols_line F letter next xs) line
  symbols_line_is letter count next line xs h lxs =
      let a = cond_ok (begins letter line) _ _ xs h in
      let b = cond_ok (eqb (length line) (9 + count * w)) _ _ xs a.1 in
      let c = then_ok (number_of line) _ xs b.1 in
      let d = then_ok (of_field (symbols_read F 10 count (drop 9 line))) _ xs c.2 in
      let e = cond_ok (eqb c.0 next) (Ok d.0) _ xs d.2 in
      let f : d.0 ≡ xs = cc in
      let len : length line ≡ 9 + count * F.layout.width = eqb-true _ _ b.0 in
      let rest = begins_is letter line a.0 in
      let lr : suc (length rest.0) ≡ 9 + count * F.layout.width = sym (ap length rest.1) ∙ len in
      let l8 : length (take 8 rest.0) ≡ 8 = length-take-le 8 rest.0 (omega arith) in
      let ld : length (drop 8 rest.0) ≡ count * F.layout.width = length-drop 8 rest.0 ∙ omega arith in
      let number = number_read 2 999999 8 c.0 (take 8 rest.0)
      (ap (λ x. field_read 2 999999 (take 8 (drop 1 x))) (sym rest.1) ∙ field_ok _ c.0 c.1) l8 in
      let same : c.0 ≡ next = eqb-true c.0 next e.0 in
      let symbols = symbols_is count 10 (drop 8 rest.0) xs
      (ap (λ x. symbols_read F 10 count (drop 9 x)) (sym rest.1) ∙ (field_ok _ d.0 d.1 ∙ ap Ok f)) ld in (
        let m = number.1 in omega arith,
        lxs,
        rest.1 ∙ ap (λ x. letter ∷ x)
            (sym (take-append-drop 8 rest.0)
            ∙ (ap (λ x. x ++ drop 8 rest.0) (number.0 ∙ ap (field 8) same) ∙ ap (λ x. field 8 next ++ x) symbols)),
      )

  pub symbols_line_back : (letter count next : ℕ) (line : List ℕ) (xs : List S) →
      WrittenSo count next xs (symbols_line F letter next xs) line → symbols_of F letter count next line ≡ Ok xs
  symbols_line_back letter count next line xs (l, lxs, written) =
      let line' = symbols_line F letter next xs in
      let small : next < 10 ^ 8 = omega arith in
      let l8 : length (field 8 next) ≡ 8 = length-field 8 next (omega arith) small in
      let front : take 8 (field 8 next ++ symbol_fields F xs) ≡ field 8 next = take_at (field 8 next) (symbol_fields F xs) 8 l8 in
      let back : drop 8 (field 8 next ++ symbol_fields F xs) ≡ symbol_fields F xs = drop_at (field 8 next) (symbol_fields F xs) 8 l8 in
      let ls : length (symbol_fields F xs) ≡ count * F.layout.width = length_symbols K F xs ∙ ap (λ x. x * w) lxs in
      let la = length-append (field 8 next) (symbol_fields F xs) in
      let len : length (symbols_line F letter next xs) ≡ 9 + count * F.layout.width = omega arith in
      let number : field_read 2 999999 (take 8 (drop 1 (symbols_line F letter next xs))) ≡ Ok next =
      number_back 2 999999 8 next (take 8 (drop 1 (symbols_line F letter next xs))) front (omega arith) (omega arith) small l in
      let symbols : symbols_read F 10 count (drop 9 (symbols_line F letter next xs)) ≡ Ok xs =
      ap (symbols_read F 10 count) back ∙ (ap (λ k. symbols_read F 10 k (symbol_fields F xs)) (sym lxs) ∙ symbols_back 10 xs) in
      ap (symbols_of F letter count next) written
      ∙ (cond-true (eqb letter letter) _ _ (eq-eqb letter letter refl)
      ∙ (cond-true (eqb (length line') (9 + count * w)) _ _ (eq-eqb _ _ len)
      ∙ (ap (λ x. and_then (of_field x) (λ number'.
      and_then (of_field (symbols_read F 10 count (drop 9 line'))) (λ symbols'. cond (eqb number' next) (Ok symbols') (Err fault.Order)))) number
      ∙ (ap (λ x. and_then (of_field x) (λ symbols'. cond (eqb next next) (Ok symbols') (Err fault.Order))) symbols
      ∙ cond-true (eqb next next) _ _ (eq-eqb next next refl)))))

-- the line of a missed slot
pub missed_is : (next : ℕ) (line : List ℕ) → missed_read next line ≡ Ok tt → (next ≤ 999999) × (line ≡ missed_line next)
missed_is next line h =
    let a = cond_ok (begins 77 line) _ _ tt h in
    let b = cond_ok (eqb (length line) 9) _ _ tt a.1 in
    let c = then_ok (number_of line) _ tt b.1 in
    let e = cond_ok (eqb c.0 next) (Ok tt) _ tt c.2 in
    let len : length line ≡ 9 = eqb-true _ _ b.0 in
    let rest = begins_is 77 line a.0 in
    let lr : suc (length rest.0) ≡ 9 = sym (ap length rest.1) ∙ len in
    let all : take 8 rest.0 ≡ rest.0 = take_all 8 rest.0 (omega arith) in
    let number = number_read 2 999999 8 c.0 (take 8 rest.0)
    (ap (λ x. field_read 2 999999 (take 8 (drop 1 x))) (sym rest.1) ∙ field_ok _ c.0 c.1) (ap length all ∙ omega arith) in
    let same : c.0 ≡ next = eqb-true c.0 next e.0 in
    (let m = number.1 in omega arith, rest.1 ∙ ap (λ x. 77 ∷ x) (sym all ∙ (number.0 ∙ ap (field 8) same)))

missed_back : (next : ℕ) (line : List ℕ) → (next ≤ 999999) × (line ≡ missed_line next) → missed_read next line ≡ Ok tt
missed_back next line (l, written) =
    let small : next < 10 ^ 8 = omega arith in
    let l8 : length (field 8 next) ≡ 8 = length-field 8 next (omega arith) small in
    let len : length (missed_line next) ≡ 9 = ap suc l8 in
    let number : field_read 2 999999 (take 8 (drop 1 (missed_line next))) ≡ Ok next =
    number_back 2 999999 8 next (take 8 (drop 1 (missed_line next))) (take_all 8 (field 8 next) (omega arith))
    (omega arith) (omega arith) small l in
    ap (missed_read next) written
    ∙ (cond-true (eqb (length (missed_line next)) 9) _ _ (eq-eqb _ _ len)
    ∙ (ap (λ x. and_then (of_field x) (λ number'. cond (eqb number' next) (Ok tt) (Err fault.Order))) number
    ∙ cond-true (eqb next next) _ _ (eq-eqb next next refl)))

pub missed_inverse : MissedInverse
missed_inverse next line = (missed_is next line, missed_back next line)

pub row_inverse : {S : Type 0} (K : Kind S) (F : Form S) (p : Sheet) → RowInverse F p
row_inverse K F p next line row = (
  λ h. symbols_line_is K F 82 p.row next line row h
      (length_read F p.row 10 (drop 9 line) row (symbols_parts F 82 p.row next line row h).1),
  symbols_line_back K F 82 p.row next line row,
)

pub packet_inverse : {S : Type 0} (K : Kind S) (F : Form S) (p : Sheet) → PacketInverse F p
packet_inverse K F p next line packet = (
  λ h. symbols_line_is K F 65 (n p) next line packet h
      (length_read F (n p) 10 (drop 9 line) packet (symbols_parts F 65 (n p) next line packet h).1),
  symbols_line_back K F 65 (n p) next line packet,
)
