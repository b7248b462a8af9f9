-- A header is read to a value exactly when the value is written to that line.
use Rattle.std.proofs.Common.{◌≡◌, ℕ, ◌≤◌, Bool, true, false, cond, eqb, ltb, List, [], ◌∷◌, ◌++◌, length, take, drop, Some, None, Ok, Err, Option, Result, sym, refl, ap, ◌∙◌, arith, length-append, length-drop}
use Rattle.std.proofs.lemmas.List.{length-take-le, take-append-drop, take_at, drop_at, take_all, drop-drop}
use Rattle.std.proofs.lemmas.Bool.{cond-true, cond-false, eq-eqb, eqb-true, or_from, le-ltb}
use Rattle.code.specs.Making.{outside, delay_of, sheet_refused}
use Rattle.code.specs.declared.sheet.Sheet.{Sheet}
use Rattle.code.specs.declared.sheet.SheetRefusal.{SheetRefusal}
use Rattle.text.specs.declared.fault.LineFault.TheVariants as fault
use Rattle.lines.specs.declared.header.Header.{Header}
use Rattle.lines.specs.declared.header.SymbolKind.{SymbolKind}
use Rattle.lines.specs.declared.header.SymbolKind.TheVariants.{Bytes, Digits}
use Rattle.lines.specs.Fields.{field, field_read}
use Rattle.lines.specs.Lines.{kind_letter, header_line}
use Rattle.text.specs.Reading.{and_then, of_field, of_sheet, kind_of, header_of, header_read}
use Rattle.text.specs.Sheets.{made_by, sheet_of}
use Rattle.text.specs.Inverse.{HeaderInverse}
use Rattle.text.proofs.Inverses.{no_ok, then_ok, cond_ok, field_ok, number_read, number_back}
use Rattle.lines.proofs.Numbers.{length-field}
use Rattle.text.proofs.SheetPaths.{by_refusal}

-- The kind letter.

by_letter : (c : ℕ) (b d : Bool) (kind : SymbolKind) → (b ≡ true → c ≡ 66) → (d ≡ true → c ≡ 68) →
    cond b (Ok Bytes) (cond d (Ok Digits) (Err fault.Kind)) ≡ Ok kind → c ≡ kind_letter kind
by_letter c true d kind p q h = let e : Bytes ≡ kind = cc in p refl ∙ ap kind_letter e
by_letter c false true kind p q h = let e : Digits ≡ kind = cc in q refl ∙ ap kind_letter e
by_letter c false false kind p q h = no_ok h

kind_is : (c : ℕ) (kind : SymbolKind) → kind_of c ≡ Ok kind → c ≡ kind_letter kind
kind_is c kind h = by_letter c (eqb c 66) (eqb c 68) kind (eqb-true c 66) (eqb-true c 68) h

kind_back : (kind : SymbolKind) → kind_of (kind_letter kind) ≡ Ok kind
kind_back Bytes = refl
kind_back Digits = refl

-- The sheet.

sheet_ok : (r : Result Sheet SheetRefusal) (p : Sheet) → of_sheet r ≡ Ok p → r ≡ Ok p
sheet_ok (Ok q) p h = let e : q ≡ p = cc in ap Ok e
sheet_ok (Err e) p h = no_ok h

made_has : (burst row parity : ℕ) (refused : Option SheetRefusal) (h : sheet_refused burst row parity ≡ refused) (p : Sheet) →
    made_by burst row parity refused h ≡ Ok p → (p.burst ≡ burst) × (p.row ≡ row) × (p.parity ≡ parity)
unfolding made_by
made_has burst row parity (Some e) h p m = no_ok m
made_has burst row parity None h p m =
    let burst-of : Result Sheet SheetRefusal → ℕ = λ r. elim r [ Ok q ↦ q.burst | Err e ↦ 0 ] in
    let row_of : Result Sheet SheetRefusal → ℕ = λ r. elim r [ Ok q ↦ q.row | Err e ↦ 0 ] in
    let parity-of : Result Sheet SheetRefusal → ℕ = λ r. elim r [ Ok q ↦ q.parity | Err e ↦ 0 ] in
    (sym (ap burst-of m), sym (ap row_of m), sym (ap parity-of m))

sheet_has : (burst row parity : ℕ) (p : Sheet) → sheet_of burst row parity ≡ Ok p →
    (p.burst ≡ burst) × (p.row ≡ row) × (p.parity ≡ parity)
unfolding sheet_of
sheet_has burst row parity p h = made_has burst row parity (sheet_refused burst row parity) refl p h

within : (top x : ℕ) → 1 ≤ x → x ≤ top → outside top x ≡ false
within top x p q = or_from (ltb x 1) (ltb top x) (le-ltb x 1 p) (le-ltb top x q)

none_refused : (p : Sheet) → sheet_refused p.burst p.row p.parity ≡ None
none_refused p =
    let few = p.few in
    let waits = p.waits in
    cond-false (outside 32 p.burst) _ _ (within 32 p.burst p.bursts.0 p.bursts.1)
    ∙ (cond-false (outside 48 p.row) _ _ (within 48 p.row p.rows.0 p.rows.1)
    ∙ (cond-false (outside 16 p.parity) _ _ (within 16 p.parity p.parities.0 p.parities.1)
    ∙ cond-false (ltb 256 (delay_of p.burst p.row p.parity)) _ _ (le-ltb 256 (delay_of p.burst p.row p.parity) (omega arith))))

made_back : (p : Sheet) (refused : Option SheetRefusal) (h : sheet_refused p.burst p.row p.parity ≡ refused) →
    refused ≡ None → made_by p.burst p.row p.parity refused h ≡ Ok p
made_back p (Some e) h none = let z : ◌≡◌ {A = ℕ} 0 1 = cc in absurd (omega arith)
made_back p None h none =
    sym (by_refusal p.burst p.row p.parity None h (Ok p) (record { burst_is = refl; row_is = refl; parity_is = refl }))

sheet_back : (p : Sheet) → sheet_of p.burst p.row p.parity ≡ Ok p
unfolding sheet_of
sheet_back p = made_back p (sheet_refused p.burst p.row p.parity) refl (none_refused p)

-- The bytes after the kind letter.

three_fields : (rest : List ℕ) → length rest ≡ 12 → rest ≡ take 4 rest ++ (take 4 (drop 4 rest) ++ take 4 (drop 8 rest))
three_fields rest l =
    let d : drop 4 (drop 4 rest) ≡ drop 8 rest = drop-drop 4 4 rest in
    let k : length (drop 8 rest) ≡ 4 = length-drop 8 rest ∙ omega arith in
    let a : take 4 (drop 8 rest) ≡ drop 8 rest = take_all 4 (drop 8 rest) (omega arith) in
    sym (take-append-drop 4 rest)
    ∙ ap (λ x. take 4 rest ++ x) (sym (take-append-drop 4 (drop 4 rest)) ∙ ap (λ x. take 4 (drop 4 rest) ++ x) (d ∙ sym a))

rest_is : (letter : ℕ) (rest : List ℕ) (h : Header) → header_of letter rest ≡ Ok h → length rest ≡ 12 →
    72 ∷ (letter ∷ rest) ≡ header_line h.kind h.sheet
rest_is letter rest h e l =
    let k = then_ok (kind_of letter) _ h e in
    let a = then_ok (of_field (field_read 3 9999 (take 4 rest))) _ h k.2 in
    let b = then_ok (of_field (field_read 7 9999 (take 4 (drop 4 rest)))) _ h a.2 in
    let c = then_ok (of_field (field_read 11 9999 (take 4 (drop 8 rest)))) _ h b.2 in
    let s = then_ok (of_sheet (sheet_of a.0 b.0 c.0)) _ h c.2 in
    let is : record { kind = k.0; sheet = s.0 } ≡ h = cc in
    let d4 = length-drop 4 rest in
    let d8 = length-drop 8 rest in
    let burst = number_read 3 9999 4 a.0 (take 4 rest) (field_ok _ _ a.1) (length-take-le 4 rest (omega arith)) in
    let row = number_read 7 9999 4 b.0 (take 4 (drop 4 rest)) (field_ok _ _ b.1) (length-take-le 4 (drop 4 rest) (omega arith)) in
    let parity = number_read 11 9999 4 c.0 (take 4 (drop 8 rest)) (field_ok _ _ c.1) (length-take-le 4 (drop 8 rest) (omega arith)) in
    let has = sheet_has a.0 b.0 c.0 s.0 (sheet_ok _ _ s.1) in
    let p = s.0 in
    ap (λ x. 72 ∷ (x ∷ rest)) (kind_is letter k.0 k.1)
    ∙ (ap (λ x. 72 ∷ (kind_letter k.0 ∷ x)) (three_fields rest l
    ∙ (ap (λ x. x ++ (take 4 (drop 4 rest) ++ take 4 (drop 8 rest))) (burst.0 ∙ ap (field 4) (sym has.0))
    ∙ (ap (λ x. field 4 p.burst ++ (x ++ take 4 (drop 8 rest))) (row.0 ∙ ap (field 4) (sym has.1))
    ∙ ap (λ x. field 4 p.burst ++ (field 4 p.row ++ x)) (parity.0 ∙ ap (field 4) (sym has.2)))))
    ∙ ap (λ x. header_line x.kind x.sheet) is)

header_is : (line : List ℕ) (h : Header) → header_read line ≡ Ok h → line ≡ header_line h.kind h.sheet
header_is [] h e = no_ok e
header_is (c ∷ []) h e = let a = cond_ok (eqb c 72) (Err fault.Length) fault.Letter h e in no_ok a.1
header_is (c ∷ (letter ∷ rest)) h e =
    let a = cond_ok (eqb c 72) _ _ h e in
    let b = cond_ok (eqb (length rest) 12) _ _ h a.1 in
    ap (λ x. x ∷ (letter ∷ rest)) (eqb-true c 72 a.0) ∙ rest_is letter rest h b.1 (eqb-true (length rest) 12 b.0)

header_back : (h : Header) → header_read (header_line h.kind h.sheet) ≡ Ok h
header_back h =
    let p = h.sheet in
    let b1 = h.sheet.bursts.1 in
    let k1 = h.sheet.rows.1 in
    let r1 = h.sheet.parities.1 in
    let fb = field 4 h.sheet.burst in
    let fk = field 4 h.sheet.row in
    let fr = field 4 h.sheet.parity in
    let lb : length (field 4 h.sheet.burst) ≡ 4 = length-field 4 p.burst (omega arith) (omega arith) in
    let lk : length (field 4 h.sheet.row) ≡ 4 = length-field 4 p.row (omega arith) (omega arith) in
    let lr : length (field 4 h.sheet.parity) ≡ 4 = length-field 4 p.parity (omega arith) (omega arith) in
    let la = length-append fk fr in
    let len : length (field 4 h.sheet.burst ++ (field 4 h.sheet.row ++ field 4 h.sheet.parity)) ≡ 12 =
    length-append fb (fk ++ fr) ∙ omega arith in
    let rest = fb ++ (fk ++ fr) in
    let d4 : drop 4 (field 4 h.sheet.burst ++ (field 4 h.sheet.row ++ field 4 h.sheet.parity)) ≡ field 4 h.sheet.row ++ field 4 h.sheet.parity =
    drop_at fb (fk ++ fr) 4 lb in
    let d8 : drop 8 (field 4 h.sheet.burst ++ (field 4 h.sheet.row ++ field 4 h.sheet.parity)) ≡ field 4 h.sheet.parity =
    sym (drop-drop 4 4 rest) ∙ (ap (drop 4) d4 ∙ drop_at fk fr 4 lk) in
    let burst = number_back 3 9999 4 p.burst (take 4 rest) (take_at fb (fk ++ fr) 4 lb) (omega arith) (omega arith) (omega arith) (omega arith) in
    let row = number_back 7 9999 4 p.row (take 4 (drop 4 rest)) (ap (take 4) d4 ∙ take_at fk fr 4 lk) (omega arith) (omega arith) (omega arith) (omega arith) in
    let parity = number_back 11 9999 4 p.parity (take 4 (drop 8 rest)) (ap (take 4) d8 ∙ take_all 4 fr (omega arith)) (omega arith) (omega arith) (omega arith) (omega arith) in
    cond-true (eqb (length rest) 12) _ _ (eq-eqb (length rest) 12 len)
    ∙ (ap (λ x. and_then x (λ kind. and_then (of_field (field_read 3 9999 (take 4 rest))) (λ burst'.
    and_then (of_field (field_read 7 9999 (take 4 (drop 4 rest)))) (λ row'.
    and_then (of_field (field_read 11 9999 (take 4 (drop 8 rest)))) (λ parity'.
    and_then (of_sheet (sheet_of burst' row' parity')) (λ sheet. Ok (record { kind = kind; sheet = sheet }))))))) (kind_back h.kind)
    ∙ (ap (λ x. and_then (of_field x) (λ burst'.
    and_then (of_field (field_read 7 9999 (take 4 (drop 4 rest)))) (λ row'.
    and_then (of_field (field_read 11 9999 (take 4 (drop 8 rest)))) (λ parity'.
    and_then (of_sheet (sheet_of burst' row' parity')) (λ sheet. Ok (record { kind = h.kind; sheet = sheet })))))) burst
    ∙ (ap (λ x. and_then (of_field x) (λ row'.
    and_then (of_field (field_read 11 9999 (take 4 (drop 8 rest)))) (λ parity'.
    and_then (of_sheet (sheet_of p.burst row' parity')) (λ sheet. Ok (record { kind = h.kind; sheet = sheet }))))) row
    ∙ (ap (λ x. and_then (of_field x) (λ parity'.
    and_then (of_sheet (sheet_of p.burst p.row parity')) (λ sheet. Ok (record { kind = h.kind; sheet = sheet })))) parity
    ∙ ap (λ x. and_then (of_sheet x) (λ sheet. Ok (record { kind = h.kind; sheet = sheet }))) (sheet_back p)))))

pub header_inverse : HeaderInverse
header_inverse line h = (header_is line h, λ e. ap header_read e ∙ header_back h)
