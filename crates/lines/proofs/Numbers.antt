-- A part reads as n exactly when it is the field of n.
use Rattle.std.proofs.Common.{◌≡◌, ℕ, zero, suc, ◌+◌, ◌-◌, ◌*◌, ◌^◌, ◌<◌, ◌≤◌, Bool, true, cond, ◌&&◌, eqb, leb, List, [], ◌∷◌, ◌++◌, map, length, replicate, Some, None, Option, sym, refl, ap, ◌∙◌, ⊎_elim, arith}
use Rattle.std.specs.Int.Digits.{digits_of, number_from_digits_after, AllBelowBase}
use Rattle.std.proofs.lemmas.Int.Digits.{all_below_base_digits_of, number_digits_of, length-digits_of-le}
use Rattle.std.proofs.lemmas.List.{length-append, length-map, length-replicate}
use Rattle.std.proofs.lemmas.Bool.{cases_Bool, cond-true, cond-false, and_parts, and_from, eqb-true, eq-eqb, le-leb, lt-leb, and_left}
use Rattle.std.proofs.lemmas.Bool.Decides.{nat_tests}
use Rattle.lines.specs.declared.field.Seen.TheVariants.{Blanks}
use Rattle.lines.specs.Fields.{digits, digit_byte, field, is_digit, value_after, same, number_in, Inverse}
use Rattle.lines.proofs.Columns.{two}
use Rattle.lines.proofs.Scans.{scanned, digits_above, field_found, found_field}

-- The digits of a field write its number.

digit_value : (v d : ℕ) → d < 10 → cond (is_digit (48 + d)) (v * 10 + (48 + d - 48)) v ≡ v * 10 + d
digit_value v d h =
    let e : 48 + d - 48 ≡ d = omega arith in
    let t : is_digit (48 + d) ≡ true = grind (arith, nat_tests) in
    cond-true _ _ _ t ∙ ap (λ x. v * 10 + x) e

value_digits : (ds : List ℕ) (v : ℕ) → AllBelowBase 10 ds → value_after v (map digit_byte ds) ≡ number_from_digits_after 10 v ds
value_digits [] v u = refl
value_digits (d ∷ ds) v u =
    ap (λ x. value_after x (map digit_byte ds)) (digit_value v d u.0) ∙ value_digits ds (v * 10 + d) u.1

value_blanks : (k v : ℕ) (bs : List ℕ) → value_after v (replicate k 32 ++ bs) ≡ value_after v bs
value_blanks zero v bs = refl
value_blanks (suc k) v bs = value_blanks k v bs

value_of : (n : ℕ) → value_after 0 (map digit_byte (digits n)) ≡ n
value_of zero = refl
value_of (suc m) =
    ap (λ ds. value_after 0 (map digit_byte ds)) (digits_above (suc m) (omega arith))
    ∙ (value_digits (digits_of 10 (suc m)) 0 (all_below_base_digits_of 10 (suc m) two) ∙ number_digits_of 10 (suc m) two)

value_field : (width n : ℕ) → value_after 0 (field width n) ≡ n
unfolding field
value_field width n = value_blanks (width - length (digits n)) 0 (map digit_byte (digits n)) ∙ value_of n

-- The test of two texts tells whether they are the same.

same_self : (xs : List ℕ) → same xs xs ≡ true
same_self [] = refl
same_self (x ∷ xs) = and_from (eqb x x) (same xs xs) (eq-eqb x x refl) (same_self xs)

same_is : (xs ys : List ℕ) → same xs ys ≡ true → xs ≡ ys
same_is [] [] t = refl
same_is [] (y ∷ ys) t = let z : ◌≡◌ {A = ℕ} 0 1 = cc in absurd (omega arith)
same_is (x ∷ xs) [] t = let z : ◌≡◌ {A = ℕ} 0 1 = cc in absurd (omega arith)
same_is (x ∷ xs) (y ∷ ys) t =
    let p = and_parts (eqb x y) (same xs ys) t in
    let e = eqb-true x y p.0 in
    let f = same_is xs ys p.1 in cc

abbrev test : List ℕ → Bool
test part = leb (length part) 8 && same part (field (length part) (value_after 0 part))

-- a field reads as its number
pub field_reads : (part : List ℕ) (n : ℕ) → length part ≤ 8 → part ≡ field (length part) n → number_in part ≡ Some n
unfolding number_in
field_reads part n l e =
    let v : value_after 0 part ≡ n = ap (value_after 0) e ∙ value_field (length part) n in
    let s : same part (field (length part) (value_after 0 part)) ≡ true =
    ap (same part) (ap (field (length part)) v ∙ sym e) ∙ same_self part in
    cond-true (test part) _ _ (and_from _ _ (le-leb (length part) 8 l) s) ∙ ap Some v

-- what reads as a number is its field
pub reads_field : (part : List ℕ) (n : ℕ) → number_in part ≡ Some n → (length part ≤ 8) × (part ≡ field (length part) n)
unfolding number_in
reads_field part n e =
    ⊎_elim
    (λ t.
    let p = and_parts (leb (length part) 8) (same part (field (length part) (value_after 0 part))) t in
    let q : Some (value_after 0 part) ≡ Some n = sym (cond-true (test part) _ _ t) ∙ e in
    let v : value_after 0 part ≡ n = cc in
    let l : length part ≤ 8 = grind (arith, nat_tests) in
    (l, same_is part (field (length part) (value_after 0 part)) p.1 ∙ ap (field (length part)) v))
    (λ f.
    let q : None ≡ Some n = sym (cond-false (test part) _ _ f) ∙ e in
    let z : ◌≡◌ {A = ℕ} 0 1 = cc in absurd (omega arith))
    (cases_Bool (test part))

pub too_wide : (part : List ℕ) → 8 < length part → number_in part ≡ None
unfolding number_in
too_wide part h = cond-false (test part) _ _ (and_left (leb (length part) 8) _ (lt-leb (length part) 8 h))

some_or_none : (o : Option ℕ) → ((n : ℕ) → o ≡ Some n → ⊥) → o ≡ None
some_or_none None f = refl
some_or_none (Some n) f = absurd (f n refl)

by_found : (part : List ℕ) (o : Option ℕ) → length part ≤ 8 → scanned Blanks part ≡ o → number_in part ≡ o
by_found part (Some n) l e = field_reads part n l (found_field part n e)
by_found part None l e =
    some_or_none (number_in part) (λ n h.
    let f = reads_field part n h in
    let q : None ≡ Some n = sym e ∙ ap (scanned Blanks) f.1 ∙ field_found (length part) n in
    let z : ◌≡◌ {A = ℕ} 0 1 = cc in omega arith)

-- what scanning finds is the number
pub scan_is : (part : List ℕ) → length part ≤ 8 → scanned Blanks part ≡ number_in part
scan_is part l = sym (by_found part (scanned Blanks part) l refl)

-- a field is as wide as it says
digits_short : (width n : ℕ) → 1 ≤ width → n < 10 ^ width → length (digits n) ≤ width
digits_short width zero p h = omega arith
digits_short width (suc m) p h =
    let l = length-digits_of-le 10 width (suc m) two h in
    let e : length (digits (suc m)) ≡ length (digits_of 10 (suc m)) = ap length (digits_above (suc m) (omega arith)) in
    omega arith

pub length-field : (width n : ℕ) → 1 ≤ width → n < 10 ^ width → length (field width n) ≡ width
unfolding field
length-field width n p h =
    let s = digits_short width n p h in
    length-append (replicate (width - length (digits n)) 32) (map digit_byte (digits n))
    ∙ (ap (λ x. x + length (map digit_byte (digits n))) (length-replicate (width - length (digits n)) 32)
    ∙ (ap (λ x. width - length (digits n) + x) (length-map (digits n) digit_byte) ∙ omega arith))

pub inverse : Inverse
inverse = record {
  back = λ width n p l h.
      let e = length-field width n p h in
      field_reads (field width n) n (omega arith) (ap (λ w. field w n) (sym e));
  alone = λ part n e. (reads_field part n e).1;
}
