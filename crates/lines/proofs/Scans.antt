-- What scanning a field finds.
use Rattle.std.proofs.Common.{◌≡◌, ℕ, zero, suc, ◌+◌, ◌-◌, ◌*◌, ◌/◌, ◌%◌, ◌^◌, ◌<◌, ◌≤◌, Bool, true, false, cond, not, ◌&&◌, eqb, List, [], ◌∷◌, ◌++◌, map, length, get_or, replicate, Some, None, Option, sym, refl, ap, ◌∙◌, ⊎_elim, arith}
use native.Mathlib.Nat.{pow-le-pow_right, one-le-pow}
use Rattle.std.specs.Int.Digits.{digits_of, number_from_digits, number_from_digits_after, AllBelowBase}
use Rattle.std.proofs.lemmas.Int.Digits.{digits_of_step, all_below_base_digits_of, first_digits_of, number_digits_of}
use Rattle.std.proofs.lemmas.List.{append-nil, append_assoc, length-append, length-map, length-replicate, map_push}
use Rattle.std.proofs.lemmas.Bool.{cases_eq, cases_Bool, cond-true, cond-false, ne_eqb, eqb-true, and_parts}
use Rattle.std.proofs.lemmas.Bool.Decides.{nat_tests}
use Rattle.std.proofs.lemmas.Grind.{pow_more}
use Rattle.lines.specs.declared.field.Seen.{Seen}
use Rattle.lines.specs.declared.field.Seen.TheVariants.{Blanks, Number, Wrong}
use Rattle.lines.specs.Fields.{digits, digit_byte, field, is_digit}
use Rattle.lines.specs.Scanning.{step, SeenBelow}
use Rattle.lines.proofs.Columns.{two}

-- the number that was seen
abbrev pub found : Seen → Option ℕ
found Blanks = None
found (Number n) = Some n
found Wrong = None

-- what is found after what was seen
abbrev pub scanned : Seen → List ℕ → Option ℕ
scanned seen [] = found seen
scanned seen (c ∷ cs) = scanned (step seen c) cs

-- The numbers that are seen stay small.

weaker : (s : Seen) (m n : ℕ) → m ≤ n → SeenBelow s m → SeenBelow s n
weaker Blanks m n l h = tt
weaker (Number v) m n l h = omega arith
weaker Wrong m n l h = tt

pub seen_room : (s : Seen) (i : ℕ) → i ≤ 8 → SeenBelow s (10 ^ i) → SeenBelow s (10 ^ 8)
seen_room s i l h = let p : 10 ^ i ≤ 10 ^ 8 = pow-le-pow_right (omega arith) l in weaker s (10 ^ i) (10 ^ 8) p h

at_seen : (P : Seen → Type 0) (b : Bool) (x y : Seen) → (b ≡ true → P x) → (b ≡ false → P y) → P (cond b x y)
at_seen P true x y f g = f refl
at_seen P false x y f g = g refl

-- what a digit's test says
digit_is : (c : ℕ) → is_digit c ≡ true → (c - 48 < 10) × (48 + (c - 48) ≡ c)
digit_is c t = let h : (48 ≤ c) × (c ≤ 57) = grind (arith, nat_tests) in (omega arith, omega arith)

step_below : (s : Seen) (c m : ℕ) → 0 < m → SeenBelow s m → SeenBelow (step s c) (m * 10)
step_below Blanks c m p h =
    at_seen (λ s. SeenBelow s (m * 10)) (eqb c 32) _ _
    (λ _. tt)
    (λ _. at_seen (λ s. SeenBelow s (m * 10)) (is_digit c) _ _ (λ t. let d = digit_is c t in omega arith) (λ _. tt))
step_below (Number v) c m p h =
    at_seen (λ s. SeenBelow s (m * 10)) (not (eqb v 0) && is_digit c) _ _
    (λ t. let d = digit_is c (and_parts (not (eqb v 0)) (is_digit c) t).1 in omega arith)
    (λ _. tt)
step_below Wrong c m p h = tt

pub seen_more : (s r : Seen) (c i : ℕ) → r ≡ step s c → SeenBelow s (10 ^ i) → SeenBelow r (10 ^ (i + 1))
seen_more s r c i e h = rw (e, pow_more 10 i) (step_below s c (10 ^ i) (one-le-pow i 10 (omega arith)) h)

-- A field is found to be its number.

step_number : (v d : ℕ) → 0 < v → d < 10 → step (Number v) (48 + d) ≡ Number (v * 10 + d)
step_number v d p h =
    let e : 48 + d - 48 ≡ d = omega arith in
    let t : (not (eqb v 0) && is_digit (48 + d)) ≡ true = grind (arith, nat_tests) in
    cond-true _ _ _ t ∙ ap (λ x. Number (v * 10 + x)) e

step_first : (d : ℕ) → d < 10 → step Blanks (48 + d) ≡ Number d
step_first d h =
    let e : 48 + d - 48 ≡ d = omega arith in
    let n : eqb (48 + d) 32 ≡ false = grind (arith, nat_tests) in
    let t : is_digit (48 + d) ≡ true = grind (arith, nat_tests) in
    cond-false _ _ _ n ∙ (cond-true _ _ _ t ∙ ap Number e)

after_digits : (ds : List ℕ) (v : ℕ) → AllBelowBase 10 ds → 0 < v →
    scanned (Number v) (map digit_byte ds) ≡ Some (number_from_digits_after 10 v ds)
after_digits [] v u p = refl
after_digits (d ∷ ds) v u p =
    let q : 0 < v * 10 + d = omega arith in
    ap (λ s. scanned s (map digit_byte ds)) (step_number v d p u.0) ∙ after_digits ds (v * 10 + d) u.1 q

after_blanks : (k : ℕ) (bs : List ℕ) → scanned Blanks (replicate k 32 ++ bs) ≡ scanned Blanks bs
after_blanks zero bs = refl
after_blanks (suc k) bs = after_blanks k bs

lead : (ds : List ℕ) → AllBelowBase 10 ds → 0 < get_or ds 0 0 → scanned Blanks (map digit_byte ds) ≡ Some (number_from_digits 10 ds)
lead [] u p = absurd (omega arith)
lead (d ∷ ds) u p =
    let z : 0 * 10 + d ≡ d = omega arith in
    ap (λ s. scanned s (map digit_byte ds)) (step_first d u.0)
    ∙ (after_digits ds d u.1 p ∙ ap (λ x. Some (number_from_digits_after 10 x ds)) (sym z))

pub digits_above : (n : ℕ) → 0 < n → digits n ≡ digits_of 10 n
digits_above n p = cond-false _ _ _ (ne_eqb n 0 (λ e. omega arith))

digits_found : (n : ℕ) → scanned Blanks (map digit_byte (digits n)) ≡ Some n
digits_found zero = refl
digits_found (suc m) =
    let p : 0 < suc m = omega arith in
    ap (λ ds. scanned Blanks (map digit_byte ds)) (digits_above (suc m) p)
    ∙ (lead (digits_of 10 (suc m)) (all_below_base_digits_of 10 (suc m) two) (first_digits_of 10 (suc m) two p)
    ∙ ap Some (number_digits_of 10 (suc m) two))

pub field_found : (width n : ℕ) → scanned Blanks (field width n) ≡ Some n
unfolding field
field_found width n = after_blanks (width - length (digits n)) (map digit_byte (digits n)) ∙ digits_found n

-- What is found to be a number is its field.

wrong_none : (bs : List ℕ) → scanned Wrong bs ≡ None
wrong_none [] = refl
wrong_none (c ∷ cs) = wrong_none cs

not_wrong : (s : Seen) (bs : List ℕ) (n : ℕ) → s ≡ Wrong → scanned s bs ≡ Some n → ⊥
not_wrong s bs n w e =
    let q : None ≡ Some n = sym (ap (λ x. scanned x bs) w ∙ wrong_none bs) ∙ e in
    let z : ◌≡◌ {A = ℕ} 0 1 = cc in omega arith

digits_more : (v d : ℕ) → 0 < v → d < 10 → digits_of 10 (v * 10 + d) ≡ digits_of 10 v ++ (d ∷ [])
digits_more v d p h =
    let q : 0 < v * 10 + d = omega arith in
    let a : (v * 10 + d) / 10 ≡ v = omega arith in
    let b : (v * 10 + d) % 10 ≡ d = omega arith in
    digits_of_step 10 (v * 10 + d) two q
    ∙ (ap (λ x. digits_of 10 x ++ ((v * 10 + d) % 10 ∷ [])) a ∙ ap (λ x. digits_of 10 v ++ (x ∷ [])) b)

digits-one : (d : ℕ) → 0 < d → d < 10 → digits_of 10 d ≡ d ∷ []
digits-one d p h =
    let a : d / 10 ≡ 0 = omega arith in
    let b : d % 10 ≡ d = omega arith in
    digits_of_step 10 d two p ∙ (ap (λ x. digits_of 10 x ++ (d % 10 ∷ [])) a ∙ ap (λ x. x ∷ []) b)

some_text : (bs : List ℕ) (v n : ℕ) → 0 < v → scanned (Number v) bs ≡ Some n →
    (map digit_byte (digits_of 10 v) ++ bs ≡ map digit_byte (digits_of 10 n)) × (0 < n)
some_text [] v n p e = let q : v ≡ n = cc in (append-nil _ ∙ ap (λ x. map digit_byte (digits_of 10 x)) q, omega arith)
some_text (c ∷ cs) v n p e =
    ⊎_elim
    (λ t.
    let h = digit_is c (and_parts _ _ t).1 in
    let s : step (Number v) c ≡ Number (v * 10 + (c - 48)) = cond-true _ _ _ t in
    let q : 0 < v * 10 + (c - 48) = omega arith in
    let r = some_text cs (v * 10 + (c - 48)) n q (ap (λ x. scanned x cs) (sym s) ∙ e) in
    let m : map digit_byte (digits_of 10 (v * 10 + (c - 48))) ≡ map digit_byte (digits_of 10 v) ++ (c ∷ []) =
    ap (map digit_byte) (digits_more v (c - 48) p h.0)
    ∙ (map_push digit_byte (digits_of 10 v) (c - 48) ∙ ap (λ x. map digit_byte (digits_of 10 v) ++ (x ∷ [])) h.1) in
    (sym (append_assoc (map digit_byte (digits_of 10 v)) (c ∷ []) cs) ∙ (ap (λ x. x ++ cs) (sym m) ∙ r.0), r.1))
    (λ f. absurd (not_wrong (step (Number v) c) cs n (cond-false _ _ _ f) e))
    (cases_Bool (not (eqb v 0) && is_digit c))

-- after a leading zero nothing may come
zero_text : (bs : List ℕ) (n : ℕ) → scanned (Number 0) bs ≡ Some n → (bs ≡ []) × (n ≡ 0)
zero_text [] n e = (refl, cc)
zero_text (c ∷ cs) n e = absurd (not_wrong Wrong cs n refl e)

abbrev Text : List ℕ → ℕ → Type 0
Text bs n = (k : ℕ) × (bs ≡ replicate k 32 ++ map digit_byte (digits n))

digit_text : (c : ℕ) (cs : List ℕ) (n : ℕ) → is_digit c ≡ true → scanned (Number (c - 48)) cs ≡ Some n → Text (c ∷ cs) n
digit_text c cs n t e =
    let h = digit_is c t in
    ⊎_elim
    (λ z.
    let r = zero_text cs n (ap (λ x. scanned (Number x) cs) (sym z) ∙ e) in
    let i : c ≡ 48 = omega arith in
    (0, ap (λ x. x ∷ cs) i ∙ (ap (λ x. 48 ∷ x) r.0 ∙ ap (λ x. map digit_byte (digits x)) (sym r.1))))
    (λ nz.
    let p : 0 < c - 48 = omega arith in
    let r = some_text cs (c - 48) n p e in
    let m : map digit_byte (digits_of 10 (c - 48)) ≡ c ∷ [] =
    ap (map digit_byte) (digits-one (c - 48) p h.0) ∙ ap (λ x. x ∷ []) h.1 in
    (0, ap (λ x. x ++ cs) (sym m) ∙ (r.0 ∙ ap (map digit_byte) (sym (digits_above n r.1)))))
    (cases_eq (c - 48) 0)

any_text : (bs : List ℕ) (n : ℕ) → scanned Blanks bs ≡ Some n → Text bs n
any_text [] n e = let z : ◌≡◌ {A = ℕ} 0 1 = cc in absurd (omega arith)
any_text (c ∷ cs) n e =
    ⊎_elim
    (λ b.
    let i = eqb-true c 32 b in
    let r = any_text cs n (ap (λ x. scanned x cs) (sym (cond-true _ _ _ b)) ∙ e) in
    (suc r.0, ap (λ x. x ∷ cs) i ∙ ap (λ x. 32 ∷ x) r.1))
    (λ nb.
    let s : step Blanks c ≡ cond (is_digit c) (Number (c - 48)) Wrong = cond-false _ _ _ nb in
    ⊎_elim
    (λ t. digit_text c cs n t (ap (λ x. scanned x cs) (sym (s ∙ cond-true _ _ _ t)) ∙ e))
    (λ f. absurd (not_wrong (step Blanks c) cs n (s ∙ cond-false _ _ _ f) e))
    (cases_Bool (is_digit c)))
    (cases_Bool (eqb c 32))

pub found_field : (part : List ℕ) (n : ℕ) → scanned Blanks part ≡ Some n → part ≡ field (length part) n
unfolding field
found_field part n e =
    let t = any_text part n e in
    let l : length part ≡ t.0 + length (digits n) =
    ap length t.1 ∙ (length-append (replicate t.0 32) (map digit_byte (digits n))
    ∙ (ap (λ x. x + length (map digit_byte (digits n))) (length-replicate t.0 32)
    ∙ ap (λ x. t.0 + x) (length-map (digits n) digit_byte))) in
    let k : t.0 ≡ length part - length (digits n) = omega arith in
    t.1 ∙ ap (λ x. replicate x 32 ++ map digit_byte (digits n)) k
