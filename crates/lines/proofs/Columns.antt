-- A field that is written column by column, from the right.
use Rattle.std.proofs.Common.{◌≡◌, ℕ, zero, suc, ◌+◌, ◌-◌, ◌*◌, ◌/◌, ◌%◌, ◌^◌, ◌<◌, ◌≤◌, false, eqb, List, [], ◌∷◌, ◌++◌, length, drop, set, sym, ap, ◌∙◌, arith, length-set}
use Rattle.std.specs.Int.Digits.{digits_of}
use Rattle.std.proofs.lemmas.Int.Digits.{digits_of_step}
use Rattle.std.proofs.lemmas.List.{append-nil, append_assoc, map_push, length_push, replicate_more, drop-set, drop_all}
use Rattle.std.proofs.lemmas.Bool.{cond-false, ne_eqb}
use Rattle.std.proofs.lemmas.Grind.{pow_more}
use Rattle.lines.specs.Fields.{digits, digit_byte, justified, field}
use Rattle.lines.specs.Scanning.{column_byte}

pub two : 2 ≤ 10
two = omega arith

-- one digit more
push : (j : ℕ) (ds : List ℕ) (d : ℕ) (rest : List ℕ) →
    justified j ds ++ ((48 + d) ∷ rest) ≡ justified (j + 1) (ds ++ (d ∷ [])) ++ rest
push j ds d rest =
    let l : length (ds ++ (d ∷ [])) ≡ length ds + 1 = length_push ds d in
    let e : j + 1 - length (ds ++ (d ∷ [])) ≡ j - length ds = omega arith in
    rw (e, map_push digit_byte ds d) (simp append_assoc)

above_zero : (u : ℕ) → eqb (suc u) 0 ≡ false
above_zero u = ne_eqb (suc u) 0 (λ e. omega arith)

-- the column that a turn writes
column : (j v : ℕ) (rest : List ℕ) →
    justified j (digits_of 10 (v / 10)) ++ (column_byte v ∷ rest) ≡ justified (j + 1) (digits_of 10 v) ++ rest
column j zero rest =
    let a : j - 0 ≡ j = omega arith in
    let b : j + 1 - 0 ≡ j + 1 = omega arith in
    rw (a, b, ← replicate_more {X = ℕ} j 32) (simp (append-nil, append_assoc))
column j (suc u) rest =
    let p : 0 < suc u = omega arith in
    ap (λ x. justified j (digits_of 10 (suc u / 10)) ++ (x ∷ rest)) (cond-false _ _ _ (above_zero u))
    ∙ (push j (digits_of 10 (suc u / 10)) (suc u % 10) rest
    ∙ ap (λ ds. justified (j + 1) ds ++ rest) (sym (digits_of_step 10 (suc u) two p)))

-- the last column
last_column : (j n : ℕ) → justified j (digits_of 10 (n / 10)) ++ ((48 + n % 10) ∷ []) ≡ field (j + 1) n
unfolding field
last_column j zero = push j [] 0 [] ∙ append-nil _
last_column j (suc u) =
    let p : 0 < suc u = omega arith in
    let e : digits (suc u) ≡ digits_of 10 (suc u) = cond-false _ _ _ (above_zero u) in
    push j (digits_of 10 (suc u / 10)) (suc u % 10) []
    ∙ (append-nil _ ∙ ap (justified (j + 1)) (sym (e ∙ digits_of_step 10 (suc u) two p)))

pub less_left : (i v : ℕ) → 0 < i → v < 10 ^ i → v / 10 < 10 ^ (i - 1)
less_left i v p h =
    let e : i - 1 + 1 ≡ i = omega arith in
    let q : 10 ^ i ≡ 10 ^ (i - 1) * 10 = ap (λ x. 10 ^ x) (sym e) ∙ pow_more 10 (i - 1) in
    omega arith

-- the loop begins
pub opening : (place : List ℕ) (n : ℕ) → 0 < length place →
    let j = length place - 1 in
    justified j (digits_of 10 (n / 10)) ++ drop j (set place j (48 + n % 10)) ≡ field (length (set place j (48 + n % 10))) n
opening place n p =
    let j = length place - 1 in
    let k : length place - 1 < length place = omega arith in
    let e : length place - 1 + 1 ≡ length place = omega arith in
    let z : drop (length place - 1 + 1) place ≡ [] = drop_all (length place - 1 + 1) place (omega arith) in
    ap (λ x. justified j (digits_of 10 (n / 10)) ++ x) (drop-set place j (48 + n % 10) k ∙ ap (λ x. (48 + n % 10) ∷ x) z)
    ∙ (last_column j n ∙ ap (λ x. field x n) (e ∙ sym (length-set place j (48 + n % 10))))

-- a turn writes column i - 1
pub turn : (i v n x : ℕ) (place : List ℕ) → 0 < i → i ≤ length place → x ≡ column_byte v →
    justified i (digits_of 10 v) ++ drop i place ≡ field (length place) n →
    justified (i - 1) (digits_of 10 (v / 10)) ++ drop (i - 1) (set place (i - 1) x) ≡ field (length (set place (i - 1) x)) n
turn i v n x place p l is h =
    let e : i - 1 + 1 ≡ i = omega arith in
    let k : i - 1 < length place = omega arith in
    ap (λ y. justified (i - 1) (digits_of 10 (v / 10)) ++ y)
    (drop-set place (i - 1) x k ∙ ap (λ y. y ∷ drop (i - 1 + 1) place) is)
    ∙ (column (i - 1) v (drop (i - 1 + 1) place)
    ∙ (ap (λ y. justified y (digits_of 10 v) ++ drop y place) e
    ∙ (h ∙ ap (λ y. field y n) (sym (length-set place (i - 1) x)))))

-- and the loop ends
pub closing : (i v : ℕ) (place goal : List ℕ) → i ≤ 0 → v < 10 ^ i →
    justified i (digits_of 10 v) ++ drop i place ≡ goal → place ≡ goal
closing zero v place goal z l h =
    let e : v ≡ 0 = omega arith in
    let q : justified 0 (digits_of 10 v) ++ place ≡ place = ap (λ x. justified 0 (digits_of 10 x) ++ place) e in
    sym q ∙ h
closing (suc i) v place goal z l h = absurd (omega arith)
