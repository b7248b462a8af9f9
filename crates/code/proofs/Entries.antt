-- The entries of the published matrices. Assumes nothing.
use Rattle.std.proofs.Common.{◌≡◌, ℕ, ◌+◌, ◌-◌, ◌*◌, ◌/◌, ◌%◌, ◌<◌, ◌≤◌, Bool, true, false, cond, not, ◌&&◌, eqb, ltb, leb, ◌≢◌, sym, refl, ap, ◌∙◌, inl, inr, mul-le-mul_right, mod-lt, mod-eq_of_lt, div-add-mod', mul-div_cancel, arith}
use native.Mathlib.Nat.{mul-mod_left, div-eq_of_lt}
use Rattle.std.proofs.lemmas.Bool.Decides.{nat_tests}
use Rattle.std.proofs.lemmas.Bool.{cases_eq, cases_order, cond-true, cond_both, and_parts, le-leb, leb-true, eqb-true, eqb-false, eq-eqb, ne_eqb, and_left, ltb-true, ltb-false}
use Rattle.code.specs.declared.sheet.Sheet.{Sheet}
use Rattle.code.specs.Sheets.{block, lag, column}
use Rattle.code.specs.Published.{Matrix, nothing, identity, above, left, full, rest, only_block, long_row, short_row, published}

-- symbol b = q r + m
module _ (r q m b c : ℕ) (small : m < r) (parts : b ≡ q * r + m) where
  whole_entry : (i : ℕ) → 1 ≤ i → above ((i - 1) * r) nothing (above r identity nothing) b c ≡ (eqb i (1 + q) && eqb c m)
  whole_entry i some = elim (cases_order q (i - 1)) [
    | inl w ↦ let e : q * r ≡ (i - 1) * r = ap (λ x. x * r) w in grind (arith, nat_tests)
    | inr (inl w) ↦ let e : q * r + r ≤ (i - 1) * r = omega (arith, mul-le-mul_right r w) in grind (arith, nat_tests)
    | inr (inr w) ↦ let e : (i - 1) * r + r ≤ q * r = omega (arith, mul-le-mul_right r w) in grind (arith, nat_tests)
  ]

  -- of a row of k = f r + g symbols
  module _ (k f g : ℕ) (rest : g < r) (row : k ≡ f * r + g) (below : b < k) where
    last_entry : (i : ℕ) → i ≡ f + 1 → above (k - g) nothing (left g identity nothing) b c ≡ (eqb i (1 + q) && eqb c m)
    last_entry i last = elim (cases_order q f) [
      | inl w ↦ let e : q * r ≡ f * r = ap (λ x. x * r) w in grind (arith, nat_tests)
      | inr (inl w) ↦ let e : q * r + r ≤ f * r = omega (arith, mul-le-mul_right r w) in grind (arith, nat_tests)
      | inr (inr w) ↦ let e : f * r + r ≤ q * r = omega (arith, mul-le-mul_right r w) in grind (arith, nat_tests)
    ]

    -- there are no other blocks
    no_entry : (i : ℕ) → (leb 1 i && leb i f) ≡ false → (not (eqb g 0) && eqb i (f + 1)) ≡ false → false ≡ (eqb i (1 + q) && eqb c m)
    no_entry i not-whole not_last = elim (cases_order q f) [
      | inl w ↦ let e : q * r ≡ f * r = ap (λ x. x * r) w in grind (arith, nat_tests)
      | inr (inl w) ↦ grind (arith, nat_tests)
      | inr (inr w) ↦ let e : f * r + r ≤ q * r = omega (arith, mul-le-mul_right r w) in grind (arith, nat_tests)
    ]

-- the one block of a row of k ≤ r symbols
only_entry : (i r k q b c place : ℕ) → i ≡ 1 → k ≤ r → b < k → q ≡ 0 → place ≡ (r - k) + b → left (r - k) nothing identity b c ≡ (eqb i (1 + q) && eqb c place)
only_entry i r k q b c place one short below first placed = grind (arith, nat_tests)

-- of a multiple of l
multiple : (d l n : ℕ) → 1 ≤ l → d % l ≡ 0 → eqb (d / l) n ≡ eqb d (n * l)
multiple d l n some e =
    let whole : d ≡ (d / l) * l = omega (arith, div-add-mod' d l) in
    elim (cases_eq (d / l) n) [
      | inl w ↦ let f : (d / l) * l ≡ n * l = ap (λ x. x * l) w in eq-eqb (d / l) n w ∙ sym (eq-eqb d (n * l) (omega arith))
      | inr w ↦ ne_eqb (d / l) n w ∙ sym (ne_eqb d (n * l) (λ f. w (ap (λ x. x / l) f ∙ mul-div_cancel n some)))
    ]

at_entry : (x : Bool) (A B : Matrix) (b c : ℕ) (y : Bool) → (x ≡ true → A b c ≡ y) → (x ≡ false → B b c ≡ y) → cond x A B b c ≡ y
at_entry true A B b c y f g = f refl
at_entry false A B b c y f g = g refl

module _ (p : Sheet) (b c : ℕ) (below : b < p.row) where
  long_entry : (i : ℕ) → p.parity < p.row → long_row p i b c ≡ (eqb i (block p b) && eqb c (column p b))
  long_entry i long =
      let r = p.parity in
      let q = b / p.parity in
      let m = b % p.parity in
      let small : m < r = mod-lt b p.parities.0 in
      let parts : b ≡ q * r + m = sym (div-add-mod' b r) in
      let rest-small : rest p < r = mod-lt p.row p.parities.0 in
      let row-parts : p.row ≡ full p * r + rest p = sym (div-add-mod' p.row r) in
      let plain : column p b ≡ m = cond-true _ _ _ (le-leb r p.row (omega arith)) in
      at_entry _ _ _ b c _
      (λ w. whole_entry r q m b c small parts i (leb-true 1 i (and_parts (leb 1 i) (leb i (full p)) w).0))
      (λ w. at_entry _ _ _ b c _
      (λ v. last_entry r q m b c small parts p.row (full p) (rest p) rest-small row-parts below i
      (eqb-true i (full p + 1) (and_parts (not (eqb (rest p) 0)) (eqb i (full p + 1)) v).1))
      (λ v. no_entry r q m b c small parts p.row (full p) (rest p) rest-small row-parts below i w v))
      ∙ ap (λ x. eqb i (block p b) && eqb c x) (sym plain)

  short_entry : (i : ℕ) → p.row ≤ p.parity → short_row p i b c ≡ (eqb i (block p b) && eqb c (column p b))
  short_entry i short =
      let first : b / p.parity ≡ 0 = div-eq_of_lt (omega arith) in
      let same : b % p.parity ≡ b = mod-eq_of_lt (omega arith) in
      let placed : column p b ≡ (p.parity - p.row) + b =
      cond_both (leb p.parity p.row) (b % p.parity) ((p.parity - p.row) + b) (λ x. x ≡ (p.parity - p.row) + b)
      (λ e. omega (arith, leb-true p.parity p.row e)) (λ _. refl) in
      at_entry (eqb i 1) (only_block p) nothing b c (eqb i (block p b) && eqb c (column p b))
      (λ w. only_entry i p.parity p.row (b / p.parity) b c (column p b) (eqb-true i 1 w) short below first placed)
      (λ w. let other : i ≢ 1 = eqb-false i 1 w in grind (arith, nat_tests))

  block_entry : (i : ℕ) → cond (ltb p.parity p.row) (long_row p i) (short_row p i) b c ≡ (eqb i (block p b) && eqb c (column p b))
  block_entry i =
      at_entry (ltb p.parity p.row) (long_row p i) (short_row p i) b c _
      (λ w. long_entry i (ltb-true p.parity p.row w)) (λ w. short_entry i (ltb-false p.parity p.row w))

  -- every lag is a multiple of L
  lag_multiple : (d : ℕ) → d ≡ lag p b → d % p.burst ≡ 0
  lag_multiple d e = ap (λ x. x % p.burst) e ∙ mul-mod_left (block p b) p.burst

  pub entries : (d : ℕ) → published p d b c ≡ (eqb d (lag p b) && eqb c (column p b))
  entries d =
      let L = p.burst in
      at_entry (eqb (d % L) 0) _ nothing b c _
      (λ w.
      block_entry (d / L)
      ∙ ap (λ x. x && eqb c (column p b)) (multiple d L (block p b) p.bursts.0 (eqb-true (d % L) 0 w)))
      (λ w. sym (and_left _ _ (ne_eqb d (lag p b) (λ e. eqb-false (d % L) 0 w (lag_multiple d e)))))
