-- Which slot and column carries a symbol. Assumes nothing.
use Rattle.std.proofs.Common.{◌≡◌, ℕ, ◌+◌, ◌-◌, ◌*◌, ◌/◌, ◌%◌, ◌<◌, ◌≤◌, min, leb, sym, ◌∙◌, ap₂, inl, inr, mul-le-mul_right, mod-lt, mul-le-mul_left, div-add-mod', arith}
use Rattle.std.proofs.Math.Nat.{div-eq_of_lt-le}
use Rattle.std.proofs.lemmas.Grind.{div_ceil_times}
use Rattle.std.proofs.lemmas.Nat.{le-div}
use Rattle.std.proofs.lemmas.Bool.{cond_both, cond-true, cond-false, leb-false, cases_Bool}
use Rattle.code.specs.declared.sheet.Sheet.{Sheet}
use Rattle.code.specs.Sheets.{T, lag, column}

-- a quotient rounded up, written two ways
pub rounded_up : (a b : ℕ) → 0 < b → (a + (b - 1)) / b ≡ a / b + min 1 (a % b)
rounded_up a b some =
    let up = div_ceil_times a b some in
    div-eq_of_lt-le b (omega (arith, up.1)) (omega (arith, up.0))

module _ (p : Sheet) where
  pub column_below : (b : ℕ) → b < p.row → column p b < p.parity
  column_below b h =
      cond_both (leb p.parity p.row) (b % p.parity) ((p.parity - p.row) + b) (λ c. c < p.parity)
      (λ _. mod-lt b p.parities.0)
      (λ e. omega (arith, leb-false p.parity p.row e))

  -- the last block is ⌈k / r⌉
  block_below : (b : ℕ) → b < p.row → 1 + b / p.parity ≤ (p.row + (p.parity - 1)) / p.parity
  block_below b h = le-div (1 + b / p.parity) _ p.parity p.parities.0 (omega (arith, div-add-mod' b p.parity))

  pub lag_below : (b : ℕ) → b < p.row → lag p b ≤ T p
  lag_below b h = omega (arith, mul-le-mul_left p.burst (block_below b h), p.waits)

  pub lag_some : (b : ℕ) → p.burst ≤ lag p b
  lag_some b = omega arith

  -- two symbols of one column are carried in different blocks
  pub same_place : (a b : ℕ) → column p a ≡ column p b → a / p.parity ≡ b / p.parity → a ≡ b
  same_place a b e f = elim (cases_Bool (leb p.parity p.row)) [
    | inl w ↦
        let g : a % p.parity ≡ b % p.parity = sym (cond-true _ _ _ w) ∙ e ∙ cond-true _ _ _ w in
        sym (div-add-mod' a p.parity) ∙ ap₂ (λ q m. q * p.parity + m) f g ∙ div-add-mod' b p.parity
    | inr w ↦
        let g : (p.parity - p.row) + a ≡ (p.parity - p.row) + b = sym (cond-false _ _ _ w) ∙ e ∙ cond-false _ _ _ w in
        omega arith
  ]

  -- .. and so at least L slots apart
  pub lags_apart : (a b : ℕ) → a / p.parity < b / p.parity → lag p a + p.burst ≤ lag p b
  lags_apart a b h = omega (arith, mul-le-mul_right p.burst h)
