-- The numbers of a printed kind's symbols, and the layout that they are printed in. Assumes nothing.
use Rattle.std.specs.Prelude.{◌≡◌, ℕ, ◌-◌, ◌^◌, ◌<◌, ◌≤◌, cond, Some, None, Option, nat_le}
use Rattle.kinds.specs.declared.layout.Layout.{Layout}

pub record Form (S : Type 0) : Type 0 where
  pub layout : Layout
  pub number : S → ℕ
  pub symbol : ℕ → S
  pub width_small : layout.width ≤ 8
  -- the largest number has fewer digits than the field is wide
  pub top_fits : layout.top < 10 ^ (layout.width - 1)
  pub number_top : (s : S) → number s ≤ layout.top
  pub symbol_number : (s : S) → symbol (number s) ≡ s
  pub number_symbol : (n : ℕ) → n ≤ layout.top → number (symbol n) ≡ n

-- the symbol that has the number n, if one has
abbrev pub symbol_of : {S : Type 0} → Form S → ℕ → Option S
symbol_of F n = cond (nat_le n F.layout.top) (Some (F.symbol n)) None

-- one symbol, and no other, has the number n
pub record BelongsToOne {S : Type 0} (F : Form S) (n : ℕ) : Type 0 where
  pub symbol : S
  pub has : F.number symbol ≡ n
  pub alone : (s : S) → F.number s ≡ n → s ≡ symbol
