-- Going over the blocks of a row: what a loop has done for the symbols before the next block. Assumes nothing.
use Rattle.std.proofs.Common.{◌≡◌, ℕ, ◌+◌, min, sym, ap, ◌∙◌, ap₂, arith}
use Rattle.code.specs.declared.block.Block.{Block}
use Rattle.code.specs.declared.block.Blocks.{Blocks}
use Rattle.code.specs.declared.sheet.Sheet.{Sheet}
use Rattle.code.specs.Blocks.{BlocksFrom, AtBlock, NoBlock}

-- at a block of a row on the sheet p
module _ {p : Sheet} {s : Blocks} {b : Block} {t : Blocks} (on : s.sheet ≡ p) (at : AtBlock s b t) where
  pub block_on : b.sheet ≡ p
  block_on = at.sheet ∙ on

  pub rest_on : t.sheet ≡ p
  rest_on = at.rest.sheet ∙ on

  pub row_on : b.sheet.row ≡ p.row
  row_on = ap (λ (q : Sheet). q.row) block_on

  pub parity_on : b.sheet.parity ≡ p.parity
  parity_on = ap (λ (q : Sheet). q.parity) block_on

  pub here : min s.first p.row ≡ b.first
  here = omega (arith, row_on, at.first, b.within)

  pub there : min (b.first + p.parity) p.row ≡ min t.first p.row
  there = omega (arith, ap (λ (q : Sheet). q.parity) on, at.first, at.rest.first_is)

  module _ {X : Type 0} (f : Sheet → ℕ → X) where
    pub to_block : f p (min s.first p.row) ≡ f b.sheet b.first
    to_block = ap₂ f (sym block_on) here

    pub past_block : f b.sheet (min (b.first + b.sheet.parity) b.sheet.row) ≡ f p (min t.first p.row)
    past_block = ap₂ f block_on (ap₂ (λ r k. min (b.first + r) k) parity_on row_on ∙ there)

module _ {p : Sheet} {s : Blocks} {X : Type 0} (f : ℕ → X) where
  pub from_first : BlocksFrom p 0 s → f (min s.first p.row) ≡ f 0
  from_first from = ap f (let z : min s.first p.row ≡ 0 = omega (arith, from.first_is) in z)

  pub past_last : {t : Blocks} → s.sheet ≡ p → NoBlock s t → f (min s.first p.row) ≡ f p.row
  past_last on none = ap f (let e : min s.first p.row ≡ p.row = omega (arith, ap (λ (q : Sheet). q.row) on, none.past) in e)
