-- The blocks of a row: the symbols of a block have one carrying slot, and stand in columns in a row. Assumes nothing.
use Rattle.std.specs.Prelude.{◌≡◌, ℕ, ◌+◌, ◌-◌, ◌≤◌, min, Some, None, Option}
use Rattle.code.specs.declared.block.Block.{Block}
use Rattle.code.specs.declared.block.Blocks.{Blocks}
use Rattle.code.specs.declared.sheet.Sheet.{Sheet}

-- how many symbols the block has that begins with this one
abbrev pub size : Sheet → (first : ℕ) → ℕ
size p first = min p.parity (p.row - first)

-- the blocks of a row on this sheet from symbol `first` on
pub record BlocksFrom (p : Sheet) (first : ℕ) (s : Blocks) : Type 0 where
  pub sheet : s.sheet ≡ p
  pub first_is : s.first ≡ first

-- the block at which blocks begin, and those after it
pub record AtBlock (s : Blocks) (b : Block) (t : Blocks) : Type 0 where
  pub sheet : b.sheet ≡ s.sheet
  pub first : b.first ≡ s.first
  pub rest : BlocksFrom s.sheet (s.first + s.sheet.parity) t

-- past the row there is no block more
pub record NoBlock (s t : Blocks) : Type 0 where
  pub past : s.sheet.row ≤ s.first
  pub rest : BlocksFrom s.sheet s.first t

abbrev pub NextBlock : Blocks → Option Block → Blocks → Type 0
NextBlock s None t = NoBlock s t
NextBlock s (Some b) t = AtBlock s b t
