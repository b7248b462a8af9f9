-- Missed slots that form bursts. Assumes nothing.
use Rattle.std.specs.Prelude.{◌≡◌, ℕ, ◌+◌, ◌<◌, ◌≤◌, Bool, false, ◌≢◌}
use Rattle.code.specs.declared.sheet.Sheet.{Sheet}
use Rattle.code.specs.Sheets.{T}

-- slot s is one of the first m slots, and was missed
pub record Missed (arrived : ℕ → Bool) (m s : ℕ) : Type 0 where
  pub taken : s < m
  pub miss : arrived s ≡ false

-- l is the last miss of group g, where `group` has the number of each miss's group
pub record LastOf (missed : ℕ → Type 0) (group : ℕ → ℕ) (g l : ℕ) : Type 0 where
  pub miss : missed l
  pub is_of : group l ≡ g
  pub none_later : (s : ℕ) → missed s → group s ≡ g → s ≤ l

-- The misses form bursts of at most L slots, with T arrived slots between two bursts: two misses of one group differ by less
-- than L, and where a miss b of another group follows a miss a, none of the T slots after the last miss of a's group was missed.
pub record Bursts (p : Sheet) (missed : ℕ → Type 0) (group : ℕ → ℕ) : Type 0 where
  pub short : (a b : ℕ) → missed a → missed b → group a ≡ group b → b < a + p.burst
  pub clear : (a b l s : ℕ) → missed a → missed b → group a ≢ group b → a < b →
      LastOf missed group (group a) l → l < s → s ≤ l + T p → missed s → ⊥
