-- The packet of each slot, from a list of rows. Assumes nothing.
use Rattle.std.specs.Prelude.{ℕ, zero, suc, ◌-◌, Bool, cond, List, [], ◌∷◌, ◌++◌, map, ◌==◌, nat_le}
use Rattle.std.specs.List.{range_with_len}
use Rattle.kinds.specs.Kind.{Kind, total}
use Rattle.code.specs.declared.sheet.Sheet.{Sheet}
use Rattle.code.specs.Sheets.{lag, column}

-- A list of rows has a row of symbols for every slot number: `rows j b` is symbol b of row j.
abbrev pub Rows : Type 0 → Type 0
Rows S = ℕ → ℕ → S

module _ {S : Type 0} (K : Kind S) (p : Sheet) (rows : Rows S) where
  -- symbol b of the row that slot t carries it of; a row before row 0 is a row of zeros
  abbrev pub brought : ℕ → ℕ → S
  brought t b = cond (nat_le (lag p b) t) (rows (t - lag p b) b) K.zero

  -- what slot t carries of the first m symbols of a row, of those that `picks` picks, the oldest row first:
  -- of two symbols of one column the higher is of the older row
  abbrev pub carried : ℕ → (ℕ → Bool) → ℕ → List S
  carried t picks zero = []
  carried t picks (suc b) = let rest = carried t picks b in cond (picks b) (brought t b ∷ rest) rest

-- symbol b goes into column c
abbrev pub in_column : Sheet → ℕ → ℕ → Bool
in_column p c b = column p b == c

module _ {S : Type 0} (K : Kind S) (p : Sheet) (rows : Rows S) where
  -- parity symbol c of slot t: the sum of all symbols that slot t carries in column c
  abbrev pub parity : ℕ → ℕ → S
  parity t c = total K (carried K p rows t (in_column p c) p.row)

  -- the packet of slot t: the k symbols of row t, then r parity symbols
  abbrev pub packet : ℕ → List S
  packet t = map (rows t) (range_with_len 0 p.row) ++ map (parity t) (range_with_len 0 p.parity)
