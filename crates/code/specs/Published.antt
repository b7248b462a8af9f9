-- The published construction, in matrices of ones and zeros, and that our packets are its packets. Assumes nothing.
use Rattle.std.specs.Prelude.{◌≡◌, ℕ, ◌+◌, ◌-◌, ◌*◌, ◌/◌, ◌%◌, ◌<◌, Bool, false, cond, not, ◌&&◌, map, ◌==◌, nat_le, nat_lt}
use Rattle.std.specs.List.{range_with_len}
use Rattle.kinds.specs.Kind.{Kind, total}
use Rattle.code.specs.declared.sheet.Sheet.{Sheet}
use Rattle.code.specs.Sheets.{T, lag, column}
use Rattle.code.specs.Packets.{Rows, parity}

-- a matrix has an entry for each row b and column c: true is one, false is zero
abbrev pub Matrix : Type 0
Matrix = ℕ → ℕ → Bool

-- all zeros
abbrev pub nothing : Matrix
nothing b c = false

-- ones from the upper left corner downwards
abbrev pub identity : Matrix
identity b c = b == c

-- A in the first h rows, and B below
abbrev pub above : ℕ → Matrix → Matrix → Matrix
above h A B b c = cond (nat_lt b h) (A b c) (B (b - h) c)

-- A in the first w columns, and B to the right
abbrev pub left : ℕ → Matrix → Matrix → Matrix
left w A B b c = cond (nat_lt c w) (A b c) (B b (c - w))

-- The construction has one matrix of k rows and r columns for each delay. Let k = r × full + rest, with rest < r.
module _ (p : Sheet) where
  abbrev pub full : ℕ
  full = p.row / p.parity

  abbrev pub rest : ℕ
  rest = p.row % p.parity

  -- block i: (i - 1) r rows of zeros, the identity of r rows, zeros
  abbrev pub whole_block : ℕ → Matrix
  whole_block i = above ((i - 1) * p.parity) nothing (above p.parity identity nothing)

  -- the last block, where it is not whole: zeros, but for the last rows, which have the identity at the left
  abbrev pub last_block : Matrix
  last_block = above (p.row - rest) nothing (left rest identity nothing)

  -- the one block of a row that is not longer than the parities: r - k columns of zeros, and then the identity
  abbrev pub only_block : Matrix
  only_block = left (p.parity - p.row) nothing identity

  -- the matrix of delay i L, where k > r: a whole block for i from 1 to full, and then the last block
  abbrev pub long_row : ℕ → Matrix
  long_row i =
      cond (nat_le 1 i && nat_le i full) (whole_block i)
      (cond (not (rest == 0) && i == full + 1) last_block nothing)

  -- the matrix of delay i L, where k ≤ r
  abbrev pub short_row : ℕ → Matrix
  short_row i = cond (i == 1) only_block nothing

  -- the matrix of delay d: zeros, but for multiples of L
  abbrev pub published : ℕ → Matrix
  published d =
      cond (d % p.burst == 0) (cond (nat_lt p.parity p.row) (long_row (d / p.burst)) (short_row (d / p.burst))) nothing

module _ {S : Type 0} (K : Kind S) where
  -- f 0 + f 1 + .. + f (n - 1)
  abbrev pub sum_below : ℕ → (ℕ → S) → S
  sum_below n f = total K (map f (range_with_len 0 n))

  -- column c of a row of k symbols times a matrix
  abbrev pub times : ℕ → (ℕ → S) → Matrix → ℕ → S
  times k row A c = sum_below k (λ b. cond (A b c) (row b) K.zero)

  -- the row d slots before slot t; a row before row 0 is a row of zeros
  abbrev pub earlier : Rows S → ℕ → ℕ → ℕ → S
  earlier rows t d b = cond (nat_le d t) (rows (t - d) b) K.zero

pub record AsPublished {S : Type 0} (K : Kind S) (p : Sheet) : Type 0 where
  -- the matrix of delay d has a one where d is a symbol's lag and c is its column, and nowhere else
  pub entries : (d b c : ℕ) → b < p.row → published p d b c ≡ (d == lag p b && c == column p b)
  -- a parity symbol is the sum, over the delays, of the earlier rows times their matrices
  pub parities : (rows : Rows S) (t c : ℕ) →
      parity K p rows t c ≡ sum_below K (T p + 1) (λ d. times K p.row (earlier K rows t d) (published p d) c)
