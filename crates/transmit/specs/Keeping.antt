-- What a sender still keeps of the rows that were put. Assumes nothing.
use Rattle.std.specs.Prelude.{ℕ, ◌+◌, ◌-◌, ◌*◌, cond, ◌&&◌, List, map, ◌==◌, nat_le, nat_lt, slice_index_or}
use Rattle.std.specs.List.{range_with_len}
use Rattle.kinds.specs.Kind.{Kind, total}
use Rattle.code.specs.declared.sheet.Sheet.{Sheet}
use Rattle.code.specs.Sheets.{T}
use Rattle.code.specs.Packets.{Rows, carried, in_column}
use Rattle.line.specs.declared.line.SymbolLine.{SymbolLine}
use Rattle.line.specs.Ring.{symbol_back}
use Rattle.line.specs.Line.{contents}

-- the symbols of the window that a sender needs
abbrev pub need : Sheet → ℕ
need p = T p * p.row

module _ {S : Type 0} (K : Kind S) where
  -- The rows of the last T of t slots, and zeros elsewhere: symbol b of row j went into the line (t - j) × k - b symbols ago.
  abbrev pub kept : Sheet → ℕ → SymbolLine S → Rows S
  kept p t line j b =
      cond (nat_lt j t && nat_le t (j + T p)) (symbol_back K.zero (contents line) ((t - j) * p.row - b)) K.zero

  -- those rows with this one as row t
  abbrev pub with_row : Rows S → ℕ → List S → Rows S
  with_row rows t row j b = cond (j == t) (slice_index_or row b K.zero) (rows j b)

  -- the parity symbols of slot t as far as the first m symbols of a row go
  abbrev pub sums : Sheet → Rows S → ℕ → ℕ → List S
  sums p rows t m = map (λ c. total K (carried K p rows t (in_column p c) m)) (range_with_len 0 p.parity)
