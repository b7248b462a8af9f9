-- What a receiver makes of what arrived: the mark of each symbol, and the symbol that it gives. Assumes nothing.
use Rattle.std.specs.Prelude.{ℕ, zero, suc, ◌+◌, ◌-◌, Bool, true, cond, not, ◌&&◌, ◌||◌, List, map, is_some, Some, None, Option, ◌==◌, nat_le, slice_index_or}
use Rattle.std.specs.List.{range_with_len}
use Rattle.kinds.specs.Kind.{Kind, total}
use Rattle.code.specs.declared.mark.Mark.{Mark}
use Rattle.code.specs.declared.mark.Mark.TheVariants.{Arrived, Mended, Lost}
use Rattle.code.specs.declared.sheet.Sheet.{Sheet}
use Rattle.code.specs.Sheets.{lag, carrier, column}
use Rattle.code.specs.Packets.{carried, in_column}

-- the packet of each slot that arrived, and None for a slot that was missed
abbrev pub History : Type 0 → Type 0
History S = ℕ → Option (List S)

-- slot s arrived
abbrev pub heard : {S : Type 0} → History S → ℕ → Bool
heard h s = is_some (h s)

-- the other symbols of b's parity column
abbrev pub beside : Sheet → ℕ → ℕ → Bool
beside p b i = in_column p (column p b) i && not (i == b)

-- A mark turns only on which slots arrived.
module _ (p : Sheet) (arrived : ℕ → Bool) where
  -- the row of which slot s carries symbol i arrived, or lies before row 0
  abbrev pub known : ℕ → ℕ → Bool
  known s i = not (nat_le (lag p i) s) || arrived (s - lag p i)

  -- so it is with each of the first m symbols that `picks` picks
  abbrev pub all_known : ℕ → (ℕ → Bool) → ℕ → Bool
  all_known s picks zero = true
  all_known s picks (suc b) = (not (picks b) || known s b) && all_known s picks b

  -- symbol b of the missed row j can be mended: the slot that carries it arrived, and so did every other row that has a
  -- symbol in that column of that slot
  abbrev pub mends : ℕ → ℕ → Bool
  mends j b = arrived (carrier p j b) && all_known (carrier p j b) (beside p b) p.row

  -- the mark of symbol b of row j
  abbrev pub mark : ℕ → ℕ → Mark
  mark j b = cond (arrived j) Arrived (cond (mends j b) Mended Lost)

  -- the marks of row j
  abbrev pub marks_of : ℕ → List Mark
  marks_of j = map (mark j) (range_with_len 0 p.row)

abbrev pub symbol : {S : Type 0} → Kind S → Option (List S) → ℕ → S
symbol K (Some q) i = slice_index_or q i K.zero
symbol K None i = K.zero

-- symbol i of the packet that arrived in slot s
abbrev pub got : {S : Type 0} → Kind S → History S → ℕ → ℕ → S
got K h s i = symbol K (h s) i

module _ {S : Type 0} (K : Kind S) (p : Sheet) (h : History S) where
  -- the parity symbol less the sum of the other symbols of that column
  abbrev pub mended : ℕ → ℕ → S
  mended j b =
      let s = carrier p j b in
      K.difference (got K h s (p.row + column p b)) (total K (carried K p (got K h) s (beside p b) p.row))

  -- symbol b of row j as it is given: the one that arrived, or the mended one, or zero
  abbrev pub given : ℕ → ℕ → S
  given j b = cond (heard h j) (got K h j b) (cond (mends p (heard h) j b) (mended j b) K.zero)

  -- row j as it is given
  abbrev pub row_of : ℕ → List S
  row_of j = map (given j) (range_with_len 0 p.row)
