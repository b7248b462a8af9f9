-- The worked cases: what the definitions give on small numbers. Assumes nothing.
use Rattle.std.specs.Prelude.{◌≡◌, ℕ, ◌+◌, ◌/◌, ◌≤◌, Bool, false, cond, not, ◌||◌, List, [], ◌∷◌, map, Some, None, ◌==◌, slice_index_or, refl}
use Rattle.std.proofs.Common.{lit≤}
use Rattle.kinds.specs.Digits.{digits, digit}
use Rattle.kinds.specs.Bytes.{bytes, byte_form}
use Rattle.kinds.specs.declared.digit.Digit.{Digit}
use Rattle.code.specs.declared.mark.Mark.{Mark}
use Rattle.code.specs.declared.mark.Mark.TheVariants.{Mended, Lost}
use Rattle.code.specs.declared.sheet.Sheet.{Sheet}
use Rattle.code.specs.declared.sheet.SheetRefusal.TheVariants.{Delay}
use Rattle.code.specs.Sheets.{T, lag, column}
use Rattle.code.specs.Making.{refusal_number, delay_of, sheet_refused}
use Rattle.code.specs.Packets.{Rows, packet}
use Rattle.code.specs.Mending.{History, heard, marks_of, row_of}
use Rattle.code.specs.Bursts.{Missed, Bursts}

-- the sheet of these numbers, which lie within the limits
abbrev pub sheet : (burst row parity : ℕ) → (1 ≤ burst) × (burst ≤ 32) → (1 ≤ row) × (row ≤ 48) →
    (1 ≤ parity) × (parity ≤ 16) → delay_of burst row parity ≤ 256 → Sheet
sheet burst row parity bursts rows parities few = record {
  burst = burst;
  row = row;
  parity = parity;
  delay = delay_of burst row parity;
  bursts = bursts;
  rows = rows;
  parities = parities;
  waits = refl;
  few = few;
}

-- the sheet of most cases: L 3, k 4, r 2
abbrev pub Q : Sheet
Q = sheet 3 4 2 (lit≤ tt, lit≤ tt) (lit≤ tt, lit≤ tt) (lit≤ tt, lit≤ tt) (lit≤ tt)

-- fewer symbols than parities: L 2, k 1, r 3
abbrev pub short_sheet : Sheet
short_sheet = sheet 2 1 3 (lit≤ tt, lit≤ tt) (lit≤ tt, lit≤ tt) (lit≤ tt, lit≤ tt) (lit≤ tt)

-- a last block that is not full: L 1, k 5, r 2
abbrev pub odd_sheet : Sheet
odd_sheet = sheet 1 5 2 (lit≤ tt, lit≤ tt) (lit≤ tt, lit≤ tt) (lit≤ tt, lit≤ tt) (lit≤ tt)

-- a row of four digits
abbrev pub four : ℕ → ℕ → ℕ → ℕ → List Digit
four a b c d = map digit (a ∷ b ∷ c ∷ d ∷ [])

-- a packet of six
abbrev pub six : ℕ → ℕ → ℕ → ℕ → ℕ → ℕ → List Digit
six a b c d e f = map digit (a ∷ b ∷ c ∷ d ∷ e ∷ f ∷ [])

-- rows 0 to 5
abbrev pub six_rows : List (List Digit)
six_rows = four 1 2 3 4 ∷ four 5 6 7 8 ∷ four 9 0 1 2 ∷ four 3 4 5 6 ∷ four 7 8 9 0 ∷ four 0 0 0 1 ∷ []

-- the list of rows that is sent: those, and rows of zeros after them
abbrev pub sent : Rows Digit
sent j b = slice_index_or (slice_index_or six_rows j []) b (digit 0)

-- s stands in the list
abbrev pub among : List ℕ → ℕ → Bool
among [] s = false
among (x ∷ xs) s = s == x || among xs s

-- what a receiver has that missed these slots and no others
abbrev pub without : List ℕ → History Digit
without slots s = cond (among slots s) None (Some (packet digits Q sent s))

-- where these slots were missed, row j is handed out as this row, with these marks
abbrev pub Out : List ℕ → ℕ → List Digit → List Mark → Type 0
Out slots j row marks = (row_of digits Q (without slots) j ≡ row) × (marks_of Q (heard (without slots)) j ≡ marks)

-- all four marks of a row
abbrev pub all : Mark → List Mark
all m = m ∷ m ∷ m ∷ m ∷ []

-- slots 0, 1, 2 and 9, 10, 11 were missed
abbrev pub two_bursts : ℕ → Bool
two_bursts s = not (among (0 ∷ 1 ∷ 2 ∷ 9 ∷ 10 ∷ 11 ∷ []) s)

pub record Worked : Type 0 where
  -- the packets of slots 0 to 8
  pub packets : map (packet digits Q sent) (0 ∷ 1 ∷ 2 ∷ 3 ∷ 4 ∷ 5 ∷ 6 ∷ 7 ∷ 8 ∷ [])
      ≡ (six 1 2 3 4 0 0 ∷ six 5 6 7 8 0 0 ∷ six 9 0 1 2 0 0
      ∷ six 3 4 5 6 1 2 ∷ six 7 8 9 0 5 6 ∷ six 0 0 0 1 9 0
      ∷ six 0 0 0 0 6 8 ∷ six 0 0 0 0 4 6 ∷ six 0 0 0 0 1 2 ∷ [])
  -- without slots 0, 1 and 2 row 0 comes back whole ..
  pub burst_0 : Out (0 ∷ 1 ∷ 2 ∷ []) 0 (four 1 2 3 4) (all Mended)
  -- .. and so does row 1 ..
  pub burst_1 : Out (0 ∷ 1 ∷ 2 ∷ []) 1 (four 5 6 7 8) (all Mended)
  -- .. and row 2 ..
  pub burst_2 : Out (0 ∷ 1 ∷ 2 ∷ []) 2 (four 9 0 1 2) (all Mended)
  -- .. with slots 6, 7 and 8
  pub burst_due : map (λ j. j + T Q) (0 ∷ 1 ∷ 2 ∷ []) ≡ (6 ∷ 7 ∷ 8 ∷ [])
  -- without slots 0 and 3 all of row 0 is lost ..
  pub three_apart_0 : Out (0 ∷ 3 ∷ []) 0 (four 0 0 0 0) (all Lost)
  -- .. and half of row 3
  pub three_apart_3 : Out (0 ∷ 3 ∷ []) 3 (four 0 0 5 6) (Lost ∷ Lost ∷ Mended ∷ Mended ∷ [])
  -- without slots 0 and 6 half of row 0 is lost
  pub six_apart_0 : Out (0 ∷ 6 ∷ []) 0 (four 1 2 0 0) (Mended ∷ Mended ∷ Lost ∷ Lost ∷ [])
  -- without slots 0 and 7, more than T apart, nothing of row 0 is lost ..
  pub seven_apart_0 : Out (0 ∷ 7 ∷ []) 0 (four 1 2 3 4) (all Mended)
  -- .. nor of row 7
  pub seven_apart_7 : Out (0 ∷ 7 ∷ []) 7 (four 0 0 0 0) (all Mended)
  -- bytes 200 and 77 add up to 133 ..
  pub byte_sum : bytes.sum (byte_form.symbol 200) (byte_form.symbol 77) ≡ byte_form.symbol 133
  -- .. and 133 less 77 is 200
  pub byte_difference : bytes.difference (byte_form.symbol 133) (byte_form.symbol 77) ≡ byte_form.symbol 200
  -- a row of one symbol and three columns: the last column carries it
  pub short_column : column short_sheet 0 ≡ 2
  -- the last symbol of a row of five is carried in column 0, three slots on
  pub odd_place : (column odd_sheet 4 ≡ 0) × (lag odd_sheet 4 ≡ 3)
  -- the longest delay is 256 slots
  pub longest : (delay_of 32 48 6 ≡ 256) × (sheet_refused 32 48 6 ≡ None)
  -- a delay of 320 slots is refused, by number 10
  pub too_long : (delay_of 32 48 5 ≡ 320) × (sheet_refused 32 48 5 ≡ Some Delay) × (refusal_number Delay ≡ 10)
  -- misses can come in bursts: 0, 1, 2 and 9, 10, 11 of the first 18 slots
  pub bursts : Bursts Q (Missed two_bursts 18) (λ s. s / 9)
