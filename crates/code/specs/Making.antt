-- Which numbers make a sheet. Assumes nothing.
use Rattle.std.specs.Prelude.{◌≡◌, ℕ, ◌+◌, ◌-◌, ◌*◌, ◌/◌, Bool, cond, ◌||◌, Some, None, Ok, Err, Option, Result, nat_lt}
use Rattle.code.specs.declared.sheet.Sheet.{Sheet}
use Rattle.code.specs.declared.sheet.SheetRefusal.{SheetRefusal}
use Rattle.code.specs.declared.sheet.SheetRefusal.TheVariants.{Burst, Row, Parity, Delay}

abbrev pub refusal_number : SheetRefusal → ℕ
refusal_number Burst = 7
refusal_number Row = 8
refusal_number Parity = 9
refusal_number Delay = 10

-- x is 0 or above the top
abbrev pub outside : ℕ → ℕ → Bool
outside top x = nat_lt x 1 || nat_lt top x

-- L × ⌈k / r⌉, where ⌈k / r⌉ is (k + (r - 1)) / r
abbrev pub delay_of : ℕ → ℕ → ℕ → ℕ
delay_of burst row parity = burst * ((row + (parity - 1)) / parity)

-- the first refusal that holds
abbrev pub sheet_refused : ℕ → ℕ → ℕ → Option SheetRefusal
sheet_refused burst row parity =
    cond (outside 32 burst) (Some Burst)
    (cond (outside 48 row) (Some Row)
    (cond (outside 16 parity) (Some Parity)
    (cond (nat_lt 256 (delay_of burst row parity)) (Some Delay) None)))

-- a sheet of these numbers
pub record SheetOf (burst row parity : ℕ) (p : Sheet) : Type 0 where
  pub burst_is : p.burst ≡ burst
  pub row_is : p.row ≡ row
  pub parity_is : p.parity ≡ parity

-- the answer of making a sheet, by the first refusal that holds
abbrev pub Makes : ℕ → ℕ → ℕ → Option SheetRefusal → Result Sheet SheetRefusal → Type 0
Makes burst row parity (Some e) answer = answer ≡ Err e
Makes burst row parity None (Ok p) = SheetOf burst row parity p
Makes burst row parity None (Err e) = ⊥
