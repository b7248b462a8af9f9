-- How a field is scanned, byte by byte. Only the scanning code cites this; what it finds is `number_in`. Assumes nothing.
use Rattle.std.specs.Prelude.{ℕ, ◌+◌, ◌-◌, ◌*◌, ◌%◌, ◌<◌, cond, not, ◌&&◌, ◌==◌}
use Rattle.lines.specs.declared.field.Seen.{Seen}
use Rattle.lines.specs.declared.field.Seen.TheVariants.{Blanks, Number, Wrong}
use Rattle.lines.specs.Fields.{is_digit}

-- what is seen with one byte more
abbrev pub step : Seen → ℕ → Seen
step Blanks c = cond (c == 32) Blanks (cond (is_digit c) (Number (c - 48)) Wrong)
step (Number n) c = cond (not (n == 0) && is_digit c) (Number (n * 10 + (c - 48))) Wrong
step Wrong c = Wrong

-- a number that was seen is below m
abbrev pub SeenBelow : Seen → ℕ → Type 0
SeenBelow Blanks m = Unit {0}
SeenBelow (Number n) m = n < m
SeenBelow Wrong m = Unit {0}

-- the byte of a column before the last, where `left` is what the columns up to it write
abbrev pub column_byte : ℕ → ℕ
column_byte left = cond (left == 0) 32 (48 + left % 10)
