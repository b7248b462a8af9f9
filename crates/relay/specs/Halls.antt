-- A hall in which the slots of a list are missed, line by line. Assumes nothing.
use Rattle.std.specs.Prelude.{ℕ, zero, suc, Bool, cond, ◌&&◌, List, ◌==◌, nat_lt}
use Rattle.std.specs.List.{list_any}
use Rattle.code.specs.Refusals.{top_slots}
use Rattle.lines.specs.Lines.{missed_line}
use Rattle.relay.specs.Relaying.{turned, hall_lines}

-- the slots of a list; a run has no slot after slot 999,999
abbrev pub listed : List ℕ → ℕ → Bool
listed slots slot = nat_lt slot top_slots && list_any (λ s. s == slot) slots

-- the line that follows so many others, as it leaves the hall
abbrev pub passed : (ℕ → Bool) → ℕ → List ℕ → List ℕ
passed missed zero line = line
passed missed (suc t) line = cond (missed t) (missed_line t) line

-- all lines that follow so many others
abbrev pub all_passed : (ℕ → Bool) → ℕ → List (List ℕ) → List (List ℕ)
all_passed missed zero lines = hall_lines missed lines
all_passed missed (suc t) lines = turned missed t lines
