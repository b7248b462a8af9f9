-- What a receiver remembers of the last slots. Assumes nothing.
use Rattle.std.specs.Prelude.{ℕ, ◌+◌, ◌-◌, ◌*◌, ◌%◌, Bool, true, false, cond, ◌&&◌, List, Some, None, nat_le, nat_lt, slice_index_or}
use Rattle.kinds.specs.Kind.{Kind}
use Rattle.code.specs.declared.sheet.Sheet.{Sheet}
use Rattle.code.specs.Sheets.{T, n}
use Rattle.code.specs.Mending.{History}
use Rattle.line.specs.Ring.{stretch}
use Rattle.line.specs.Line.{contents}
use Rattle.receive.specs.declared.receiver.Receiver.{Receiver}
use Rattle.receive.specs.declared.table.SlotState.{SlotState}
use Rattle.receive.specs.declared.table.SlotState.TheVariants.{Arrived, Missed}

-- the symbols of the window that a receiver needs: the packets of 2 × T slots
abbrev pub need : Sheet → ℕ
need p = 2 * T p * n p

abbrev pub came_in : SlotState → Bool
came_in Arrived = true
came_in Missed = false

-- slot s is one of the last 2 × T of t slots
abbrev pub remembered : Sheet → (t s : ℕ) → Bool
remembered p t s = nat_lt s t && nat_le t (s + 2 * T p)

module _ {S : Type 0} (K : Kind S) where
  -- The packet of each of those that arrived, by the table of states and by what the line holds, after t slots:
  -- symbol i of the packet of slot s went into the line (t - s) × n - i symbols ago.
  abbrev pub recalled : Sheet → ℕ → List SlotState → List S → History S
  recalled p t states held s =
      cond (remembered p t s && came_in (slice_index_or states (s % 512) Arrived))
      (Some (stretch K.zero held ((t - s) * n p) (n p)))
      None

  abbrev pub memory : Receiver S → History S
  memory r = recalled r.sheet r.counters.slots r.table.states (contents r.line)
