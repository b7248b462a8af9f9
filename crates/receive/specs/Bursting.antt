-- A run with two bursts: what the law asks of bursts can be met. Assumes nothing.
use Rattle.std.specs.Prelude.{◌≡◌, ◌/◌, cond, List, map, Option}
use Rattle.std.specs.List.{range_with_len}
use Rattle.code.specs.Bursts.{Bursts}
use Rattle.code.specs.Worked.{Q, two_bursts}
use Rattle.receive.specs.declared.due.Due.{Due}
use Rattle.receive.specs.declared.table.SlotState.{SlotState}
use Rattle.receive.specs.declared.table.SlotState.TheVariants.{Arrived, Missed}
use Rattle.receive.specs.Driving.{Slots, calls}
use Rattle.receive.specs.Law.{taken, MissedIn}

-- the states of 18 slots of which 0, 1, 2 and 9, 10, 11 were missed
abbrev pub two_burst_states : List SlotState
two_burst_states = map (λ s. cond (two_bursts s) Arrived Missed) (range_with_len 0 18)

-- the misses of every run that takes these slots on the worked sheet, with L 3 and T 6, form bursts: nine slots to a group
abbrev pub FormBursts : Type 0 → Type 0
FormBursts S = (x : Slots S) (dues : List (Option Due)) → x.states ≡ two_burst_states →
    Bursts Q (MissedIn (calls Q x dues) (taken (calls Q x dues))) (λ s. s / 9)
