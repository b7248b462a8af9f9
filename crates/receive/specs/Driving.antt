-- A run of slot calls over lists that hold what came and the places of all of them. Assumes nothing.
use Rattle.std.specs.Prelude.{◌≡◌, ℕ, ◌*◌, List, map, length, take, drop, is_some, Some, None, Ok, Err, Option, Result, slice_index_or}
use Rattle.std.specs.List.{range_with_len}
use Rattle.kinds.specs.Kind.{Kind}
use Rattle.code.specs.declared.mark.Mark.{Mark}
use Rattle.code.specs.declared.refusal.SlotRefusal.{SlotRefusal}
use Rattle.code.specs.declared.sheet.Sheet.{Sheet}
use Rattle.code.specs.Sheets.{n}
use Rattle.receive.specs.declared.due.Due.{Due}
use Rattle.receive.specs.declared.receiver.Receiver.{Receiver}
use Rattle.receive.specs.declared.table.SlotState.{SlotState}
use Rattle.receive.specs.declared.table.SlotState.TheVariants.{Arrived, Missed}
use Rattle.receive.specs.Refusing.{slots_refused}
use Rattle.receive.specs.Handing.{count, replied}
use Rattle.receive.specs.Calls.{room}
use Rattle.receive.specs.Runs.{Event, slot, Run}

-- part i of a list that is cut into parts of so many members
abbrev pub part : {X : Type 0} → (size : ℕ) → List X → ℕ → List X
part size xs i = take size (drop (i * size) xs)

-- what came in a slot of this state; the packet of a missed slot counts for nothing
abbrev pub arrival : {S : Type 0} → SlotState → List S → Option (List S)
arrival Arrived q = Some q
arrival Missed q = None

-- m slots: the state and the packet of each; the places for their rows and marks, before and after
pub record Slots (S : Type 0) : Type 0 where
  pub states : List SlotState
  pub packets : List S
  pub rows : List S
  pub rows' : List S
  pub marks : List Mark
  pub marks' : List Mark

abbrev pub slots_of : {S : Type 0} → List SlotState → (packets rows rows' : List S) → (marks marks' : List Mark) → Slots S
slots_of states packets rows rows' marks marks' =
    record { states = states; packets = packets; rows = rows; rows' = rows'; marks = marks; marks' = marks' }

-- the call of slot i, which is not refused: what came is part i of the packets, and the places are part i of the rows and marks
abbrev pub call : {S : Type 0} → Sheet → Slots S → List (Option Due) → ℕ → Event S
call p x dues i =
    slot (arrival (slice_index_or x.states i Arrived) (part (n p) x.packets i))
    (replied (part p.row x.rows i) (part p.row x.rows' i) (part p.row x.marks i) (part p.row x.marks' i) (Ok (slice_index_or dues i None)))

-- the calls of all slots, in order
abbrev pub calls : {S : Type 0} → Sheet → Slots S → List (Option Due) → List (Event S)
calls p x dues = map (call p x dues) (range_with_len 0 (length x.states))

module _ {S : Type 0} (K : Kind S) where
  -- These calls were made, one after the other, and handed out so many rows.
  pub record Driven (p : Sheet) (before after : Receiver S) (x : Slots S) (handed : ℕ) : Type 0 where
    pub dues : List (Option Due)
    pub long : length dues ≡ length x.states
    pub run : Run K before (calls p x dues) after
    pub handed_is : handed ≡ count is_some dues

  -- refused, taking many slots changes nothing
  pub record Halted (e : SlotRefusal) (before after : Receiver S) (x : Slots S) (answer : Result ℕ SlotRefusal) : Type 0 where
    pub answer_is : answer ≡ Err e
    pub receiver : after ≡ before
    pub rows : x.rows' ≡ x.rows
    pub marks : x.marks' ≡ x.marks

  abbrev pub SlotsWith : Option SlotRefusal → Sheet → (before after : Receiver S) → Slots S → Result ℕ SlotRefusal → Type 0
  SlotsWith (Some e) p before after x answer = Halted e before after x answer
  SlotsWith None p before after x (Ok handed) = Driven p before after x handed
  SlotsWith None p before after x (Err e) = ⊥

  -- taking many slots, one after the other
  abbrev pub SlotsCall : (before after : Receiver S) → Slots S → Result ℕ SlotRefusal → Type 0
  SlotsCall before after x answer =
      SlotsWith (slots_refused before.sheet (room before) before.counters.slots
      (length x.states) (length x.packets) (length x.rows) (length x.marks))
      before.sheet before after x answer
