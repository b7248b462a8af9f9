-- What each call on a receiver does. Assumes nothing.
use Rattle.std.specs.Prelude.{◌≡◌, ℕ, ◌+◌, ◌*◌, ◌<◌, List, length, drop, Some, None, Ok, Err, Option}
use Rattle.kinds.specs.Kind.{Kind}
use Rattle.code.specs.declared.mark.Mark.{Mark}
use Rattle.code.specs.declared.refusal.SlotRefusal.{SlotRefusal}
use Rattle.code.specs.declared.sheet.Sheet.{Sheet}
use Rattle.code.specs.Sheets.{T}
use Rattle.line.specs.Line.{contents, beyond, fitting, Stays}
use Rattle.receive.specs.declared.due.Due.{Due}
use Rattle.receive.specs.declared.receiver.Receiver.{Receiver}
use Rattle.receive.specs.declared.tally.Tally.{Tally}
use Rattle.receive.specs.Memory.{need, memory}
use Rattle.receive.specs.Refusing.{unfit, slot_refused}
use Rattle.receive.specs.Handing.{Reply, replied, Hands, one, whole_row, mended_row, lost_row}

-- a tally tells the slots taken and the rows given whole, mended and lost
abbrev pub tally_of : (slots whole mended lost : ℕ) → Tally
tally_of slots whole mended lost = record { slots = slots; whole = whole; mended = mended; lost = lost }

module _ {S : Type 0} where
  -- what the window of a receiver holds
  abbrev pub window : Receiver S → List S
  window r = r.line.window.now

  -- how many symbols the line of a receiver holds: over a window that is long enough, those that the receiver needs, else none
  abbrev pub room : Receiver S → ℕ
  room r = length (contents r.line)

  -- A receiver as it is made over a window that held `lent`: it has taken no slot and given no row, and what lies past the
  -- part that it needs is as it was.
  pub record ReceiverMade (p : Sheet) (lent : List S) (r : Receiver S) : Type 0 where
    pub sheet : r.sheet ≡ p
    pub slots : r.counters.slots ≡ 0
    pub whole : r.counters.whole ≡ 0
    pub mended : r.counters.mended ≡ 0
    pub lost : r.counters.lost ≡ 0
    pub places : r.line.places ≡ fitting (need p) (length lent)
    pub room_is : room r ≡ fitting (need p) (length lent)
    pub long : length (window r) ≡ length lent
    pub past : beyond r.line ≡ drop (fitting (need p) (length lent)) lent

  -- a call that is refused changes nothing
  pub record Declined (e : SlotRefusal) (before after : Receiver S) (a : Reply S) : Type 0 where
    pub answer : a.answer ≡ Err e
    pub receiver : after ≡ before
    pub row : a.row' ≡ a.row
    pub marks : a.marks' ≡ a.marks

-- `came` is the packet that arrived, or None where the slot was missed.
module _ {S : Type 0} (K : Kind S) where
  -- Slot t is taken: it is remembered beside the 2 × T - 1 slots before it, and what falls due with it by what is remembered
  -- then is handed out, and counted; nothing past the line's places changes.
  pub record Taken (p : Sheet) (t : ℕ) (before after : Receiver S) (came : Option (List S)) (a : Reply S) : Type 0 where
    pub sheet : after.sheet ≡ p
    pub slots : after.counters.slots ≡ t + 1
    pub latest : memory K after t ≡ came
    pub earlier : (s : ℕ) → s < t → t < s + 2 * T p → memory K after s ≡ memory K before s
    pub hands : Hands K p (memory K after) t a
    pub whole : after.counters.whole ≡ before.counters.whole + one whole_row a.answer
    pub mended : after.counters.mended ≡ before.counters.mended + one mended_row a.answer
    pub lost : after.counters.lost ≡ before.counters.lost + one lost_row a.answer
    pub stays : Stays before.line after.line

  abbrev pub SlotWith : Option SlotRefusal → Sheet → ℕ → (before after : Receiver S) → Option (List S) → Reply S → Type 0
  SlotWith (Some e) p t before after came a = Declined e before after a
  SlotWith None p t before after came a = Taken p t before after came a

  -- taking a slot, on the sheet p, with room for w symbols, after t slots ..
  abbrev pub SlotAt : Sheet → (w t : ℕ) → (before after : Receiver S) → Option (List S) → Reply S → Type 0
  SlotAt p w t before after came a =
      SlotWith (slot_refused p w t (unfit p came) (length a.row) (length a.marks)) p t before after came a

  -- .. which are the receiver's own
  abbrev pub SlotCall : (before after : Receiver S) → Option (List S) → Reply S → Type 0
  SlotCall before after came a = SlotAt before.sheet (room before) before.counters.slots before after came a

-- a tally, which changes no receiver
abbrev pub TallyCall : {S : Type 0} → Receiver S → Tally → Type 0
TallyCall r told = told ≡ tally_of r.counters.slots r.counters.whole r.counters.mended r.counters.lost

-- What handing out does: slot t, the latest, is counted, and what falls due with it goes into the places.
pub record HandsOut {S : Type 0} (K : Kind S) (before after : Receiver S) (row row' : List S) (marks marks' : List Mark) (due : Option Due) : Type 0 where
  pub sheet : after.sheet ≡ before.sheet
  pub slots : after.counters.slots ≡ before.counters.slots + 1
  pub table : after.table.states ≡ before.table.states
  pub line : after.line ≡ before.line
  pub hands : Hands K before.sheet (memory K after) before.counters.slots (replied row row' marks marks' (Ok due))
  pub whole : after.counters.whole ≡ before.counters.whole + one whole_row (Ok due)
  pub mended : after.counters.mended ≡ before.counters.mended + one mended_row (Ok due)
  pub lost : after.counters.lost ≡ before.counters.lost + one lost_row (Ok due)
