-- What each call on a sender does. Assumes nothing.
use Rattle.std.specs.Prelude.{◌≡◌, ℕ, ◌+◌, ◌<◌, List, [], length, drop, Some, None, Ok, Err, Option, Result, slice_index_or}
use Rattle.kinds.specs.Kind.{Kind}
use Rattle.code.specs.declared.refusal.PutRefusal.{PutRefusal}
use Rattle.code.specs.declared.refusal.TailRefusal.{TailRefusal}
use Rattle.code.specs.declared.sheet.Sheet.{Sheet}
use Rattle.code.specs.Sheets.{T}
use Rattle.code.specs.Packets.{packet}
use Rattle.line.specs.declared.line.SymbolLine.{SymbolLine}
use Rattle.line.specs.Line.{contents, beyond, fitting, Stays}
use Rattle.transmit.specs.declared.sender.Sender.{Sender}
use Rattle.transmit.specs.declared.sender.WindingSender.{WindingSender}
use Rattle.transmit.specs.declared.sender.Sent.{Sent}
use Rattle.transmit.specs.Keeping.{need, kept, with_row}
use Rattle.transmit.specs.Refusing.{put_refused, tail_refused}

-- a putting call: the row, what the place for the packet holds before and after it, and the answer
pub record Put (S : Type 0) : Type 0 where
  pub row : List S
  pub place : List S
  pub place' : List S
  pub answer : Result (Unit {0}) PutRefusal

-- a tail call
pub record Drawn (S : Type 0) : Type 0 where
  pub place : List S
  pub place' : List S
  pub answer : Result (Unit {0}) TailRefusal

abbrev pub putting : {S : Type 0} → (row place place' : List S) → Result (Unit {0}) PutRefusal → Put S
putting row place place' answer = record { row = row; place = place; place' = place'; answer = answer }

abbrev pub drawing : {S : Type 0} → (place place' : List S) → Result (Unit {0}) TailRefusal → Drawn S
drawing place place' answer = record { place = place; place' = place'; answer = answer }

module _ {S : Type 0} where
  -- how many symbols the line of a sender holds: over a window that is long enough, those that the sender needs, else none
  abbrev pub room : SymbolLine S → ℕ
  room line = length (contents line)

  -- A sender as it is made over a window that held `lent`: it has put no row, and what lies past the part that it needs is as it was.
  pub record SenderMade (p : Sheet) (lent : List S) (s : Sender S) : Type 0 where
    pub sheet : s.sheet ≡ p
    pub rows : s.count.rows ≡ 0
    pub places : s.line.places ≡ fitting (need p) (length lent)
    pub room_is : room s.line ≡ fitting (need p) (length lent)
    pub long : length s.line.window.now ≡ length lent
    pub past : beyond s.line ≡ drop (fitting (need p) (length lent)) lent

module _ {S : Type 0} (K : Kind S) where
  -- Slot t carries `row`: the place holds the packet of the rows kept and this one, which is kept beside those of the T - 1
  -- slots before it; nothing past the line's places changes.
  pub record Passes (p : Sheet) (t : ℕ) (before after : SymbolLine S) (row place' : List S) : Type 0 where
    pub written : place' ≡ packet K p (with_row K (kept K p t before) t row) t
    pub latest : (b : ℕ) → b < p.row → kept K p (t + 1) after t b ≡ slice_index_or row b K.zero
    pub earlier : (j b : ℕ) → b < p.row → j < t → t < j + T p → kept K p (t + 1) after j b ≡ kept K p t before j b
    pub stays : Stays before after

  -- a call that is refused changes nothing
  pub record PutDeclined (e : PutRefusal) (before after : Sender S) (c : Put S) : Type 0 where
    pub answer : c.answer ≡ Err e
    pub sender : after ≡ before
    pub place : c.place' ≡ c.place

  pub record PutDone (p : Sheet) (t : ℕ) (before after : Sender S) (c : Put S) : Type 0 where
    pub answer : c.answer ≡ Ok tt
    pub sheet : after.sheet ≡ p
    pub rows : after.count.rows ≡ t + 1
    pub passes : Passes p t before.line after.line c.row c.place'

  abbrev pub PutWith : Option PutRefusal → Sheet → ℕ → Sender S → Sender S → Put S → Type 0
  PutWith (Some e) p t before after c = PutDeclined e before after c
  PutWith None p t before after c = PutDone p t before after c

  -- putting a row, on the sheet p, with room for w symbols, after t slots ..
  abbrev pub PutAt : Sheet → (w t : ℕ) → Sender S → Sender S → Put S → Type 0
  PutAt p w t before after c = PutWith (put_refused p w t (length c.row) (length c.place)) p t before after c

  -- .. which are the sender's own
  abbrev pub PutCall : Sender S → Sender S → Put S → Type 0
  PutCall before after c = PutAt before.sheet (room before.line) before.count.rows before after c

  -- winding down keeps all, and no tail packet is given yet
  pub record WindCall (before : Sender S) (after : WindingSender S) : Type 0 where
    pub sheet : after.sheet ≡ before.sheet
    pub rows : after.count.rows ≡ before.count.rows
    pub tails : after.count.tails ≡ 0
    pub line : after.line ≡ before.line

  pub record TailDeclined (e : TailRefusal) (before after : WindingSender S) (c : Drawn S) : Type 0 where
    pub answer : c.answer ≡ Err e
    pub sender : after ≡ before
    pub place : c.place' ≡ c.place

  -- the row of a tail packet is zeros
  pub record TailDone (p : Sheet) (m i : ℕ) (before after : WindingSender S) (c : Drawn S) : Type 0 where
    pub answer : c.answer ≡ Ok tt
    pub sheet : after.sheet ≡ p
    pub rows : after.count.rows ≡ m
    pub tails : after.count.tails ≡ i + 1
    pub passes : Passes p (m + i) before.line after.line [] c.place'

  abbrev pub TailWith : Option TailRefusal → Sheet → (m i : ℕ) → WindingSender S → WindingSender S → Drawn S → Type 0
  TailWith (Some e) p m i before after c = TailDeclined e before after c
  TailWith None p m i before after c = TailDone p m i before after c

  -- drawing a tail packet, after m rows and i tail packets
  abbrev pub TailAt : Sheet → (w m i : ℕ) → WindingSender S → WindingSender S → Drawn S → Type 0
  TailAt p w m i before after c = TailWith (tail_refused p w (m + i) i (length c.place)) p m i before after c

  abbrev pub TailCall : WindingSender S → WindingSender S → Drawn S → Type 0
  TailCall before after c = TailAt before.sheet (room before.line) before.count.rows before.count.tails before after c

-- the end tells the counts, and gives the window back as it is
pub record EndCall {S : Type 0} (v : WindingSender S) (told : Sent S) : Type 0 where
  pub rows : told.rows ≡ v.count.rows
  pub tails : told.tails ≡ v.count.tails
  pub window : told.window.now ≡ v.line.window.now
  pub same : told.window.ghost_name ≡ v.line.window.ghost_name
