-- What a symbol line holds. Assumes nothing.
use Rattle.std.specs.Prelude.{◌≡◌, ℕ, cond, List, length, take, drop, nat_le}
use Rattle.line.specs.Ring.{held}
use Rattle.line.specs.declared.line.SymbolLine.{SymbolLine}

-- so many places, or none where the window is shorter
abbrev pub fitting : ℕ → ℕ → ℕ
fitting places window = cond (nat_le places window) places 0

module _ {S : Type 0} where
  -- the places that a line runs over
  abbrev pub ring : SymbolLine S → List S
  ring l = take l.places l.window.now

  -- what a line holds, the latest symbol first
  abbrev pub contents : SymbolLine S → List S
  contents l = held l.head (ring l)

  -- what lies past the places of the line
  abbrev pub beyond : SymbolLine S → List S
  beyond l = drop l.places l.window.now

  -- the line runs over the same places of the same window, and nothing past them has changed
  pub record Stays (before after : SymbolLine S) : Type 0 where
    pub places : after.places ≡ before.places
    pub past : beyond after ≡ beyond before
    pub long : length after.window.now ≡ length before.window.now
    pub same : after.window.ghost_name ≡ before.window.ghost_name
