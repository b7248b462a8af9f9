-- What a pen puts on its line. Only the writers' code cites this. Assumes nothing.
use Rattle.std.specs.Prelude.{◌≡◌, ℕ, ◌+◌, List, ◌++◌, length, take}
use Rattle.lines.specs.declared.pen.LinePen.{LinePen}

-- what is written so far
abbrev pub written : LinePen → List ℕ
written pen = take pen.at pen.place.now

-- this text, so many bytes long, behind what was written, and on the same place
pub record Puts (before after : LinePen) (width : ℕ) (text : List ℕ) : Type 0 where
  pub puts : written after ≡ written before ++ text
  pub at : after.at ≡ before.at + width
  pub long : length after.place.now ≡ length before.place.now
  pub same : after.place.ghost_name ≡ before.place.ghost_name
