-- A line that stays where it is. Assumes nothing.
use Rattle.std.proofs.Common.{◌≡◌, min, length, take, sym, ◌∙◌, ap₂}
use Rattle.std.proofs.lemmas.List.{length-take}
use Rattle.line.specs.declared.line.SymbolLine.{SymbolLine}
use Rattle.line.specs.Line.{contents, Stays}
use Rattle.line.proofs.Rings.{held_length}

-- it holds as many symbols as before
pub room_stays : {S : Type 0} (l l' : SymbolLine S) → Stays l l' → length (contents l') ≡ length (contents l)
room_stays l l' stays =
    held_length l'.head (take l'.places l'.window.now) ∙ length-take l'.places l'.window.now
    ∙ ap₂ min stays.places stays.long
    ∙ sym (held_length l.head (take l.places l.window.now) ∙ length-take l.places l.window.now)
