-- A missed row taken block by block: the symbols of a block have one carrying slot, and stand in columns in a row. Assumes nothing.
use Rattle.std.specs.Prelude.{ℕ, ◌+◌, Bool, cond, List, map}
use Rattle.std.specs.List.{range_with_len}
use Rattle.kinds.specs.Kind.{Kind, total}
use Rattle.code.specs.declared.mark.Mark.{Mark}
use Rattle.code.specs.declared.mark.Mark.TheVariants.{Mended, Lost}
use Rattle.code.specs.declared.sheet.Sheet.{Sheet}
use Rattle.code.specs.Blocks.{size}
use Rattle.code.specs.Packets.{carried}
use Rattle.code.specs.Mending.{History, got, beside, all_known}

-- what f has for each symbol of that block
abbrev pub of_block : {X : Type 0} → Sheet → (first : ℕ) → (ℕ → X) → List X
of_block p first f = map (λ i. f (first + i)) (range_with_len 0 (size p first))

-- Slot s carries the block that begins with symbol `first`. What it carries beside, as far as the first m symbols of a row go:
-- the sum for each symbol of the block ..
abbrev pub sums_beside : {S : Type 0} → Kind S → Sheet → History S → (s first m : ℕ) → List S
sums_beside K p h s first m = of_block p first (λ b. total K (carried K p (got K h) s (beside p b) m))

-- .. and whether all of it is known
abbrev pub known_beside : Sheet → (ℕ → Bool) → (s first m : ℕ) → List Mark
known_beside p arrived s first m = of_block p first (λ b. cond (all_known p arrived s (beside p b) m) Mended Lost)

-- a symbol by the outlook for it: what is left of the parity symbol without those beside it, or zero
abbrev pub settled : {S : Type 0} → Kind S → Mark → (parity beside : S) → S
settled K Mark.Arrived parity beside = K.zero
settled K Mark.Mended parity beside = K.difference parity beside
settled K Mark.Lost parity beside = K.zero
