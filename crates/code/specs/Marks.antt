-- The numbers of the marks. Assumes nothing.
use Rattle.std.specs.Prelude.{ℕ}
use Rattle.code.specs.declared.mark.Mark.{Mark}
use Rattle.code.specs.declared.mark.Mark.TheVariants.{Arrived, Mended, Lost}

abbrev pub mark_number : Mark → ℕ
mark_number Arrived = 0
mark_number Mended = 1
mark_number Lost = 2
