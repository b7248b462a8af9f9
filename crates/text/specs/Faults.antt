-- The refusal's number and the position of each fault. Assumes nothing.
use Rattle.std.specs.Prelude.{ℕ}
use Rattle.code.specs.Making.{refusal_number}
use Rattle.code.specs.Refusals.{put_number, slot_number, tail_number}
use Rattle.lines.specs.Fields.{field_number, field_position}
use Rattle.text.specs.declared.fault.LineFault.{LineFault}
use Rattle.text.specs.declared.fault.LineFault.TheVariants as line
use Rattle.text.specs.declared.fault.RunFault.{RunFault}
use Rattle.text.specs.declared.fault.RunFault.TheVariants as run

-- the refusal of a line
abbrev pub line_number : LineFault → ℕ
line_number line.Letter = 1
line_number line.Length = 2
line_number line.Kind = 3
line_number (line.Field fault) = field_number fault
line_number line.Order = 6
line_number (line.Sheet refusal) = refusal_number refusal
line_number (line.Put refusal) = put_number refusal
line_number (line.Slot refusal) = slot_number refusal

-- the byte at which a line is wrong, counted from 1, or 0
abbrev pub line_position : LineFault → ℕ
line_position line.Letter = 1
line_position line.Length = 0
line_position line.Kind = 2
line_position (line.Field fault) = field_position fault
line_position line.Order = 2
line_position (line.Sheet refusal) = 0
line_position (line.Put refusal) = 0
line_position (line.Slot refusal) = 0

-- the line at which a run ends
abbrev pub run_line : RunFault → ℕ
run_line (run.Line number fault) = number
run_line (run.Tail number refusal) = number

-- the refusal that ends a run
abbrev pub run_number : RunFault → ℕ
run_number (run.Line number fault) = line_number fault
run_number (run.Tail number refusal) = tail_number refusal

-- the byte at which that line is wrong, or 0
abbrev pub run_position : RunFault → ℕ
run_position (run.Line number fault) = line_position fault
run_position (run.Tail number refusal) = 0
