-- Where the reader of a run stands. Assumes nothing.
use Rattle.std.specs.Prelude.{ℕ, ◌+◌, ◌≤◌}
use Rattle.text.specs.declared.fault.LineFault.{LineFault}
use Rattle.text.specs.declared.fault.RunFault.{RunFault}
use Rattle.text.specs.declared.fault.RunFault.TheVariants as run
use Rattle.runs.specs.declared.standing.Standing.{Standing}
use Rattle.runs.specs.declared.standing.Standing.TheVariants.{BeforeHeader, InRun, Stopped}
use Rattle.text.specs.Faults.{run_line}

-- the number that the next line has to have; 0 outside a run
abbrev pub next_of : Standing → ℕ
next_of BeforeHeader = 0
next_of (InRun header next) = next
next_of (Stopped f) = 0

-- a run has at most 1,000,000 numbered lines
abbrev pub Counted : Standing → Type 0
Counted standing = next_of standing ≤ 1000000

-- the number of the line that is read next, counted from 1: the header is line 1, and number 0 stands on line 2
abbrev pub line_at : Standing → ℕ
line_at BeforeHeader = 1
line_at (InRun header next) = next + 2
line_at (Stopped f) = run_line f

-- the fault of a run whose last line is refused by the end that it was read for; a run that has stopped keeps its own
abbrev pub refused_by : LineFault → Standing → RunFault
refused_by fault BeforeHeader = run.Line 1 fault
refused_by fault (InRun header next) = run.Line (next + 1) fault
refused_by fault (Stopped f) = f
