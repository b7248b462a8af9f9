-- What a program prints for a text that begins with a header, for any bytes. Assumes nothing.
use Rattle.std.specs.Prelude.{ℕ, List, [], ◌∷◌, ◌++◌, Ok, Err, Result}
use Rattle.lines.specs.declared.header.Header.{Header}
use Rattle.text.specs.declared.fault.LineFault.{LineFault}
use Rattle.text.specs.declared.fault.RunFault.TheVariants as run
use Rattle.text.specs.Reading.{header_read}
use Rattle.stream.specs.Lines.{lines_of}
use Rattle.runs.specs.declared.standing.Standing.{Standing}
use Rattle.runs.specs.declared.standing.Standing.TheVariants.{InRun, Stopped}
use Rattle.runs.specs.Whole.{fault_text}

-- where the first line leads
abbrev pub after_first : Result Header LineFault → Standing
after_first (Ok header) = InRun header 0
after_first (Err e) = Stopped (run.Line 1 e)

-- what is printed of the first line: `echo` of its header, or the X line of its fault
abbrev pub first_text : (Header → List ℕ) → Result Header LineFault → List ℕ
first_text echo (Ok header) = echo header
first_text echo (Err e) = fault_text (run.Line 1 e)

-- `body` is what the lines after the header bring.
module _ (echo : Header → List ℕ) (body : Header → List (List ℕ) → List ℕ) where
  -- what is printed of the header and what follows it, or the X line of its fault
  abbrev pub headed_text : Result Header LineFault → List (List ℕ) → List ℕ
  headed_text (Err e) lines = fault_text (run.Line 1 e)
  headed_text (Ok header) lines = echo header ++ body header lines

  -- no line at all is one empty line
  abbrev pub lines_text : List (List ℕ) → List ℕ
  lines_text [] = headed_text (header_read []) []
  lines_text (line ∷ lines) = headed_text (header_read line) lines

  abbrev pub whole_text : List ℕ → List ℕ
  whole_text text = lines_text (lines_of text)
