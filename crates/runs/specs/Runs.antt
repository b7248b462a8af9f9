-- How a run is read, line by line. Assumes nothing.
use Rattle.std.specs.Prelude.{◌≡◌, ℕ, ◌+◌, cond, List, [], ◌∷◌, length, Some, None, Ok, Err, Option, Result, ◌==◌}
use Rattle.kinds.specs.Form.{Form}
use Rattle.text.specs.declared.fault.LineFault.{LineFault}
use Rattle.text.specs.declared.fault.LineFault.TheVariants as fault
use Rattle.text.specs.declared.fault.RunFault.{RunFault}
use Rattle.text.specs.declared.fault.RunFault.TheVariants as run
use Rattle.lines.specs.declared.header.Header.{Header}
use Rattle.runs.specs.declared.standing.Standing.{Standing}
use Rattle.runs.specs.declared.standing.Standing.TheVariants.{BeforeHeader, InRun, Stopped}
use Rattle.runs.specs.declared.standing.SendLine.{SendLine}
use Rattle.runs.specs.declared.standing.SendLine.TheVariants as send
use Rattle.runs.specs.declared.standing.MendLine.{MendLine}
use Rattle.runs.specs.declared.standing.MendLine.TheVariants as mend
use Rattle.text.specs.Reading.{and_then, header_read, row_into, packet_into, missed_read, symbols_or}

-- a line's letter; an empty line has none
abbrev pub letter_of : List ℕ → Option ℕ
letter_of [] = None
letter_of (c ∷ cs) = Some c

-- a fault with the number of its line
abbrev pub numbered_as : {X : Type 0} → ℕ → Result X LineFault → Result X RunFault
numbered_as line (Ok x) = Ok x
numbered_as line (Err e) = Err (run.Line line e)

-- the same, before it is the run's
abbrev pub paired : {X : Type 0} → ℕ → Result X LineFault → Result X (ℕ × LineFault)
paired line (Ok x) = Ok x
paired line (Err e) = Err (line, e)

-- what a line gives, and the standing after it
abbrev pub Given : Type 0 → Type 0
Given L = L × Standing

-- what the reader answers
abbrev pub answer_of : {L : Type 0} → Result (Given L) RunFault → Result L RunFault
answer_of (Ok given) = Ok given.0
answer_of (Err e) = Err e

-- a fault stops the run
abbrev pub standing_of : {L : Type 0} → Result (Given L) RunFault → Standing
standing_of (Ok given) = given.1
standing_of (Err e) = Stopped e

-- `place` is the length of the place that is handed over for the symbols.
module _ {S : Type 0} (F : Form S) where
  -- before the header, `send` takes an H line
  abbrev pub send_header : List ℕ → Option ℕ → Result (Given SendLine) LineFault
  send_header line None = Err fault.Letter
  send_header line (Some letter) =
      cond (letter == 72) (and_then (header_read line) (λ header. Ok (send.Header header, InRun header 0))) (Err fault.Letter)

  -- .. and after it, R lines
  abbrev pub send_row : Header → ℕ → ℕ → List ℕ → Option ℕ → Result (Given SendLine) LineFault
  send_row header next place line None = Err fault.Letter
  send_row header next place line (Some letter) =
      cond (letter == 82)
      (and_then (row_into F header.sheet next place line) (λ row.
      Ok (send.Row next, InRun header (next + 1))))
      (Err fault.Letter)

  -- what a line gives to the reader of `send`, by where it stands; once stopped it repeats its fault
  abbrev pub send_read : Standing → ℕ → List ℕ → Result (Given SendLine) RunFault
  send_read BeforeHeader place line = numbered_as 1 (send_header line (letter_of line))
  send_read (InRun header next) place line = numbered_as (next + 2) (send_row header next place line (letter_of line))
  send_read (Stopped f) place line = Err f

  -- what is in the place for the row after a line
  abbrev pub send_place : Standing → List ℕ → List S → List S
  send_place BeforeHeader line before = before
  send_place (InRun header next) line before =
      symbols_or before (row_into F header.sheet next (length before) line)
  send_place (Stopped f) line before = before

  -- once a line has stopped the reader, every later line gets the same fault
  abbrev pub SendRepeats : Type 0
  SendRepeats =
      (standing : Standing) (place place' : ℕ) (line line' : List ℕ) (f : RunFault) →
      answer_of (send_read standing place line) ≡ Err f →
      send_read (standing_of (send_read standing place line)) place' line' ≡ Err f

  -- before the header, `mend` takes an H line
  abbrev pub mend_header : List ℕ → Option ℕ → Result (Given MendLine) LineFault
  mend_header line None = Err fault.Letter
  mend_header line (Some letter) =
      cond (letter == 72) (and_then (header_read line) (λ header. Ok (mend.Header header, InRun header 0))) (Err fault.Letter)

  -- .. and after it, A and M lines
  abbrev pub mend_slot : Header → ℕ → ℕ → List ℕ → Option ℕ → Result (Given MendLine) LineFault
  mend_slot header next place line None = Err fault.Letter
  mend_slot header next place line (Some letter) =
      cond (letter == 65)
      (and_then (packet_into F header.sheet next place line) (λ packet. Ok (mend.Arrived next, InRun header (next + 1))))
      (cond (letter == 77)
      (and_then (missed_read next line) (λ missed. Ok (mend.Missed next, InRun header (next + 1))))
      (Err fault.Letter))

  -- what a line gives to the reader of `mend`, by where it stands; once stopped it repeats its fault
  abbrev pub mend_read : Standing → ℕ → List ℕ → Result (Given MendLine) RunFault
  mend_read BeforeHeader place line = numbered_as 1 (mend_header line (letter_of line))
  mend_read (InRun header next) place line = numbered_as (next + 2) (mend_slot header next place line (letter_of line))
  mend_read (Stopped f) place line = Err f

  -- what is in the place for the packet after a line
  abbrev pub mend_place : Standing → List ℕ → List S → List S
  mend_place BeforeHeader line before = before
  mend_place (InRun header next) line before = symbols_or before (packet_into F header.sheet next (length before) line)
  mend_place (Stopped f) line before = before

  -- once a line has stopped the reader, every later line gets the same fault
  abbrev pub MendRepeats : Type 0
  MendRepeats =
      (standing : Standing) (place place' : ℕ) (line line' : List ℕ) (f : RunFault) →
      answer_of (mend_read standing place line) ≡ Err f →
      mend_read (standing_of (mend_read standing place line)) place' line' ≡ Err f
