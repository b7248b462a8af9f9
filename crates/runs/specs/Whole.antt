-- What the lines of a whole run read as, and the kinds that a header names. Assumes nothing.
use Rattle.std.specs.Prelude.{ℕ, ◌+◌, cond, List, [], ◌∷◌, Some, None, Ok, Err, Option, Result}
use Rattle.kinds.specs.Kind.{Kind}
use Rattle.kinds.specs.Form.{Form}
use Rattle.kinds.specs.Bytes.{bytes, byte_form}
use Rattle.kinds.specs.Digits.{digits, digit_form}
use Rattle.kinds.specs.declared.byte.Byte.{Byte}
use Rattle.kinds.specs.declared.digit.Digit.{Digit}
use Rattle.code.specs.declared.sheet.Sheet.{Sheet}
use Rattle.lines.specs.declared.header.SymbolKind.{SymbolKind}
use Rattle.lines.specs.declared.header.SymbolKind.TheVariants.{Bytes, Digits}
use Rattle.lines.specs.declared.write.WriteRefusal.{WriteRefusal}
use Rattle.lines.specs.Lines.{ended, fault_line}
use Rattle.text.specs.declared.fault.LineFault.{LineFault}
use Rattle.text.specs.declared.fault.RunFault.{RunFault}
use Rattle.text.specs.declared.fault.RunFault.TheVariants as run
use Rattle.text.specs.Faults.{run_line, run_number, run_position}
use Rattle.text.specs.Reading.{and_then, begins, packet_read, missed_read}

-- the symbols of the kind that a header names ..
abbrev pub SymbolOf : SymbolKind → Type 0
SymbolOf Bytes = Byte
SymbolOf Digits = Digit

-- .. how they are summed ..
abbrev pub sums_of : (kind : SymbolKind) → Kind (SymbolOf kind)
sums_of Bytes = bytes
sums_of Digits = digits

-- .. and how they are printed
abbrev pub form_of : (kind : SymbolKind) → Form (SymbolOf kind)
form_of Bytes = byte_form
form_of Digits = digit_form

-- the X line of a fault
abbrev pub fault_text : RunFault → List ℕ
fault_text f = ended (fault_line (run_line f) (run_number f) (run_position f))

-- a text that is printed unless it is refused ..
abbrev pub unless : Option WriteRefusal → List ℕ → List ℕ
unless (Some e) text = []
unless None text = text

-- .. by the answer of the call that wrote it
abbrev pub written_text : Result (Unit {0}) WriteRefusal → List ℕ → List ℕ
written_text (Ok u) text = text
written_text (Err e) text = []

-- what follows a line, or the X line of its fault; number t stands on line t + 2
abbrev pub after_line : {X : Type 0} → ℕ → Result X LineFault → (X → List ℕ) → List ℕ
after_line t (Ok x) text = text x
after_line t (Err e) text = fault_text (run.Line (t + 2) e)

-- what lines read as: the values of those before the first that is refused, and its fault
pub record Read (X : Type 0) : Type 0 where
  pub values : List X
  pub fault : Option LineFault

abbrev pub joining : {X : Type 0} → Result X LineFault → Read X → Read X
joining (Ok x) later = record { values = x ∷ later.values; fault = later.fault }
joining (Err e) later = record { values = []; fault = Some e }

-- the lines of a run, where `read next line` is what the line reads as that has to have this number
abbrev pub reading : {X : Type 0} → (ℕ → List ℕ → Result X LineFault) → (next : ℕ) → List (List ℕ) → Read X
reading read next [] = record { values = []; fault = None }
reading read next (line ∷ lines) = joining (read next line) (reading read (next + 1) lines)

-- a slot's line: the packet of an A line, or None for an M line
abbrev pub slot_read : {S : Type 0} → Form S → Sheet → ℕ → List ℕ → Result (Option (List S)) LineFault
slot_read F p next line =
    cond (begins 77 line)
    (and_then (missed_read next line) (λ _. Ok None))
    (and_then (packet_read F p next line) (λ packet. Ok (Some packet)))
