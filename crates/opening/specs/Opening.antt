-- A run up to its header. Assumes nothing.
use Rattle.std.specs.Prelude.{◌≡◌, ℕ, ◌≤◌, Bool, true, false, List, [], ◌++◌, length, drop, Some, None, Option}
use Rattle.lines.specs.declared.header.Header.{Header}
use Rattle.text.specs.declared.fault.LineFault.TheVariants as fault
use Rattle.text.specs.declared.fault.RunFault.TheVariants as run
use Rattle.text.specs.Reading.{header_read}
use Rattle.stream.specs.Lines.{lines_of}
use Rattle.runs.specs.declared.standing.Standing.{Standing}
use Rattle.runs.specs.declared.standing.Standing.TheVariants.{BeforeHeader, InRun, Stopped}
use Rattle.runs.specs.Whole.{fault_text}
use Rattle.opening.specs.declared.header.Opening.{Opening}
use Rattle.opening.specs.Headed.{after_first, first_text, lines_text, whole_text}

-- the header, once it was read
abbrev pub header_in : Standing → Option Header
header_in BeforeHeader = None
header_in (InRun header next) = Some header
header_in (Stopped f) = None

abbrev pub opened_at : Standing → Bool
opened_at BeforeHeader = false
opened_at (InRun header next) = true
opened_at (Stopped f) = true

module _ {G : Type 0} where
  -- the first line was read
  abbrev pub opened : Opening G → Bool
  opened o = opened_at o.standing

  abbrev pub Openable : Opening G → Type 0
  Openable o = Unit {0}

  -- an empty text is one empty line, which is refused
  abbrev pub EndedEmpty : (before after : Opening G) (out out' : List ℕ) → Type 0
  EndedEmpty before after out out' = before.standing ≡ BeforeHeader →
      (after.standing ≡ Stopped (run.Line 1 fault.Letter)) × (out' ≡ out ++ fault_text (run.Line 1 fault.Letter))

  -- the first line was taken
  pub record FirstTaken (echo : Header → List ℕ) (after : Opening G) (line out out' : List ℕ) : Type 0 where
    pub stands : after.standing ≡ after_first (header_read line)
    pub prints : out' ≡ out ++ first_text echo (header_read line)

module _ (echo : Header → List ℕ) (body : Header → List (List ℕ) → List ℕ) where
  -- what lines still bring: all of the text before the header, after it what follows it
  abbrev pub opening_at : Standing → List (List ℕ) → List ℕ
  opening_at BeforeHeader lines = lines_text echo body lines
  opening_at (InRun header next) lines = body header lines
  opening_at (Stopped f) lines = []

  module _ {G : Type 0} where
    abbrev pub opening_rest : Opening G → List (List ℕ) → List ℕ
    opening_rest o lines = opening_at o.standing lines

    -- The header of a whole text was read, from its first `used` bytes: with what is now printed, the rest is what it was.
    pub record Heading (after : Opening G) (text out out' : List ℕ) (used : ℕ) : Type 0 where
      pub within : used ≤ length text
      pub read : opened after ≡ true
      pub prints : out' ++ opening_rest after (lines_of (drop used text)) ≡ out ++ whole_text echo body text

    abbrev pub Opened : (before after : Opening G) (text out out' : List ℕ) (used : ℕ) → Type 0
    Opened before after text out out' used = before.standing ≡ BeforeHeader → Heading after text out out' used
