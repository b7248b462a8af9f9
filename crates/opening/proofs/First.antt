-- Where the first line leads the reader of a run, at either end. Assumes nothing.
use Rattle.std.proofs.Common.{◌≡◌, ℕ, Bool, true, false, cond, List, [], ◌∷◌, Ok, Err, Result, refl, ap, ◌∙◌, sym, ◌==◌, arith}
use Rattle.std.proofs.lemmas.Bool.{cond-true, cond-false}
use Rattle.lines.specs.declared.header.Header.{Header}
use Rattle.text.specs.declared.fault.LineFault.{LineFault}
use Rattle.text.specs.declared.fault.LineFault.TheVariants as fault
use Rattle.text.specs.Reading.{and_then, header_read, begins}
use Rattle.text.specs.declared.fault.RunFault.{RunFault}
use Rattle.text.specs.declared.fault.RunFault.TheVariants as run
use Rattle.runs.specs.declared.standing.Standing.TheVariants.{BeforeHeader, InRun, Stopped}
use Rattle.runs.specs.declared.standing.Standing.{Standing}
use Rattle.runs.specs.Runs.{Given, numbered_as, standing_of}
use Rattle.runs.proofs.Positions.{Within, line_printed}
use Rattle.opening.specs.Headed.{after_first, first_text}
use Rattle.opening.proofs.Taking.{fault_printed}

-- a line with another letter is no header
header_other : (line : List ℕ) → begins 72 line ≡ false → header_read line ≡ Err fault.Letter
header_other [] other = refl
header_other (c ∷ []) other = cond-false _ _ _ other
header_other (c ∷ (d ∷ rest)) other = cond-false _ _ _ other

module _ {L : Type 0} (give : Header → L) where
  -- what a reader makes of an H line
  abbrev pub opens : Result Header LineFault → Result (Given L) LineFault
  opens read = and_then read (λ header. Ok (give header, InRun header 0))

  led : (read : Result Header LineFault) → standing_of (numbered_as 1 (opens read)) ≡ after_first read
  led (Ok header) = refl
  led (Err e) = refl

  -- a reader that takes an H line before its header, and refuses every other
  module _ (read : Standing → ℕ → List ℕ → Result (Given L) RunFault) (place : ℕ) (none : read BeforeHeader place [] ≡ Err (run.Line 1 fault.Letter))
      (some : (c : ℕ) (cs : List ℕ) → read BeforeHeader place (c ∷ cs) ≡ numbered_as 1 (cond (c == 72) (opens (header_read (c ∷ cs))) (Err fault.Letter)))
    where
      leads : (line : List ℕ) → standing_of (read BeforeHeader place line) ≡ after_first (header_read line)
      leads [] = ap standing_of none
      leads (c ∷ cs) = ap standing_of (some c cs) ∙ by (c == 72) refl
        where
          by : (b : Bool) → (c == 72) ≡ b → standing_of (numbered_as 1 (cond (c == 72) (opens (header_read (c ∷ cs))) (Err fault.Letter))) ≡ after_first (header_read (c ∷ cs))
          by true is = ap (λ r. standing_of (numbered_as 1 r)) (cond-true _ _ _ is) ∙ led (header_read (c ∷ cs))
          by false is = ap (λ r. standing_of (numbered_as 1 r)) (cond-false _ _ _ is) ∙ ap after_first (sym (header_other (c ∷ cs) is))

      pub first_read : (line : List ℕ) (s s' : Standing) → s ≡ BeforeHeader → s' ≡ standing_of (read s place line) → s' ≡ after_first (header_read line)
      first_read line s s' before is = is ∙ ap (λ at. standing_of (read at place line)) before ∙ leads line

-- what is printed of the first line, by where it led
module _ (echo : Header → List ℕ) where
  pub begun : (read : Result Header LineFault) (header : Header) (next : ℕ) → after_first read ≡ InRun header next → echo header ≡ first_text echo read
  begun (Ok header') header next is = let same : header' ≡ header = cc in ap echo (sym same)
  begun (Err e) header next is = absurd cc

  pub stopped_first : (read : Result Header LineFault) (f : RunFault) → Within 9999 read → after_first read ≡ Stopped f → fault_printed f ≡ first_text echo read
  stopped_first (Ok header) f near is = absurd cc
  stopped_first (Err e) f near is =
      let same : run.Line 1 e ≡ f = cc in ap fault_printed (sym same) ∙ line_printed 1 e (omega arith) (near e refl)

pub not_before : (read : Result Header LineFault) → after_first read ≡ BeforeHeader → ⊥
not_before (Ok header) is = absurd cc
not_before (Err e) is = absurd cc
