-- The lines of a text, one after the other on their way through the hall.
use Rattle.std.proofs.Common.{◌≡◌, ℕ, zero, suc, ◌+◌, ◌<◌, Bool, cond, List, [], ◌∷◌, ◌++◌, length, sym, refl, ap, ◌∙◌, arith}
use Rattle.std.proofs.lemmas.List.{append-nil, append_assoc}
use Rattle.lines.specs.Lines.{ended, missed_line}
use Rattle.stream.specs.Lines.{lines_of, Unended}
use Rattle.stream.proofs.Cutting.{ends_line, goes_on, last_some}
use Rattle.relay.specs.Relaying.{text_of}
use Rattle.relay.specs.Halls.{passed, all_passed}

module _ (missed : ℕ → Bool) where
  one_passed : (k : ℕ) (line : List ℕ) (lines : List (List ℕ)) →
      all_passed missed k (line ∷ lines) ≡ passed missed k line ∷ all_passed missed (k + 1) lines
  one_passed zero line lines = refl
  one_passed (suc t) line lines =
      ap (λ x. cond (missed t) (missed_line t) line ∷ all_passed missed x lines) (let e : suc (t + 1) ≡ suc t + 1 = omega arith in e)

  pub none_passed : (k : ℕ) → all_passed missed k [] ≡ []
  none_passed zero = refl
  none_passed (suc t) = refl

  -- a line and the text of those after it
  line_first : (k : ℕ) (line : List ℕ) (lines : List (List ℕ)) (out out' : List ℕ) → out' ≡ out ++ ended (passed missed k line) →
      out' ++ text_of (all_passed missed (k + 1) lines) ≡ out ++ text_of (all_passed missed k (line ∷ lines))
  line_first k line lines out out' is =
      ap (λ x. x ++ text_of (all_passed missed (k + 1) lines)) is
      ∙ (append_assoc out (ended (passed missed k line)) (text_of (all_passed missed (k + 1) lines))
      ∙ ap (λ x. out ++ text_of x) (sym (one_passed k line lines)))

  -- What is printed with what is still to come stays the same: a line that ends ..
  pub line_passed : (rest line more : List ℕ) (k : ℕ) (out out' whole : List ℕ) → Unended line → rest ≡ line ++ (10 ∷ more) →
      out' ≡ out ++ ended (passed missed k line) → out ++ text_of (all_passed missed k (lines_of rest)) ≡ whole →
      out' ++ text_of (all_passed missed (k + 1) (lines_of more)) ≡ whole
  line_passed rest line more k out out' whole unended parts is before =
      let first : lines_of rest ≡ line ∷ lines_of more = ap lines_of parts ∙ ends_line line [] more unended in
      line_first k line (lines_of more) out out' is ∙ (ap (λ x. out ++ text_of (all_passed missed k x)) (sym first) ∙ before)

  -- .. and a last line that does not
  pub last_passed : (rest : List ℕ) (k : ℕ) (out out' whole : List ℕ) → Unended rest → 0 < length rest →
      out' ≡ out ++ ended (passed missed k rest) → out ++ text_of (all_passed missed k (lines_of rest)) ≡ whole → out' ≡ whole
  last_passed rest k out out' whole unended some is before =
      let only : lines_of rest ≡ rest ∷ [] = ap lines_of (sym (append-nil rest)) ∙ (goes_on rest [] [] unended ∙ last_some rest some) in
      sym (append-nil out')
      ∙ (ap (λ x. out' ++ text_of x) (sym (none_passed (k + 1)))
      ∙ (line_first k rest [] out out' is ∙ (ap (λ x. out ++ text_of (all_passed missed k x)) (sym only) ∙ before)))

  -- nothing is left
  pub all_done : (rest : List ℕ) (k : ℕ) (out whole : List ℕ) → rest ≡ [] →
      out ++ text_of (all_passed missed k (lines_of rest)) ≡ whole → out ≡ whole
  all_done rest k out whole none before =
      sym (append-nil out)
      ∙ (ap (λ x. out ++ text_of x) (sym (none_passed k))
      ∙ (ap (λ x. out ++ text_of (all_passed missed k (lines_of x))) (sym none) ∙ before))
