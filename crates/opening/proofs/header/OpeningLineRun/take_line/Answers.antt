use Rattle.std.proofs.Common.{◌≡◌, ℕ, false, List, ◌∷◌, ◌++◌, Ok, Err, vec_items, Result, sym, refl, ap, ◌∙◌, ap₂, arith}
use Rattle.std.proofs.lemmas.List.{append-nil, append_assoc}
use Rattle.lines.specs.declared.header.Header.{Header}
use Rattle.text.specs.declared.fault.LineFault.{LineFault}
use Rattle.text.specs.declared.fault.RunFault.TheVariants as run
use Rattle.text.specs.Reading.{header_read}
use Rattle.runs.specs.declared.standing.Standing.{Standing}
use Rattle.runs.specs.declared.standing.Standing.TheVariants.{BeforeHeader, InRun, Stopped}
use Rattle.runs.specs.Whole.{fault_text}
use Rattle.opening.specs.Headed.{after_first, first_text, headed_text}
use Rattle.opening.specs.Opening.{opened_at, opening_at}
use Rattle.opening.proofs.header.OpeningLineRun.take_line.Goals as goal

before_header : (s : Standing) → opened_at s ≡ false → s ≡ BeforeHeader
before_header BeforeHeader going = refl
before_header (InRun header next) going = let z : ◌≡◌ {A = ℕ} 0 1 = cc in absurd (omega arith)
before_header (Stopped f) going = let z : ◌≡◌ {A = ℕ} 0 1 = cc in absurd (omega arith)

-- what is printed of the first line, and what the lines after it bring
first_and_more : (echo : Header → List ℕ) (body : Header → List (List ℕ) → List ℕ) (read : Result Header LineFault) (lines : List (List ℕ)) →
    first_text echo read ++ opening_at echo body (after_first read) lines ≡ headed_text echo body read lines
first_and_more echo body (Ok header) lines = refl
first_and_more echo body (Err e) lines = append-nil (fault_text (run.Line 1 e))

pub returns : goal.returns
returns g c sane going =
    let echo = g.G.Program.echo in
    let body = g.G.Program.body in
    let line = c.args.line.now in
    let out = vec_items c.args.out.now in
    let first = c.in_ok-take_first.ensures in
    record {
      stays = tt;
      prints = λ lines.
          ap₂ (λ text s. text ++ opening_at echo body s lines) first.prints first.stands
          ∙ append_assoc out (first_text echo (header_read line)) (opening_at echo body (after_first (header_read line)) lines)
          ∙ ap (λ text. out ++ text) (first_and_more echo body (header_read line) lines)
          ∙ sym (ap (λ s. out ++ opening_at echo body s (line ∷ lines)) (before_header c.args.self.now.standing going));
    }
