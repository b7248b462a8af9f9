-- What a line does to a run after its header, at either end. Assumes nothing.
use Rattle.std.proofs.Common.{◌≡◌, ℕ, ◌+◌, ◌≤◌, Bool, true, false, List, [], ◌∷◌, ◌++◌, length, drop, Ok, Err, vec_items, Result, sym, refl, ap, ◌∙◌, subst, arith}
use Rattle.std.specs.Vec.{with_items}
use Rattle.std.specs.declared.vec.Vec.{Vec}
use Rattle.std.proofs.lemmas.List.{append-nil, drop_all, with_items_is}
use Rattle.lines.specs.declared.header.Header.{Header}
use Rattle.lines.specs.Writing.{fault_refused}
use Rattle.text.specs.declared.fault.LineFault.{LineFault}
use Rattle.text.specs.declared.fault.RunFault.{RunFault}
use Rattle.text.specs.declared.fault.RunFault.TheVariants as run
use Rattle.text.specs.Faults.{line_position, run_line, run_number, run_position}
use Rattle.text.specs.Reading.{and_then}
use Rattle.stream.specs.Lines.{lines_of}
use Rattle.stream.specs.Running.{Taken, Took, Refused}
use Rattle.runs.specs.declared.standing.Standing.{Standing}
use Rattle.runs.specs.declared.standing.Standing.TheVariants.{BeforeHeader, InRun, Stopped}
use Rattle.runs.specs.Runs.{numbered_as, answer_of, standing_of, Given}
use Rattle.runs.specs.Standings.{Counted, refused_by}
use Rattle.runs.specs.Whole.{fault_text, unless, after_line}
use Rattle.runs.proofs.Positions.{Within, line_printed}

-- what is printed of a fault
abbrev pub fault_printed : RunFault → List ℕ
fault_printed f = unless (fault_refused (run_line f) (run_number f) (run_position f) 18) (fault_text f)

-- a line leads to the same where what follows it does
pub after_alike : {X : Type 0} (t : ℕ) (r : Result X LineFault) (f g : X → List ℕ) → ((x : X) → f x ≡ g x) → after_line t r f ≡ after_line t r g
after_alike t (Ok x) f g same = same x
after_alike t (Err e) f g same = refl

-- what a reader answers, and what it leaves in the place for the symbols of a line
module _ {S L : Type 0} (read : Standing → ℕ → List ℕ → Result (Given L) RunFault) (place : Standing → List ℕ → List S → List S) (s s' : Standing) (line : List ℕ)
    (answer : Result L RunFault) where
  pub record Heard (before after : List S) : Type 0 where
    pub reads : s' ≡ standing_of (read s (length before) line)
    pub holds : after ≡ place s line before
    pub long : length after ≡ length before
    pub answers : answer ≡ answer_of (read s (length before) line)

  -- .. where it reads into the items of a Vec
  pub heard : {Z : Type 0} (v : Vec S Z) (lent back : List S) → lent ≡ vec_items v → length lent ≡ v.len → length back ≡ length lent →
      answer ≡ answer_of (read s (length lent) line) → s' ≡ standing_of (read s (length lent) line) → back ≡ place s line lent →
      Heard (vec_items v) (vec_items (with_items v back))
  heard v lent back value len same answers reads holds =
      let filled : vec_items (with_items v back) ≡ back = with_items_is v back (same ∙ len) in record {
        reads = reads ∙ ap (λ xs. standing_of (read s (length xs) line)) value;
        holds = filled ∙ holds ∙ ap (place s line) value;
        long = ap length filled ∙ same ∙ ap length value;
        answers = answers ∙ ap (λ xs. answer_of (read s (length xs) line)) value;
      }

-- a run by its parts: where its reader stands, what it still prints from there on, what makes it sound there, where it is stopped; and
-- in slot t what a line reads as, what is taken of that, and what is printed of what was taken
module _ {R X : Type 0} where
  pub record Running (standing : R → Standing) (rest_at : Standing → R → List (List ℕ) → List ℕ) (SoundAt : Standing → R → Type 0) (stopped_at : Standing → Bool)
      (read : R → ℕ → List ℕ → Result X LineFault) (more : R → ℕ → X → Result X LineFault) (follows : R → ℕ → List (List ℕ) → X → List ℕ) : Type 0 where
    pub waits : stopped_at BeforeHeader ≡ true
    pub stops : (f : RunFault) → stopped_at (Stopped f) ≡ true
    pub sound : (f : RunFault) (r : R) → SoundAt (Stopped f) r
    pub goes : (header : Header) (t : ℕ) → stopped_at (InRun header t) ≡ false
    pub unbegun : (r : R) (lines : List (List ℕ)) → rest_at BeforeHeader r lines ≡ []
    pub silent : (f : RunFault) (r : R) (lines : List (List ℕ)) → rest_at (Stopped f) r lines ≡ []
    pub prints : (header : Header) (t : ℕ) (r : R) (line : List ℕ) (lines : List (List ℕ)) →
        rest_at (InRun header t) r (line ∷ lines) ≡ after_line t (and_then (read r t line) (more r t)) (follows r t lines)

module _ {R X : Type 0} {standing : R → Standing} {rest_at : Standing → R → List (List ℕ) → List ℕ} {SoundAt : Standing → R → Type 0} {stopped_at : Standing → Bool}
    {read : R → ℕ → List ℕ → Result X LineFault} {more : R → ℕ → X → Result X LineFault} {follows : R → ℕ → List (List ℕ) → X → List ℕ}
    (running : Running standing rest_at SoundAt stopped_at read more follows)
  where
    abbrev rest : R → List (List ℕ) → List ℕ
    rest r lines = rest_at (standing r) r lines

    abbrev Sound : R → Type 0
    Sound r = SoundAt (standing r) r

    abbrev stopped : R → Bool
    stopped r = stopped_at (standing r)

    -- a run that is not stopped stands after its header
    standing_in : (s : Standing) → stopped_at s ≡ false → (header : Header) × (next : ℕ) × (s ≡ InRun header next)
    standing_in BeforeHeader going = let z : true ≡ false = sym running.waits ∙ going in absurd cc
    standing_in (InRun header next) going = (header, next, refl)
    standing_in (Stopped f) going = let z : true ≡ false = sym (running.stops f) ∙ going in absurd cc

    pub took_in : (before after : R) (line out out' : List ℕ) → Counted (standing before) →
        ((header : Header) (t : ℕ) → standing before ≡ InRun header t → SoundAt (InRun header t) before → t ≤ 1000000 → Taken rest Sound stopped before after line out out') →
        Took rest Sound stopped before after line out out'
    took_in before after line out out' counted takes sane going =
        let at = standing_in (standing before) going in
        takes at.0 at.1 at.2 (subst (λ (s : Standing). SoundAt s before) at.2 sane) (subst (λ (s : Standing). Counted s) at.2 counted)

    -- a stopped run prints nothing more, and to another no lines are left
    pub over : (r : R) (lines : List (List ℕ)) → (stopped r ≡ false → lines ≡ []) → rest r [] ≡ rest r lines
    over r lines = from (standing r)
      where
        from : (s : Standing) → (stopped_at s ≡ false → lines ≡ []) → rest_at s r [] ≡ rest_at s r lines
        from BeforeHeader none = running.unbegun r [] ∙ sym (running.unbegun r lines)
        from (InRun header t) none = ap (rest_at (InRun header t) r) (sym (none (running.goes header t)))
        from (Stopped f) none = running.silent f r [] ∙ sym (running.silent f r lines)

    -- .. where all lines of a text were taken
    pub none_left : (r : R) (text : List ℕ) (used : ℕ) → (stopped r ≡ false → used ≡ length text) → rest r [] ≡ rest r (lines_of (drop used text))
    none_left r text used all = over r (lines_of (drop used text)) (λ going. ap lines_of (drop_all used text (omega (arith, all going))))

    -- a line that is refused before it has ended
    pub refused_alike : (r : R) (begun : List ℕ) (e : LineFault) → ((t : ℕ) (line rest : List ℕ) → line ≡ begun ++ rest → read r t line ≡ Err e) →
        Refused rest Sound stopped r begun
    refused_alike r begun e refused sane going rest' lines lines' =
        let at = standing_in (standing r) going in
        let text : (line rest' : List ℕ) (ls : List (List ℕ)) → line ≡ begun ++ rest' → rest r (line ∷ ls) ≡ fault_text (run.Line (at.1 + 2) e) =
        λ line rest' ls is. ap (λ s. rest_at s r (line ∷ ls)) at.2 ∙ running.prints at.0 at.1 r line ls
        ∙ ap (λ x. after_line at.1 (and_then x (more r at.1)) (follows r at.1 ls)) (refused at.1 line rest' is) in
        text (begun ++ rest') rest' lines refl ∙ sym (text begun [] lines' (sym (append-nil begun)))

    module _ (before after : R) (line out out' : List ℕ) (header : Header) (t : ℕ) (is : standing before ≡ InRun header t) (few : t ≤ 1000000) where
      abbrev taken : Result X LineFault
      taken = and_then (read before t line) (more before t)

      rest_is : (lines : List (List ℕ)) (r : Result X LineFault) → taken ≡ r → rest before (line ∷ lines) ≡ after_line t r (follows before t lines)
      rest_is lines r so = ap (λ s. rest_at s before (line ∷ lines)) is ∙ running.prints header t before line lines ∙ ap (λ r. after_line t r (follows before t lines)) so

      -- a refused line stops the run
      stops_at : (e : LineFault) (f : RunFault) → taken ≡ Err e → line_position e ≤ 9999 → f ≡ run.Line (t + 2) e →
          standing after ≡ Stopped f → out' ≡ out ++ fault_printed f → Taken rest Sound stopped before after line out out'
      stops_at e f refused near f-is Ended-so printed = record {
        stays = subst (λ (s : Standing). SoundAt s after) (sym Ended-so) (running.sound f after);
        prints = λ lines.
            ap (λ s. out' ++ rest_at s after lines) Ended-so ∙ ap (λ text. out' ++ text) (running.silent f after lines) ∙ append-nil out' ∙ printed
            ∙ ap (λ text. out ++ text) (ap fault_printed f-is ∙ line_printed (t + 2) e (omega arith) near ∙ sym (rest_is lines (Err e) refused));
      }

      -- .. by what its reader gives
      pub took_fault : {L : Type 0} (gives : X → Given L) (given : Result (Given L) RunFault) (f : RunFault) →
          given ≡ numbered_as (t + 2) (and_then (read before t line) (λ x. Ok (gives x))) → Err f ≡ answer_of given → standing after ≡ standing_of given →
          Within 9999 (read before t line) → out' ≡ out ++ fault_printed f → Taken rest Sound stopped before after line out out'
      took_fault gives given f reads answers stands near printed =
          let x = read_err (read before t line) gives f (answers ∙ ap answer_of reads) in
          stops_at x.0 f (ap (λ r. and_then r (more before t)) x.1) (near x.0 x.1) x.2
          (stands ∙ ap standing_of (reads ∙ ap (λ r. numbered_as (t + 2) (and_then r (λ x. Ok (gives x)))) x.1) ∙ ap Stopped (sym x.2)) printed
        where
          read_err : {L : Type 0} (r : Result X LineFault) (gives : X → Given L) (f : RunFault) → Err f ≡ answer_of (numbered_as (t + 2) (and_then r (λ x. Ok (gives x)))) →
              (e : LineFault) × (r ≡ Err e) × (f ≡ run.Line (t + 2) e)
          read_err (Ok x) gives f is = absurd cc
          read_err (Err e) gives f is = (e, refl, cc)

      -- .. or by the refusal of the end that it was read for
      pub declined : (mid : R) (e : LineFault) → standing mid ≡ InRun header (t + 1) → taken ≡ Err e → line_position e ≤ 9999 →
          (standing after ≡ Stopped (refused_by e (standing mid))) × (out' ≡ out ++ fault_printed (refused_by e (standing mid))) →
          Taken rest Sound stopped before after line out out'
      declined mid e now_in refused near told =
          stops_at e (refused_by e (standing mid)) refused near (ap (refused_by e) now_in ∙ ap (λ i. run.Line i e) (let z : (t + 1) + 1 ≡ t + 2 = omega arith in z)) told.0 told.1

      -- a line that is taken leads to the next
      pub goes_on : (x : X) → taken ≡ Ok x → standing after ≡ InRun header (t + 1) → SoundAt (InRun header (t + 1)) after →
          ((lines : List (List ℕ)) → out' ++ rest_at (InRun header (t + 1)) after lines ≡ out ++ follows before t lines x) →
          Taken rest Sound stopped before after line out out'
      goes_on x so now_in sound prints = record {
        stays = subst (λ (s : Standing). SoundAt s after) (sym now_in) sound;
        prints = λ lines. ap (λ s. out' ++ rest_at s after lines) now_in ∙ prints lines ∙ ap (λ text. out ++ text) (sym (rest_is lines (Ok x) so));
      }
