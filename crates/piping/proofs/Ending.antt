-- An input went through a run to its end, over plain values. Assumes nothing.
use Rattle.std.proofs.Common.{◌≡◌, ℕ, ◌<◌, Bool, false, List, [], ◌++◌, Some, None, Option, nat_eq, refl, sym, ap, ◌∙◌, subst, append_assoc, ap₂, arith}
use Rattle.std.proofs.lemmas.List.{append-nil}
use Rattle.std.proofs.lemmas.Bool.{cond-false, ne_eqb}
use Rattle.std.specs.Io.KnownBytes.{Appends, prepend_known}
use Rattle.std.specs.Io.Buffered.{reader_remaining, reader_buffer, reader_capacity, reader_inner}
use Rattle.std.specs.declared.io.buffered.BufReader.{BufReader}
use Rattle.lines.specs.declared.header.Header.{Header}
use Rattle.stream.specs.Lines.{lines_of}
use Rattle.runs.specs.declared.standing.Standing.TheVariants.{BeforeHeader}
use Rattle.opening.specs.declared.header.Opening.{Opening}
use Rattle.opening.specs.Headed.{whole_text}
use Rattle.opening.specs.Opening.{opened, opened_at, opening_at, opening_rest, Openable}
use Rattle.piping.specs.Pumping.{Pumped}
use Rattle.piping.specs.Writing.{Written, body_after, OpeningEnded, HeaderPumped}
use Rattle.piping.proofs.Turns.{appended}

module _ {R : Type 0} (rest : R → List (List ℕ) → List ℕ) (sound : R → Type 0) (paused : R → Bool) where
  -- what lines bring after the end is `more`
  record Ending (more : List (List ℕ) → List ℕ) (before : R) (left out : List ℕ) (left' out' : Option (List ℕ)) : Type 0 where
    pub remains : List ℕ
    pub leaves : left' ≡ Some remains
    pub written : List ℕ
    pub holds : out' ≡ Some written
    pub prints : written ++ more (lines_of remains) ≡ out ++ rest before (lines_of left)

  -- the run was pumped, and what its end printed is written
  ended : {before last : R} {left left' out fed out' : Option (List ℕ)} (printed : List ℕ) (more : List (List ℕ) → List ℕ) →
      sound before → paused before ≡ false → Pumped rest sound paused before last left left' out fed →
      (sound last → (lines : List (List ℕ)) → (paused last ≡ false → lines ≡ []) → printed ++ more lines ≡ rest last lines) →
      Appends fed out' printed → (xs ys : List ℕ) → left ≡ Some xs → out ≡ Some ys → Ending more before xs ys left' out'
  ended {out' = out'} printed more s p pumped end wrote xs ys l o =
      let w = pumped s p xs ys l o in
      record {
        remains = w.remains;
        leaves = w.leaves;
        written = w.written ++ printed;
        holds = appended w.written out' printed (subst (λ x. Appends x out' printed) w.holds wrote);
        prints = append_assoc w.written printed _
            ∙ (ap (λ x. w.written ++ x) (end w.stays (lines_of w.remains) (λ going. ap lines_of (w.all going))) ∙ w.prints);
      }

  -- .. and the end printed all that was still to come: `text` of all lines
  pub all_written : {before last : R} {left left' out fed out' : Option (List ℕ)} (text : List (List ℕ) → List ℕ) (none printed : List ℕ) →
      sound before → paused before ≡ false → ((lines : List (List ℕ)) → rest before lines ≡ text lines) → none ≡ [] →
      Pumped rest sound paused before last left left' out fed → (sound last → printed ≡ none ++ rest last []) →
      ((lines : List (List ℕ)) → (paused last ≡ false → lines ≡ []) → rest last [] ≡ rest last lines) →
      Appends fed out' printed → Written (λ bytes. text (lines_of bytes)) left out out'
  all_written {last = last} text none printed s p begins empty pumped end over wrote xs ys l o =
      let e = ended printed (λ _. []) s p pumped
      (λ stays lines left. append-nil printed ∙ end stays ∙ ap (λ x. x ++ rest last []) empty ∙ over lines left) wrote xs ys l o in
      e.holds ∙ ap Some (sym (append-nil e.written) ∙ e.prints ∙ ap (λ x. ys ++ x) (begins (lines_of xs)))

module _ (echo : Header → List ℕ) (body : Header → List (List ℕ) → List ℕ) where
  -- an opening was pumped to its end
  pub opening_ended : {G : Type 0} {before last : Opening G} {left left' out fed out' : Option (List ℕ)} (none printed : List ℕ) (header : Option Header) →
      before.standing ≡ BeforeHeader → none ≡ [] → Pumped (opening_rest echo body) Openable opened before last left left' out fed →
      OpeningEnded echo body last none printed header → Appends fed out' printed → HeaderPumped echo body header left left' out out'
  opening_ended {last = last} none printed header starts empty pumped end wrote xs ys l o =
      let e = ended (opening_rest echo body) Openable opened printed (body_after echo body header) tt (ap opened_at starts) pumped
      (λ _ lines over. end lines over ∙ ap (λ x. x ++ opening_rest echo body last lines) empty) wrote xs ys l o in
      record {
        remains = e.remains;
        leaves = e.leaves;
        written = e.written;
        holds = e.holds;
        prints = e.prints ∙ ap (λ s. ys ++ opening_at echo body s (lines_of xs)) starts;
      }

  -- nothing follows no header
  pub no_header : {left left' out out' : Option (List ℕ)} (header : Option Header) → header ≡ None →
      HeaderPumped echo body header left left' out out' → Written (whole_text echo body) left out out'
  no_header header is pumped xs ys l o =
      let p = pumped xs ys l o in
      p.holds
      ∙ ap Some (sym (append-nil p.written) ∙ ap (λ o. p.written ++ body_after echo body o (lines_of p.remains)) (sym is) ∙ p.prints)

  -- .. and what follows a header is written
  pub header_and_body : {left left' out out' out'' : Option (List ℕ)} (header : Option Header) (h : Header) → header ≡ Some h →
      HeaderPumped echo body header left left' out out' → Written (λ bytes. body h (lines_of bytes)) left' out' out'' →
      Written (whole_text echo body) left out out''
  header_and_body header h is pumped follows xs ys l o =
      let p = pumped xs ys l o in
      follows p.remains p.written p.leaves p.holds
      ∙ ap Some (ap (λ o. p.written ++ body_after echo body o (lines_of p.remains)) (sym is) ∙ p.prints)

-- a reader in pieces has what its input had
pub reader_has : {T A : Type 0} (remaining : T → Option (List ℕ)) (r : BufReader T A) (input : T) → reader_inner r ≡ input → reader_buffer r ≡ [] →
    0 < reader_capacity r → reader_remaining remaining r ≡ remaining input
reader_has remaining r input all none room =
    cond-false (nat_eq (reader_capacity r) 0) None (prepend_known (reader_buffer r) (remaining (reader_inner r)))
    (ne_eqb (reader_capacity r) 0 (λ e. omega (arith, room, e)))
    ∙ ap₂ (λ bs i. prepend_known bs (remaining i)) none all
    ∙ nothing_before (remaining input)
  where
    nothing_before : (o : Option (List ℕ)) → prepend_known [] o ≡ o
    nothing_before None = refl
    nothing_before (Some xs) = refl
