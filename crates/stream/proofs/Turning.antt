-- A run that takes the lines of a text, turn by turn. Assumes nothing.
use Rattle.std.proofs.Common.{◌≡◌, ℕ, ◌<◌, ◌≤◌, Bool, true, false, List, [], ◌∷◌, ◌++◌, length, sym, refl, ap, ◌∙◌, subst, arith}
use Rattle.std.proofs.lemmas.List.{append_assoc, drop_all}
use Rattle.stream.specs.Lines.{lines_after, line_length, Unended}
use Rattle.stream.specs.Running.{longest, Took, Refused, Held, Feeding}
use Rattle.stream.proofs.Cutting.{goes_on, ends_line, first_line, both_unended}

differ : ◌≡◌ {A = Bool} false true → ⊥
differ e = let z : ◌≡◌ {A = ℕ} 0 1 = cc in omega arith

-- what is left of some bytes, of which the first were taken
pub record Left (bytes left : List ℕ) : Type 0 where
  pub taken : List ℕ
  pub is : bytes ≡ taken ++ left

-- a line less is left
pub less_left : (bytes left line left' : List ℕ) → Left bytes left → left ≡ line ++ (10 ∷ left') → Left bytes left'
less_left bytes left line left' part is = record {
  taken = part.taken ++ (line ++ (10 ∷ []));
  is = part.is ∙ ap (λ l. part.taken ++ l) (is ∙ sym (append_assoc line (10 ∷ []) left')) ∙ sym (append_assoc part.taken (line ++ (10 ∷ [])) left');
}

module _ {R : Type 0} (rest : R → List (List ℕ) → List ℕ) (sound : R → Type 0) (paused : R → Bool) where
  -- a line that was refused before it ended
  pub refused : (before after : R) (held piece begun out out' held' : List ℕ) → begun ≡ held ++ piece → 0 < length begun → held' ≡ [] →
      Refused rest sound paused before begun → Took rest sound paused before after begun out out' →
      Held rest sound paused before after held held' piece out out'
  refused before after held piece begun out out' held' is some none alike took sane going = record {
    stays = (took sane going).stays;
    prints = λ more.
        let first = first_line begun more some in
        ap (λ h. out' ++ rest after (lines_after h more)) none
        ∙ (took sane going).prints (lines_after [] more)
        ∙ ap (λ text. out ++ text) (sym (alike sane going first.0 first.1 (lines_after [] more)))
        ∙ ap (λ ls. out ++ rest before ls) (sym first.2)
        ∙ ap (λ h. out ++ rest before (lines_after h more)) is;
    few = subst (λ (h : List ℕ). length h ≤ longest) (sym none) (omega arith);
    ends = λ _. ap line_length none;
    none = λ _. none;
  }

  -- The turns of feeding: the same as what feeding comes to, with what is left of the bytes, less that everything was taken.
  pub record Going (before after : R) (held held' bytes left out out' : List ℕ) : Type 0 where
    pub stays : sound after
    pub prints : (more : List ℕ) →
        out' ++ rest after (lines_after held' (left ++ more)) ≡ out ++ rest before (lines_after held (bytes ++ more))
    pub ends : Unended held → Unended held'
    pub none : paused after ≡ true → held' ≡ []

  abbrev pub Goes : (before after : R) (held held' bytes left out out' : List ℕ) → Type 0
  Goes before after held held' bytes left out out' =
      sound before → paused before ≡ false → Going before after held held' bytes left out out'

  -- one more line ends
  pub turns : (before now after : R) (held held₁ held₂ bytes left out out₁ out₂ line left' : List ℕ) →
      Goes before now held held₁ bytes left out out₁ → paused now ≡ false → Unended line → left ≡ line ++ (10 ∷ left') →
      Took rest sound paused now after (held₁ ++ line) out₁ out₂ → held₂ ≡ [] →
      Goes before after held held₂ bytes left' out out₂
  turns before now after held held₁ held₂ bytes left out out₁ out₂ line left' goes still unended is took none sane going =
      let x = goes sane going in
      let y = took x.stays still in
      record {
        stays = y.stays;
        prints = λ more.
            ap (λ h. out₂ ++ rest after (lines_after h (left' ++ more))) none
            ∙ y.prints (lines_after [] (left' ++ more))
            ∙ ap (λ ls. out₁ ++ rest now ls) (sym (ap (λ l. lines_after held₁ (l ++ more)) is
            ∙ ap (lines_after held₁) (append_assoc line (10 ∷ left') more)
            ∙ ends_line line held₁ (left' ++ more) unended))
            ∙ x.prints more;
        ends = λ _. ap line_length none;
        none = λ _. none;
      }

  -- the last piece is held
  pub holds : (before now after : R) (held held₁ held₂ bytes left out out₁ out₂ : List ℕ) →
      Goes before now held held₁ bytes left out out₁ → paused now ≡ false → Unended left →
      Held rest sound paused now after held₁ held₂ left out₁ out₂ →
      sound before → paused before ≡ false → Feeding rest sound paused before after held held₂ bytes out out₂ (length bytes)
  holds before now after held held₁ held₂ bytes left out out₁ out₂ goes still unended keeps sane going =
      let x = goes sane going in
      let y = keeps x.stays still in
      record {
        stays = y.stays;
        within = omega arith;
        prints = λ more.
            ap (λ text. out₂ ++ rest after (lines_after held₂ (text ++ more))) (drop_all (length bytes) bytes (omega arith))
            ∙ y.prints more
            ∙ ap (λ ls. out₁ ++ rest now ls) (sym (goes_on left held₁ more unended))
            ∙ x.prints more;
        all = λ _. refl;
        few = λ _. y.few;
        ends = λ u. y.ends (both_unended held₁ left (x.ends u) unended);
        none = y.none;
      }
