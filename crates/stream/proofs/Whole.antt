-- A text that is fed whole. Assumes nothing.
use Rattle.std.proofs.Common.{◌≡◌, ℕ, Bool, true, false, List, [], ◌++◌, drop, sym, ap, ◌∙◌, ap₂, arith}
use Rattle.std.proofs.lemmas.List.{append-nil, drop_all}
use Rattle.stream.specs.Lines.{lines_after, lines_of}
use Rattle.stream.specs.Running.{Feeding, Finishing}

module _ {R : Type 0} (rest : R → List (List ℕ) → List ℕ) (sound : R → Type 0) (paused : R → Bool) where
  -- it was taken to its end
  pub fed_finished : (before now after : R) (held held₁ held₂ text out out₁ out₂ : List ℕ) (used : ℕ) → held ≡ [] →
      Feeding rest sound paused before now held held₁ text out out₁ used → paused now ≡ false → Finishing rest sound paused now after held₁ held₂ out₁ out₂ →
      out₂ ++ rest after [] ≡ out ++ rest before (lines_of text)
  fed_finished before now after held held₁ held₂ text out out₁ out₂ used none fed going done =
      done.prints
      ∙ ap (λ x. out₁ ++ rest now (lines_after held₁ x)) (sym (append-nil (drop used text) ∙ drop_all used text (omega (arith, fed.all going))))
      ∙ fed.prints []
      ∙ ap₂ (λ h x. out ++ rest before (lines_after h x)) none (append-nil text)

  -- the run paused before
  pub fed_paused : (before now : R) (held held₁ text out out₁ : List ℕ) (used : ℕ) → held ≡ [] →
      Feeding rest sound paused before now held held₁ text out out₁ used → paused now ≡ true →
      out₁ ++ rest now (lines_of (drop used text)) ≡ out ++ rest before (lines_of text)
  fed_paused before now held held₁ text out out₁ used none fed stopped =
      sym (ap₂ (λ h x. out₁ ++ rest now (lines_after h x)) (fed.none stopped) (append-nil (drop used text)))
      ∙ fed.prints []
      ∙ ap₂ (λ h x. out ++ rest before (lines_after h x)) none (append-nil text)
