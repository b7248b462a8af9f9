-- The first refusal that holds, holds. Assumes nothing.
use Rattle.std.proofs.Common.{◌≡◌, ℕ, Bool, true, cond, not, ◌||◌, eqb, ltb, leb, ◌≢◌, List, length, Some, None, Option, sym, refl, ◌∙◌, subst, inl, inr, arith}
use Rattle.std.proofs.lemmas.Bool.{cases_Bool, cases_lt, cond-true, cond-false, ltb-true, leb-true, le-leb, eqb-false, not-true, or_cases, true≢false}
use Rattle.code.specs.declared.refusal.SlotRefusal.{SlotRefusal}
use Rattle.code.specs.declared.sheet.Sheet.{Sheet}
use Rattle.code.specs.Sheets.{n}
use Rattle.code.specs.Refusals.{top_slots}
use Rattle.line.specs.Line.{fitting}
use Rattle.receive.specs.Memory.{need}
use Rattle.receive.specs.Refusing.{unfit, slot_refused, SlotReason}

no_refusal : (e : SlotRefusal) → None ≡ Some e → ⊥
no_refusal e is = let z : ◌≡◌ {A = ℕ} 0 1 = cc is in omega arith

-- where the first test of a chain of refusals holds, and where it does not
pub chain : (test : Bool) (e f : SlotRefusal) (rest : Option SlotRefusal) (P : SlotRefusal → Type 0) → cond test (Some e) rest ≡ Some f → (test ≡ true → P e) → (rest ≡ Some f → P f) → P f
chain test e f rest P is here later = elim (cases_Bool test) [
  | inl a ↦ let same : e ≡ f = cc (sym (cond-true test (Some e) rest a) ∙ is) in subst P same (here a)
  | inr a ↦ later (sym (cond-false test (Some e) rest a) ∙ is)
]

unfits : {S : Type 0} (p : Sheet) (came : Option (List S)) → unfit p came ≡ true → (q : List S) × (came ≡ Some q) × (length q ≢ n p)
unfits p (Some q) e = (q, refl, eqb-false (length q) (n p) (not-true _ e))
unfits p None e = absurd (true≢false (sym e))

pub reason : {S : Type 0} (p : Sheet) (w t : ℕ) (came : Option (List S)) (symbols marks : ℕ) (e : SlotRefusal) → slot_refused p w t (unfit p came) symbols marks ≡ Some e → SlotReason p w t came symbols marks e
reason p w t came symbols marks e is =
    let P : SlotRefusal → Type 0 = SlotReason p w t came symbols marks in
    chain (ltb w (need p)) SlotRefusal.Window e _ P is (ltb-true w (need p)) (λ is₁.
    chain (leb top_slots t) SlotRefusal.Slots e _ P is₁ (leb-true top_slots t) (λ is₂.
    chain (unfit p came) SlotRefusal.Packet e _ P is₂ (unfits p came) (λ is₃.
    chain (not (eqb symbols p.row) || not (eqb marks p.row)) SlotRefusal.Place e _ P is₃
    (λ d. elim (or_cases (not (eqb symbols p.row)) (not (eqb marks p.row)) d) [
      | inl x ↦ inl (eqb-false symbols p.row (not-true _ x))
      | inr x ↦ inr (eqb-false marks p.row (not-true _ x))
    ])
    (λ no. absurd (no_refusal e no)))))

-- a window that does not fit is shorter
pub not_fitting : {S : Type 0} (p : Sheet) (w t : ℕ) (came : Option (List S)) (symbols marks : ℕ) (e : SlotRefusal) → SlotReason p (fitting (need p) w) t came symbols marks e → SlotReason p w t came symbols marks e
not_fitting p w t came symbols marks SlotRefusal.Window short = elim (cases_lt w (need p)) [
  | inl l ↦ l
  | inr l ↦ absurd (omega (arith, cond-true (leb (need p) w) (need p) 0 (le-leb (need p) w l)))
]
not_fitting p w t came symbols marks SlotRefusal.Slots x = x
not_fitting p w t came symbols marks SlotRefusal.Packet x = x
not_fitting p w t came symbols marks SlotRefusal.Place x = x
