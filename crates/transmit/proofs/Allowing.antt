-- What holds where a call is not refused, and why one is refused. Assumes nothing.
use Rattle.std.proofs.Common.{◌≡◌, ℕ, ◌<◌, ◌≤◌, Bool, true, false, cond, not, eqb, ltb, leb, Some, None, Option, sym, refl, subst, arith}
use Rattle.std.proofs.lemmas.Bool.{ltb-true, ltb-false, leb-true, leb-false, eqb-true, eqb-false, not-true, not-false}
use Rattle.code.specs.declared.refusal.PutRefusal.{PutRefusal}
use Rattle.code.specs.declared.refusal.TailRefusal.{TailRefusal}
use Rattle.code.specs.declared.sheet.Sheet.{Sheet}
use Rattle.code.specs.Sheets.{T, n}
use Rattle.code.specs.Refusals.{top_slots}
use Rattle.transmit.specs.Keeping.{need}
use Rattle.transmit.specs.Refusing.{put_refused, tail_refused, PutReason, TailReason}

module _ {E : Type 0} where
  not_some : (e : E) → Some e ≡ None → ⊥
  not_some e same = let z : ◌≡◌ {A = ℕ} 0 1 = cc in omega arith

  -- no refusal: this one does not hold, nor any after it
  none_of : (b : Bool) (e : E) (rest : Option E) → cond b (Some e) rest ≡ None → (b ≡ false) × (rest ≡ None)
  none_of true e rest is = absurd (not_some e is)
  none_of false e rest is = (refl, is)

  -- this refusal: it holds, or one after it
  one_of : (P : E → Type 0) (b : Bool) (e f : E) (rest : Option E) → cond b (Some f) rest ≡ Some e → (b ≡ true → P f) → (rest ≡ Some e → P e) → P e
  one_of P true e f rest is holds later = subst P (cc is) (holds refl)
  one_of P false e f rest is holds later = later is

  no_more : (P : E → Type 0) (e : E) → None ≡ Some e → P e
  no_more P e is = absurd (not_some e (sym is))

module _ (p : Sheet) (w t : ℕ) where
  pub put_allowed : (row place : ℕ) → put_refused p w t row place ≡ None → (need p ≤ w) × (t < top_slots) × (row ≡ p.row) × (place ≡ n p)
  put_allowed row place is =
      let a = none_of (ltb w (need p)) PutRefusal.Window _ is in
      let b = none_of (leb top_slots t) PutRefusal.Slots _ a.1 in
      let c = none_of (not (eqb row p.row)) PutRefusal.Row _ b.1 in
      let d = none_of (not (eqb place (n p))) PutRefusal.Place _ c.1 in
      (ltb-false w (need p) a.0, leb-false top_slots t b.0, eqb-true row p.row (not-false _ c.0), eqb-true place (n p) (not-false _ d.0))

  pub tail_allowed : (i place : ℕ) → tail_refused p w t i place ≡ None → (need p ≤ w) × (t < top_slots) × (place ≡ n p) × (i < T p)
  tail_allowed i place is =
      let a = none_of (ltb w (need p)) TailRefusal.Window _ is in
      let b = none_of (leb top_slots t) TailRefusal.Slots _ a.1 in
      let c = none_of (not (eqb place (n p))) TailRefusal.Place _ b.1 in
      let d = none_of (leb (T p) i) TailRefusal.Tail _ c.1 in
      (ltb-false w (need p) a.0, leb-false top_slots t b.0, eqb-true place (n p) (not-false _ c.0), leb-false (T p) i d.0)

  pub put_reason : (row place : ℕ) (e : PutRefusal) → put_refused p w t row place ≡ Some e → PutReason p w t row place e
  put_reason row place e is =
      one_of (PutReason p w t row place) _ e PutRefusal.Window _ is (λ h. ltb-true w (need p) h) (λ is.
      one_of (PutReason p w t row place) _ e PutRefusal.Slots _ is (λ h. leb-true top_slots t h) (λ is.
      one_of (PutReason p w t row place) _ e PutRefusal.Row _ is (λ h. eqb-false row p.row (not-true _ h)) (λ is.
      one_of (PutReason p w t row place) _ e PutRefusal.Place _ is (λ h. eqb-false place (n p) (not-true _ h)) (λ is.
      no_more (PutReason p w t row place) e is))))

  pub tail_reason : (i place : ℕ) (e : TailRefusal) → tail_refused p w t i place ≡ Some e → TailReason p w t i place e
  tail_reason i place e is =
      one_of (TailReason p w t i place) _ e TailRefusal.Window _ is (λ h. ltb-true w (need p) h) (λ is.
      one_of (TailReason p w t i place) _ e TailRefusal.Slots _ is (λ h. leb-true top_slots t h) (λ is.
      one_of (TailReason p w t i place) _ e TailRefusal.Place _ is (λ h. eqb-false place (n p) (not-true _ h)) (λ is.
      one_of (TailReason p w t i place) _ e TailRefusal.Tail _ is (λ h. leb-true (T p) i h) (λ is.
      no_more (TailReason p w t i place) e is))))
