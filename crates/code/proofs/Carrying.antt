-- What a slot carries. Assumes nothing.
use Rattle.std.proofs.Common.{◌≡◌, ℕ, zero, suc, ◌+◌, ◌-◌, ◌<◌, Bool, true, false, not, ◌&&◌, eqb, ◌≢◌, sym, refl, ap, ◌∙◌, ap₂, inl, inr, arith}
use Rattle.std.proofs.lemmas.Bool.{cases_Bool, le-leb, eq-eqb, ne_eqb, cond-true, cond-false, cases_eq, and_right, and_parts, not-true, eqb-false}
use Rattle.kinds.specs.Kind.{Kind, total}
use Rattle.code.specs.declared.sheet.Sheet.{Sheet}
use Rattle.code.specs.Sheets.{lag}
use Rattle.code.specs.Packets.{carried, brought}
use Rattle.kinds.proofs.Algebra.{sum_swap}

abbrev pub less : (ℕ → Bool) → ℕ → ℕ → Bool
less pick b i = pick i && not (eqb i b)

and_true : (x : Bool) → (x && true) ≡ x
and_true true = refl
and_true false = refl

pub less_other : (pick : ℕ → Bool) (b i : ℕ) → i ≢ b → less pick b i ≡ pick i
less_other pick b i h = ap (λ x. pick i && not x) (ne_eqb i b h) ∙ and_true (pick i)

less_same : (pick : ℕ → Bool) (b : ℕ) → less pick b b ≡ false
less_same pick b = ap (λ x. pick b && not x) (eq-eqb b b refl) ∙ and_right (pick b) false refl

-- what is left is picked, and another
pub less_picks : (pick : ℕ → Bool) (b i : ℕ) → less pick b i ≡ true → (pick i ≡ true) × (i ≢ b)
less_picks pick b i e =
    let parts = and_parts (pick i) (not (eqb i b)) e in
    (parts.0, eqb-false i b (not-true _ parts.1))

module _ {S : Type 0} (K : Kind S) (p : Sheet) where
  abbrev pub gathered : (ℕ → ℕ → S) → ℕ → (ℕ → Bool) → ℕ → S
  gathered u t pick m = total K (carried K p u t pick m)

  pub gathered_taken : (u : ℕ → ℕ → S) (t : ℕ) (pick : ℕ → Bool) (m : ℕ) → pick m ≡ true → gathered u t pick (suc m) ≡ K.sum (brought K p u t m) (gathered u t pick m)
  gathered_taken u t pick m e = ap (total K) (cond-true (pick m) _ _ e)

  pub gathered_left : (u : ℕ → ℕ → S) (t : ℕ) (pick : ℕ → Bool) (m : ℕ) → pick m ≡ false → gathered u t pick (suc m) ≡ gathered u t pick m
  gathered_left u t pick m e = ap (total K) (cond-false (pick m) _ _ e)

  -- rows that agree where the slot picks
  pub gathered_same : (u v : ℕ → ℕ → S) (t : ℕ) (pick : ℕ → Bool) (m : ℕ) → ((i : ℕ) → i < m → pick i ≡ true → brought K p u t i ≡ brought K p v t i) → gathered u t pick m ≡ gathered v t pick m
  gathered_same u v t pick zero h = refl
  gathered_same u v t pick (suc m) h =
      let ih : gathered u t pick m ≡ gathered v t pick m = gathered_same u v t pick m (λ i l e. h i (omega arith) e) in
      elim (cases_Bool (pick m)) [
        | inl e ↦ gathered_taken u t pick m e ∙ ap₂ K.sum (h m (omega arith) e) ih ∙ sym (gathered_taken v t pick m e)
        | inr e ↦ gathered_left u t pick m e ∙ ih ∙ sym (gathered_left v t pick m e)
      ]

  -- picks that agree
  pub gathered_picked : (u : ℕ → ℕ → S) (t : ℕ) (pick pick' : ℕ → Bool) (m : ℕ) → ((i : ℕ) → i < m → pick i ≡ pick' i) → gathered u t pick m ≡ gathered u t pick' m
  gathered_picked u t pick pick' zero h = refl
  gathered_picked u t pick pick' (suc m) h =
      let ih : gathered u t pick m ≡ gathered u t pick' m = gathered_picked u t pick pick' m (λ i l. h i (omega arith)) in
      elim (cases_Bool (pick m)) [
        | inl e ↦ gathered_taken u t pick m e ∙ ap (K.sum (brought K p u t m)) ih ∙ sym (gathered_taken u t pick' m (sym (h m (omega arith)) ∙ e))
        | inr e ↦ gathered_left u t pick m e ∙ ih ∙ sym (gathered_left u t pick' m (sym (h m (omega arith)) ∙ e))
      ]

  -- one symbol and the rest
  pub gathered_apart : (u : ℕ → ℕ → S) (t : ℕ) (pick : ℕ → Bool) (m b : ℕ) → b < m → pick b ≡ true → gathered u t pick m ≡ K.sum (brought K p u t b) (gathered u t (less pick b) m)
  gathered_apart u t pick zero b h e = absurd (omega arith)
  gathered_apart u t pick (suc m) b h e = elim (cases_eq m b) [
    | inl w ↦
        let first : gathered u t pick (suc m) ≡ K.sum (brought K p u t m) (gathered u t pick m) = gathered_taken u t pick m (ap pick w ∙ e) in
        let rest : gathered u t (less pick b) (suc m) ≡ gathered u t (less pick b) m = gathered_left u t (less pick b) m (ap (less pick b) w ∙ less_same pick b) in
        let same : gathered u t (less pick b) m ≡ gathered u t pick m = gathered_picked u t (less pick b) pick m (λ i l. less_other pick b i (omega arith)) in
        first ∙ ap₂ (λ i x. K.sum (brought K p u t i) x) w (sym same ∙ sym rest)
    | inr w ↦
        let ih : gathered u t pick m ≡ K.sum (brought K p u t b) (gathered u t (less pick b) m) = gathered_apart u t pick m b (omega arith) e in
        let keep : less pick b m ≡ pick m = less_other pick b m w in
        elim (cases_Bool (pick m)) [
          | inl x ↦
              gathered_taken u t pick m x ∙ ap (K.sum (brought K p u t m)) ih
              ∙ sum_swap K (brought K p u t m) (brought K p u t b) (gathered u t (less pick b) m)
              ∙ ap (K.sum (brought K p u t b)) (sym (gathered_taken u t (less pick b) m (keep ∙ x)))
          | inr x ↦ gathered_left u t pick m x ∙ ih ∙ ap (K.sum (brought K p u t b)) (sym (gathered_left u t (less pick b) m (keep ∙ x)))
        ]
  ]

  -- two symbols and the rest
  pub gathered_two : (u : ℕ → ℕ → S) (t : ℕ) (pick : ℕ → Bool) (m a b : ℕ) → a < m → b < m → b ≢ a → pick a ≡ true → pick b ≡ true → gathered u t pick m ≡ K.sum (brought K p u t a) (K.sum (brought K p u t b) (gathered u t (less (less pick a) b) m))
  gathered_two u t pick m a b la lb n ea eb =
      gathered_apart u t pick m a la ea ∙ ap (K.sum (brought K p u t a)) (gathered_apart u t (less pick a) m b lb (less_other pick a b n ∙ eb))

  -- the slot that carries symbol b of row j
  pub brought_own : (u : ℕ → ℕ → S) (j b : ℕ) → brought K p u (j + lag p b) b ≡ u j b
  brought_own u j b =
      let e : (j + lag p b) - lag p b ≡ j = omega arith in
      cond-true _ _ _ (le-leb (lag p b) (j + lag p b) (omega arith)) ∙ ap (λ i. u i b) e
