-- A list of rows with one symbol changed. Assumes nothing.
use Rattle.std.proofs.Common.{◌≡◌, ℕ, ◌+◌, ◌-◌, ◌≤◌, cond, ◌&&◌, eqb, leb, ◌++◌, map, sym, refl, ap, ◌∙◌, ap₂, inl, inr, arith}
use mathlib.Core.Path.{fun_ext}
use Rattle.std.specs.List.{range_with_len}
use Rattle.std.proofs.lemmas.Bool.{cases_Bool, cases_eq, cond-true, cond-false, and_from, and_left, and_right, eq-eqb, ne_eqb, leb-true}
use Rattle.kinds.specs.Kind.{Kind}
use Rattle.code.specs.declared.sheet.Sheet.{Sheet}
use Rattle.code.specs.Sheets.{lag}
use Rattle.code.specs.Packets.{brought, parity, packet}

abbrev pub put : {S : Type 0} → (ℕ → ℕ → S) → ℕ → ℕ → S → ℕ → ℕ → S
put u j b x i c = cond (eqb i j && eqb c b) x (u i c)

module _ {S : Type 0} (u : ℕ → ℕ → S) (j b : ℕ) (x : S) where
  pub put_here : put u j b x j b ≡ x
  put_here = cond-true _ _ _ (and_from _ _ (eq-eqb j j refl) (eq-eqb b b refl))

  pub put_there : (i c : ℕ) → (i ≡ j → c ≡ b → ⊥) → put u j b x i c ≡ u i c
  put_there i c n = elim (cases_eq i j) [
    | inl e ↦ cond-false _ _ _ (and_right (eqb i j) (eqb c b) (ne_eqb c b (n e)))
    | inr e ↦ cond-false _ _ _ (and_left (eqb i j) (eqb c b) (ne_eqb i j e))
  ]

  -- only its own slot carries the change
  pub brought_put : (K : Kind S) (p : Sheet) (s i : ℕ) → (s ≡ j + lag p b → i ≡ b → ⊥) → brought K p (put u j b x) s i ≡ brought K p u s i
  brought_put K p s i n = elim (cases_Bool (leb (lag p i) s)) [
    | inl w ↦
        let l : lag p i ≤ s = leb-true (lag p i) s w in
        cond-true _ _ _ w
        ∙ put_there (s - lag p i) i (λ e f. let d : lag p i ≡ lag p b = ap (lag p) f in n (omega arith) f)
        ∙ sym (cond-true _ _ _ w)
    | inr w ↦ cond-false _ _ _ w ∙ sym (cond-false _ _ _ w)
  ]

pub packet_same : {S : Type 0} (K : Kind S) (p : Sheet) (u v : ℕ → ℕ → S) (s : ℕ) → ((i : ℕ) → v s i ≡ u s i) → ((c : ℕ) → parity K p v s c ≡ parity K p u s c) → packet K p v s ≡ packet K p u s
packet_same K p u v s rows parities =
    ap₂ ◌++◌ (ap (λ f. map f (range_with_len 0 p.row)) (fun_ext rows)) (ap (λ f. map f (range_with_len 0 p.parity)) (fun_ext parities))
