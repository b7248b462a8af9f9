-- What is marked lost could be another symbol. Assumes nothing.
use Rattle.std.proofs.Common.{◌≡◌, ℕ, ◌+◌, ◌-◌, ◌<◌, ◌≤◌, Bool, true, false, ◌≢◌, ◌⊎◌, sym, refl, ap, ◌∙◌, ap₂, inl, inr, arith}
use Rattle.std.proofs.lemmas.Bool.{cases_eq, true≢false, eq-eqb, eqb-true}
use Rattle.kinds.specs.Kind.{Kind}
use Rattle.code.specs.declared.sheet.Sheet.{Sheet}
use Rattle.code.specs.Sheets.{T, lag, column}
use Rattle.code.specs.Packets.{brought, parity, packet, in_column}
use Rattle.code.specs.declared.mark.Mark.TheVariants.{Lost}
use Rattle.code.specs.Mending.{mark}
use Rattle.kinds.proofs.Algebra.{nonzero_moves, sum_moved}
use Rattle.code.proofs.Numbers.{lag_below}
use Rattle.code.proofs.Carrying.{less, less_picks, gathered, gathered_same, gathered_two, brought_own}
use Rattle.code.proofs.Changes.{put, put_here, put_there, brought_put, packet_same}
use Rattle.code.proofs.Losses.{Losing, lost}

-- a slot that is to come or arrived is none that was missed
kept : (arrived : ℕ → Bool) (t m s : ℕ) → m ≤ t → arrived m ≡ false → (t < s) ⊎ (arrived s ≡ true) → s ≢ m
kept arrived t m s l a (inl w) e = omega arith
kept arrived t m s l a (inr w) e = true≢false (sym w ∙ ap (arrived) e ∙ a)

-- the slot that carries the symbol was missed: it alone is changed
module _ {S : Type 0} (K : Kind S) (p : Sheet) (u : ℕ → ℕ → S) (j b : ℕ) where
  abbrev pub one_changed : ℕ → ℕ → S
  one_changed = put u j b (K.sum (u j b) K.nonzero)

  one_differs : one_changed j b ≢ u j b
  one_differs e = nonzero_moves K (u j b) (sym (put_here u j b _) ∙ e)

  one_packet : (s : ℕ) → s ≢ j → s ≢ j + lag p b → packet K p one_changed s ≡ packet K p u s
  one_packet s nj ns =
      packet_same K p u one_changed s
      (λ i. put_there u j b _ s i (λ e _. nj e))
      (λ c. gathered_same K p one_changed u s (in_column p c) p.row (λ i _ _. brought_put u j b _ K p s i (λ e _. ns e)))

-- a row whose symbol i is added to it there was missed too: what is added to the one is taken from the other
module _ {S : Type 0} (K : Kind S) (p : Sheet) (u : ℕ → ℕ → S) (j b j' i : ℕ) (differ : i ≢ b) (same : column p i ≡ column p b) (meet : j' + lag p i ≡ j + lag p b) where
  abbrev pub two_changed : ℕ → ℕ → S
  two_changed = put (one_changed K p u j b) j' i (K.difference (u j' i) K.nonzero)

  two_at : two_changed j b ≡ K.sum (u j b) K.nonzero
  two_at = put_there (one_changed K p u j b) j' i _ j b (λ _ e. differ (sym e)) ∙ put_here u j b _

  two_differs : two_changed j b ≢ u j b
  two_differs e = nonzero_moves K (u j b) (sym two_at ∙ e)

  -- no other slot and no other symbol is changed
  two_back : (s x : ℕ) → (s ≡ j + lag p b → x ≡ b → ⊥) → (s ≡ j + lag p b → x ≡ i → ⊥) → brought K p two_changed s x ≡ brought K p u s x
  two_back s x nb ni =
      brought_put (one_changed K p u j b) j' i _ K p s x (λ e f. ni (e ∙ meet) f) ∙ brought_put u j b _ K p s x nb

  module _ (lb : b < p.row) (li : i < p.row) where
    two_parity_here : parity K p two_changed (j + lag p b) (column p b) ≡ parity K p u (j + lag p b) (column p b)
    two_parity_here =
        let s : ℕ = j + lag p b in
        let pick : ℕ → Bool = in_column p (column p b) in
        let pb : pick b ≡ true = eq-eqb (column p b) (column p b) refl in
        let pi : pick i ≡ true = eq-eqb (column p i) (column p b) same in
        let at_b : brought K p two_changed s b ≡ K.sum (brought K p u s b) K.nonzero =
        brought_own K p two_changed j b ∙ two_at ∙ ap (λ x. K.sum x K.nonzero) (sym (brought_own K p u j b)) in
        let own-i : (w : ℕ → ℕ → S) → brought K p w s i ≡ w j' i = λ w. ap (λ n. brought K p w n i) (sym meet) ∙ brought_own K p w j' i in
        let at_i : brought K p two_changed s i ≡ K.difference (brought K p u s i) K.nonzero =
        own-i two_changed ∙ put_here (one_changed K p u j b) j' i _ ∙ ap (λ x. K.difference x K.nonzero) (sym (own-i u)) in
        let rest : gathered K p two_changed s (less (less pick b) i) p.row ≡ gathered K p u s (less (less pick b) i) p.row =
        gathered_same K p two_changed u s (less (less pick b) i) p.row (λ x _ e.
        let q = less_picks (less pick b) i x e in
        two_back s x (λ _. (less_picks pick b x q.0).1) (λ _. q.1)) in
        gathered_two K p two_changed s pick p.row b i lb li differ pb pi
        ∙ ap₂ K.sum at_b (ap₂ K.sum at_i rest)
        ∙ sum_moved K (brought K p u s b) (brought K p u s i) K.nonzero _
        ∙ sym (gathered_two K p u s pick p.row b i lb li differ pb pi)

    two_parity : (s c : ℕ) → parity K p two_changed s c ≡ parity K p u s c
    two_parity s c = elim (cases_eq s (j + lag p b)) [
      | inr n ↦ gathered_same K p two_changed u s (in_column p c) p.row (λ x _ _. two_back s x (λ e _. n e) (λ e _. n e))
      | inl e ↦ elim (cases_eq (column p b) c) [
        | inl f ↦ rw (e, ← f) two_parity_here
        | inr n ↦ gathered_same K p two_changed u s (in_column p c) p.row (λ x _ w.
            let col : column p x ≡ c = eqb-true (column p x) c w in
            two_back s x (λ _ g. n (sym (ap (column p) g) ∙ col)) (λ _ g. n (sym same ∙ sym (ap (column p) g) ∙ col)))
      ]
    ]

    two_packet : (s : ℕ) → s ≢ j → s ≢ j' → packet K p two_changed s ≡ packet K p u s
    two_packet s nj nj' =
        packet_same K p u two_changed s
        (λ x. put_there (one_changed K p u j b) j' i _ s x (λ e _. nj' e) ∙ put_there u j b _ s x (λ e _. nj e))
        (two_parity s)

pub undetermined : {S : Type 0} (K : Kind S) (p : Sheet) (u : ℕ → ℕ → S) (arrived : ℕ → Bool) (j b : ℕ) → b < p.row → mark p arrived j b ≡ Lost → (v : ℕ → ℕ → S) × (v j b ≢ u j b) × ((s : ℕ) → (j + T p < s) ⊎ (arrived s ≡ true) → packet K p v s ≡ packet K p u s)
undetermined K p u arrived j b below marked =
    let l : Losing p arrived j b = lost p arrived j b marked in
    let d : lag p b ≤ T p = lag_below p b below in
    elim l.why [
      | inl w ↦ (
        one_changed K p u j b,
        one_differs K p u j b,
        λ s ok.
            one_packet K p u j b s (kept arrived (j + T p) j s (omega arith) l.own ok) (kept arrived (j + T p) (j + lag p b) s (omega arith) w ok),
      )
      | inr w ↦
          let c = w.1 in
          let i = w.0 in
          let a : lag p i ≤ j + lag p b = c.row.after in
          let j' : ℕ = (j + lag p b) - lag p i in
          let meet : j' + lag p i ≡ j + lag p b = omega arith in (
            two_changed K p u j b j' i c.another c.same_column meet,
            two_differs K p u j b j' i c.another c.same_column meet,
            λ s ok.
                two_packet K p u j b j' i c.another c.same_column meet below c.below s
                (kept arrived (j + T p) j s (omega arith) l.own ok)
                (kept arrived (j + T p) j' s (omega arith) c.row.missing ok),
          )
    ]
