-- What is not marked lost is what was sent. Assumes nothing.
use Rattle.std.proofs.Common.{◌≡◌, ℕ, ◌+◌, ◌<◌, ◌≤◌, true, ◌≢◌, sym, refl, ap, ◌∙◌, ap₂, inl, inr, arith}
use Rattle.std.proofs.lemmas.Bool.{cases_Bool, cond-true, cond-false, and_parts, eq-eqb}
use Rattle.kinds.specs.Kind.{Kind}
use Rattle.code.specs.declared.mark.Mark.TheVariants.{Lost}
use Rattle.code.specs.declared.sheet.Sheet.{Sheet}
use Rattle.code.specs.Sheets.{T, lag, column}
use Rattle.code.specs.Packets.{in_column}
use Rattle.code.specs.Mending.{History, heard, got, all_known, beside, mends, mended, mark, given}
use Rattle.code.specs.Theory.{Holds}
use Rattle.kinds.proofs.Algebra.{sum_difference}
use Rattle.code.proofs.Numbers.{column_below, lag_below}
use Rattle.code.proofs.Carrying.{gathered, gathered_same, gathered_apart, brought_own}
use Rattle.code.proofs.Arrivals.{packet_row, packet_parity, got_sent, known_sent, each_known}

module _ {S : Type 0} (K : Kind S) (p : Sheet) (u : ℕ → ℕ → S) where
  module _ (h : History S) (j b : ℕ) (below : b < p.row) (holds : Holds K p u h (j + T p)) where
    mended_sound : mends p (heard h) j b ≡ true → mended K p h j b ≡ u j b
    mended_sound m =
        let s : ℕ = j + lag p b in
        let l : s ≤ j + T p = omega (arith, lag_below p b below) in
        let parts = and_parts (heard h s) (all_known p (heard h) s (beside p b) p.row) m in
        let o : S = gathered K p u s (beside p b) p.row in
        let parity_is : got K h s (p.row + column p b) ≡ K.sum (u j b) o =
        got_sent K p u h (j + T p) s (p.row + column p b) holds l parts.0
        ∙ packet_parity K p u s (column p b) K.zero (column_below p b below)
        ∙ gathered_apart K p u s (in_column p (column p b)) p.row b below (eq-eqb (column p b) (column p b) refl)
        ∙ ap (λ x. K.sum x o) (brought_own K p u j b) in
        let others-are : gathered K p (got K h) s (beside p b) p.row ≡ o =
        gathered_same K p (got K h) u s (beside p b) p.row (λ i w e. known_sent K p u h (j + T p) s i holds l w (each_known p (heard h) s (beside p b) p.row i parts.1 w e)) in
        ap₂ K.difference parity_is others-are ∙ sum_difference K (u j b) o

    pub given_sound : mark p (heard h) j b ≢ Lost → given K p h j b ≡ u j b
    given_sound n = elim (cases_Bool (heard h j)) [
      | inl a ↦ cond-true _ _ _ a ∙ got_sent K p u h (j + T p) j b holds (omega arith) a ∙ packet_row K p u j b K.zero below
      | inr a ↦ elim (cases_Bool (mends p (heard h) j b)) [
        | inl m ↦ cond-false _ _ _ a ∙ cond-true _ _ _ m ∙ mended_sound m
        | inr m ↦ absurd (n (cond-false _ _ _ a ∙ cond-false _ _ _ m))
      ]
    ]

pub determined : {S : Type 0} (K : Kind S) (p : Sheet) (u v : ℕ → ℕ → S) (h : History S) (j b : ℕ) → b < p.row → Holds K p u h (j + T p) → Holds K p v h (j + T p) → mark p (heard h) j b ≢ Lost → v j b ≡ u j b
determined K p u v h j b below hu hv n = sym (given_sound K p v h j b below hv n) ∙ given_sound K p u h j b below hu n
