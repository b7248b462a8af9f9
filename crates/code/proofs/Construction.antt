-- The packets are those of the published construction. Assumes nothing.
use Rattle.std.proofs.Common.{◌≡◌, ℕ, zero, suc, ◌+◌, ◌<◌, Bool, cond, ◌&&◌, eqb, sym, refl, ap, ◌∙◌, ap₂, inl, inr, arith}
use Rattle.std.proofs.lemmas.Bool.{cases_Bool, cond-true, cond-false, eq-eqb, ne_eqb, and_left}
use Rattle.std.proofs.lemmas.Bool.Decides.{nat_tests}
use Rattle.kinds.specs.Kind.{Kind}
use Rattle.code.specs.declared.sheet.Sheet.{Sheet}
use Rattle.code.specs.Sheets.{T, lag, column}
use Rattle.code.specs.Packets.{Rows, brought, parity, in_column}
use Rattle.code.specs.Published.{published, sum_below, times, earlier, AsPublished}
use Rattle.code.proofs.Numbers.{lag_below}
use Rattle.code.proofs.Carrying.{gathered, gathered_taken, gathered_left}
use Rattle.code.proofs.Entries.{entries}
use Rattle.code.proofs.Sums.{sum_more, sum_same, sum_one, sum-turned}

either_way : (x y : ℕ) → eqb x y ≡ eqb y x
either_way x y = grind (arith, nat_tests)

module _ {S : Type 0} (K : Kind S) (p : Sheet) (rows : Rows S) (t : ℕ) where
  -- what a slot carries, with a zero for each symbol that it does not pick
  gathered_sum : (picks : ℕ → Bool) (m : ℕ) → gathered K p rows t picks m ≡ sum_below K m (λ b. cond (picks b) (brought K p rows t b) K.zero)
  gathered_sum picks zero = refl
  gathered_sum picks (suc m) =
      let f : ℕ → S = λ b. cond (picks b) (brought K p rows t b) K.zero in
      elim (cases_Bool (picks m)) [
        | inl e ↦
            gathered_taken K p rows t picks m e ∙ K.sum_comm _ _
            ∙ ap₂ K.sum (gathered_sum picks m) (sym (cond-true (picks m) _ _ e)) ∙ sym (sum_more K m f)
        | inr e ↦
            gathered_left K p rows t picks m e ∙ sym (K.sum_zero _)
            ∙ ap₂ K.sum (gathered_sum picks m) (sym (cond-false (picks m) _ _ e)) ∙ sym (sum_more K m f)
      ]

  -- of all delays only a symbol's lag counts
  one_delay : (b c : ℕ) → b < p.row → cond (in_column p c b) (brought K p rows t b) K.zero ≡ sum_below K (T p + 1) (λ d. cond (published p d b c) (earlier K rows t d b) K.zero)
  one_delay b c below =
      let term : ℕ → S = λ d. cond (published p d b c) (earlier K rows t d b) K.zero in
      let own : published p (lag p b) b c ≡ in_column p c b =
      entries p b c below (lag p b) ∙ ap₂ ◌&&◌ (eq-eqb (lag p b) (lag p b) refl) (either_way c (column p b)) in
      sym (sum_one K (T p + 1) (lag p b) term (omega (arith, lag_below p b below)) (λ d l n.
      cond-false _ _ _ (entries p b c below d ∙ and_left (eqb d (lag p b)) (eqb c (column p b)) (ne_eqb d (lag p b) n)))
      ∙ ap (λ x. cond x (earlier K rows t (lag p b) b) K.zero) own)

  parities : (c : ℕ) → parity K p rows t c ≡ sum_below K (T p + 1) (λ d. times K p.row (earlier K rows t d) (published p d) c)
  parities c =
      gathered_sum (in_column p c) p.row ∙ sum_same K p.row _ _ (λ b l. one_delay b c l)
      ∙ sum-turned K p.row (T p + 1) (λ b d. cond (published p d b c) (earlier K rows t d b) K.zero)

pub as_published : {S : Type 0} (K : Kind S) (p : Sheet) → AsPublished K p
as_published K p = record {
  entries = λ d b c below. entries p b c below d;
  parities = parities K p;
}
