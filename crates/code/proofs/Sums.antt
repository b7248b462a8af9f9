-- Sums over the numbers below a bound. Assumes nothing.
use Rattle.std.proofs.Common.{◌≡◌, ℕ, zero, suc, ◌<◌, List, [], ◌∷◌, ◌++◌, map, sym, refl, ap, ◌∙◌, ap₂, inl, inr, add-one, arith}
use Rattle.std.specs.List.{range_with_len}
use Rattle.std.proofs.lemmas.List.FromFn.{map-range_with_len_more}
use Rattle.std.proofs.lemmas.Bool.{cases_eq}
use Rattle.kinds.specs.Kind.{Kind, total}
use Rattle.kinds.proofs.Algebra.{zero-sum, sum_swap}
use Rattle.code.specs.Published.{sum_below}

module _ {S : Type 0} (K : Kind S) where
  total-append : (xs ys : List S) → total K (xs ++ ys) ≡ K.sum (total K xs) (total K ys)
  total-append [] ys = sym (zero-sum K (total K ys))
  total-append (x ∷ xs) ys = ap (K.sum x) (total-append xs ys) ∙ sym (K.sum_assoc x (total K xs) (total K ys))

  pub sum_more : (n : ℕ) (f : ℕ → S) → sum_below K (suc n) f ≡ K.sum (sum_below K n f) (f n)
  sum_more n f =
      let longer : map f (range_with_len 0 (suc n)) ≡ map f (range_with_len 0 n) ++ (f n ∷ []) = ap (λ x. map f (range_with_len 0 x)) (sym (add-one n)) ∙ map-range_with_len_more f 0 n n (omega arith) in
      ap (total K) longer ∙ total-append (map f (range_with_len 0 n)) (f n ∷ []) ∙ ap (K.sum (sum_below K n f)) (K.sum_zero (f n))

  pub sum_same : (n : ℕ) (f g : ℕ → S) → ((i : ℕ) → i < n → f i ≡ g i) → sum_below K n f ≡ sum_below K n g
  sum_same zero f g h = refl
  sum_same (suc n) f g h =
      sum_more n f ∙ ap₂ K.sum (sum_same n f g (λ i l. h i (omega arith))) (h n (omega arith)) ∙ sym (sum_more n g)

  pub sum_none : (n : ℕ) (f : ℕ → S) → ((i : ℕ) → i < n → f i ≡ K.zero) → sum_below K n f ≡ K.zero
  sum_none zero f h = refl
  sum_none (suc n) f h =
      sum_more n f ∙ ap₂ K.sum (sum_none n f (λ i l. h i (omega arith))) (h n (omega arith)) ∙ K.sum_zero K.zero

  -- only one counts
  pub sum_one : (n a : ℕ) (f : ℕ → S) → a < n → ((i : ℕ) → i < n → (i ≡ a → ⊥) → f i ≡ K.zero) → sum_below K n f ≡ f a
  sum_one zero a f l h = absurd (omega arith)
  sum_one (suc n) a f l h = elim (cases_eq n a) [
    | inl w ↦
        sum_more n f ∙ ap (λ x. K.sum x (f n)) (sum_none n f (λ i k. h i (omega arith) (omega arith))) ∙ zero-sum K (f n) ∙ ap f w
    | inr w ↦
        sum_more n f ∙ ap₂ K.sum (sum_one n a f (omega arith) (λ i k. h i (omega arith))) (h n (omega arith) w) ∙ K.sum_zero (f a)
  ]

  -- two sums at once
  pub sum_both : (n : ℕ) (f g : ℕ → S) → sum_below K n (λ i. K.sum (f i) (g i)) ≡ K.sum (sum_below K n f) (sum_below K n g)
  sum_both zero f g = sym (K.sum_zero K.zero)
  sum_both (suc n) f g =
      let a = sum_below K n f in
      let b = sum_below K n g in
      sum_more n (λ i. K.sum (f i) (g i)) ∙ ap (λ x. K.sum x (K.sum (f n) (g n))) (sum_both n f g)
      ∙ K.sum_assoc a b (K.sum (f n) (g n)) ∙ ap (K.sum a) (sum_swap K b (f n) (g n)) ∙ sym (K.sum_assoc a (f n) (K.sum b (g n)))
      ∙ sym (ap₂ K.sum (sum_more n f) (sum_more n g))

  -- the order of two sums
  pub sum-turned : (m n : ℕ) (f : ℕ → ℕ → S) → sum_below K m (λ i. sum_below K n (f i)) ≡ sum_below K n (λ j. sum_below K m (λ i. f i j))
  sum-turned zero n f = sym (sum_none n (λ j. K.zero) (λ j l. refl))
  sum-turned (suc m) n f =
      sum_more m (λ i. sum_below K n (f i)) ∙ ap (λ x. K.sum x (sum_below K n (f m))) (sum-turned m n f)
      ∙ sym (sum_both n (λ j. sum_below K m (λ i. f i j)) (f m))
      ∙ sum_same n _ _ (λ j l. sym (sum_more m (λ i. f i j)))
