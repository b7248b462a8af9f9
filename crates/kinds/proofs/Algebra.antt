-- What the laws of a kind give. Assumes nothing.
use Rattle.std.proofs.Common.{◌≡◌, ◌≢◌, sym, ap, ◌∙◌}
use Rattle.kinds.specs.Kind.{Kind}

module _ {S : Type 0} (K : Kind S) where
  -- o and what undoes it
  undone : (x o : S) → K.sum (K.sum x o) (K.difference K.zero o) ≡ x
  undone x o = K.sum_assoc x o _ ∙ ap (K.sum x) (K.sum_comm o _ ∙ K.difference_sum K.zero o) ∙ K.sum_zero x

  pub sum_cancel : (x y o : S) → K.sum x o ≡ K.sum y o → x ≡ y
  sum_cancel x y o e = sym (undone x o) ∙ ap (λ a. K.sum a (K.difference K.zero o)) e ∙ undone y o

  pub sum_difference : (x o : S) → K.difference (K.sum x o) o ≡ x
  sum_difference x o = sum_cancel _ x o (K.difference_sum (K.sum x o) o)

  pub zero-sum : (x : S) → K.sum K.zero x ≡ x
  zero-sum x = K.sum_comm _ x ∙ K.sum_zero x

  -- what adds nothing is zero
  adds_nothing : (x d : S) → K.sum x d ≡ x → d ≡ K.zero
  adds_nothing x d e = sum_cancel d K.zero x (K.sum_comm d x ∙ e ∙ sym (zero-sum x))

  pub nonzero_moves : (x : S) → K.sum x K.nonzero ≢ x
  nonzero_moves x e = K.nonzero_apart (adds_nothing x K.nonzero e)

  pub sum_swap : (a b c : S) → K.sum a (K.sum b c) ≡ K.sum b (K.sum a c)
  sum_swap a b c = sym (K.sum_assoc a b c) ∙ ap (λ x. K.sum x c) (K.sum_comm a b) ∙ K.sum_assoc b a c

  -- what is added to one and taken from another leaves the sum
  pub sum_moved : (a b d rest : S) → K.sum (K.sum a d) (K.sum (K.difference b d) rest) ≡ K.sum a (K.sum b rest)
  sum_moved a b d rest =
      K.sum_assoc a d _
      ∙ ap (K.sum a) (sym (K.sum_assoc d (K.difference b d) rest) ∙ ap (λ x. K.sum x rest) (K.sum_comm d _ ∙ K.difference_sum b d))
