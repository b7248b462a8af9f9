-- A kind of symbol: its operations and their laws, on which everything above rests. Assumes nothing.
use Rattle.std.specs.Prelude.{◌≡◌, ◌≢◌, List, [], ◌∷◌}

pub record Kind (S : Type 0) : Type 0 where
  pub zero : S
  pub sum : S → S → S
  pub difference : S → S → S
  pub nonzero : S
  pub sum_assoc : (a b c : S) → sum (sum a b) c ≡ sum a (sum b c)
  pub sum_comm : (a b : S) → sum a b ≡ sum b a
  pub sum_zero : (a : S) → sum a zero ≡ a
  pub difference_sum : (a b : S) → sum (difference a b) b ≡ a
  pub nonzero_apart : nonzero ≢ zero

-- the sum of a list of symbols; of none, zero
abbrev pub total : {S : Type 0} → Kind S → List S → S
total K [] = K.zero
total K (x ∷ xs) = K.sum x (total K xs)
