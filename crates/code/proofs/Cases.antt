-- The worked cases. Assumes nothing.
use Rattle.std.proofs.Common.{◌≡◌, ℕ, ◌/◌, ◌%◌, ◌≤◌, true, eqb, ◌⊎◌, List, [], ◌∷◌, refl, inl, inr, arith, lit<}
use Rattle.std.proofs.lemmas.Bool.{or_cases, eqb-true, not-false, false≢true}
use Rattle.kinds.specs.Bytes.{byte_path}
use Rattle.code.specs.Bursts.{Missed, Bursts}
use Rattle.code.specs.Worked.{Worked, Q, among, two_bursts}

-- s is one of the list
abbrev OneOf : List ℕ → ℕ → Type 0
OneOf [] s = ⊥
OneOf (x ∷ xs) s = (s ≡ x) ⊎ OneOf xs s

one_of : (xs : List ℕ) (s : ℕ) → among xs s ≡ true → OneOf xs s
one_of [] s e = absurd (false≢true e)
one_of (x ∷ xs) s e = elim (or_cases (eqb s x) (among xs s) e) [
  | inl f ↦ inl (eqb-true s x f)
  | inr f ↦ inr (one_of xs s f)
]

-- each burst is at the front of its nine slots
at_front : (s : ℕ) → Missed two_bursts 18 s → s % 9 ≤ 2
at_front s m =
    let one : OneOf (0 ∷ 1 ∷ 2 ∷ 9 ∷ 10 ∷ 11 ∷ []) s = one_of (0 ∷ 1 ∷ 2 ∷ 9 ∷ 10 ∷ 11 ∷ []) s (not-false _ m.miss) in
    omega arith

two_bursts_are : Bursts Q (Missed two_bursts 18) (λ s. s / 9)
two_bursts_are = record {
  short = λ a b ma mb e. omega (arith, at_front a ma, at_front b mb);
  clear = λ a b l s ma mb n o last low high ms.
      let first : 2 / 9 ≡ a / 9 = omega (arith, ma.taken, mb.taken) in
      let two : 2 ≤ l = last.none_later 2 (record { taken = lit< tt; miss = refl }) first in
      omega (arith, last.is_of, at_front l last.miss, at_front s ms);
}

pub worked : Worked
worked = record {
  packets = refl;
  burst_0 = (refl, refl);
  burst_1 = (refl, refl);
  burst_2 = (refl, refl);
  burst_due = refl;
  three_apart_0 = (refl, refl);
  three_apart_3 = (refl, refl);
  six_apart_0 = (refl, refl);
  seven_apart_0 = (refl, refl);
  seven_apart_7 = (refl, refl);
  byte_sum = byte_path _ _ refl;
  byte_difference = byte_path _ _ refl;
  short_column = refl;
  odd_place = (refl, refl);
  longest = (refl, refl);
  too_long = (refl, refl, refl);
  bursts = two_bursts_are;
}
