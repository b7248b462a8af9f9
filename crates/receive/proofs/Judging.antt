-- The verdict on a row, by counting its marks and looking for the first lost one. Assumes nothing.
use Rattle.std.proofs.Common.{◌≡◌, ℕ, ◌+◌, ◌<◌, ◌≤◌, Bool, true, false, cond, ltb, List, [], ◌∷◌, length, get_or, take, Option, unwrap_or, sym, refl, ap, ◌∙◌, ap₂, inl, inr, arith}
use Rattle.std.specs.List.{count_by, position, position_or_len}
use Rattle.std.proofs.lemmas.Bool.{cases_Bool, cond-true, cond-false, lt-ltb, le-ltb}
use Rattle.std.proofs.lemmas.List.{take_all}
use Rattle.std.proofs.lemmas.List.Sums.{count_by_more_yes, count_by_more_no}
use Rattle.std.proofs.lemmas.List.Recursion.{is_count_by, is_position_or_len}
use Rattle.code.specs.declared.mark.Mark.{Mark}
use Rattle.receive.specs.declared.due.Verdict.{Verdict}
use Rattle.receive.specs.Handing.{count, first, verdict, is_mended, is_lost}

module _ {X : Type 0} (test : X → Bool) where
  one_or : (b : Bool) (m : ℕ) → cond b 1 0 + m ≡ cond b (1 + m) m
  one_or true m = refl
  one_or false m = omega arith

  counted_by : (xs : List X) → count test xs ≡ count_by test xs
  counted_by = is_count_by (count test) test refl (λ x xs. one_or (test x) (count test xs))

  -- a count of all members, and of one member more
  counted_all : (xs : List X) (i n : ℕ) → length xs ≤ i → n ≡ count_by test (take i xs) → n ≡ count test xs
  counted_all xs i n past was = was ∙ ap (count_by test) (take_all i xs past) ∙ sym (counted_by xs)

  pub counted_more : (xs : List X) (i : ℕ) (d : X) (n more : ℕ) → i < length xs → n ≡ count_by test (take i xs) → more ≡ cond (test (get_or xs i d)) 1 0 → n + more ≡ count_by test (take (i + 1) xs)
  counted_more xs i d n more within was is = elim (cases_Bool (test (get_or xs i d))) [
    | inl e ↦ ap₂ ◌+◌ was (is ∙ ap (λ b. cond b 1 0) e) ∙ sym (count_by_more_yes test xs i d within e)
    | inr e ↦ ap₂ ◌+◌ was (is ∙ ap (λ b. cond b 1 0) e) ∙ (let z : count_by test (take i xs) + 0 ≡ count_by test (take i xs) = omega arith in z) ∙ sym (count_by_more_no test xs i d within e)
  ]

  pub first_at : (xs : List X) → first test xs ≡ position_or_len test xs
  first_at = is_position_or_len (first test) test refl (λ x xs. refl)

  -- where one is picked, the first one stands within the list
  picked_within : (xs : List X) → 0 < count test xs → first test xs < length xs
  picked_within [] some = absurd (omega arith)
  picked_within (x ∷ xs) some = elim (cases_Bool (test x)) [
    | inl e ↦ let now : cond (test x) 0 (1 + first test xs) ≡ 0 = cond-true (test x) 0 (1 + first test xs) e in omega arith
    | inr e ↦
        let later : cond (test x) 0 (1 + first test xs) ≡ 1 + first test xs = cond-false (test x) 0 (1 + first test xs) e in
        let none : cond {A = ℕ} (test x) 1 0 ≡ 0 = cond-false (test x) 1 0 e in
        omega (arith, picked_within xs (omega arith))
  ]

  pub place_is : (xs : List X) → 0 < count test xs → (o : Option ℕ) → o ≡ position test xs → unwrap_or o 0 ≡ first test xs
  place_is xs some o at =
      let within : position_or_len test xs < length xs = omega (arith, picked_within xs some, first_at xs) in
      ap (λ p. unwrap_or p 0) (at ∙ cond-true _ _ _ (lt-ltb _ _ within)) ∙ sym (first_at xs)

-- after a loop over all marks, which counted m that are mended and l that are lost
module _ (marks : List Mark) (past m l : ℕ) (all : length marks ≤ past) (has : m ≡ count_by is_mended (take past marks)) (lacks : l ≡ count_by is_lost (take past marks)) where
  mended : m ≡ count is_mended marks
  mended = counted_all is_mended marks past m all has

  lost : l ≡ count is_lost marks
  lost = counted_all is_lost marks past l all lacks

  pub lost_verdict : (i : ℕ) (o : Option ℕ) → 0 < l → o ≡ position is_lost marks → i ≡ unwrap_or o 0 → Verdict.Lost m l i ≡ verdict marks
  lost_verdict i o some at is =
      let picked : 0 < count is_lost marks = omega (arith, lost) in
      ap₂ (λ a b. Verdict.Lost a b i) mended lost
      ∙ ap (Verdict.Lost (count is_mended marks) (count is_lost marks)) (is ∙ place_is is_lost marks picked o at)
      ∙ sym (cond-true _ _ _ (lt-ltb 0 (count is_lost marks) picked))

  module _ (none : l ≤ 0) where
    nothing : ltb 0 (count is_lost marks) ≡ false
    nothing = le-ltb 0 (count is_lost marks) (omega (arith, lost))

    pub mended_verdict : 0 < m → Verdict.Mended m ≡ verdict marks
    mended_verdict some =
        ap Verdict.Mended mended
        ∙ sym (cond-false _ _ _ nothing ∙ cond-true _ _ _ (lt-ltb 0 (count is_mended marks) (omega (arith, mended))))

    pub whole_verdict : m ≤ 0 → Verdict.Whole ≡ verdict marks
    whole_verdict zeros = sym (cond-false _ _ _ nothing ∙ cond-false _ _ _ (le-ltb 0 (count is_mended marks) (omega (arith, mended))))
