-- Where the lines of a text are cut. Assumes nothing.
use Rattle.std.proofs.Common.{◌≡◌, ℕ, zero, suc, ◌+◌, ◌<◌, false, eqb, List, [], ◌∷◌, ◌++◌, length, get_or, take, drop, Some, None, Option, true, sym, refl, ap, ◌∙◌, subst, inl, inr, add-one, arith}
use Rattle.std.specs.Option.{option_map}
use Rattle.std.proofs.lemmas.List.{append-nil, append_assoc, length-append}
use Rattle.std.proofs.lemmas.Bool.{cases_Bool, cond-true, cond-false, eqb-true}
use Rattle.memchr.specs.Find.{IsFirstByte, is_byte}
use Rattle.stream.specs.Lines.{lines_after, line_length, Unended}

-- No byte 10 stands in it ..
none_is : (xs : List ℕ) → ((k : ℕ) → k < length xs → eqb (get_or xs k 0) 10 ≡ true → ⊥) → line_length xs ≡ None
none_is [] none = refl
none_is (c ∷ cs) none = elim (cases_Bool (eqb c 10)) [
  | inl e ↦ absurd (none 0 (omega arith) e)
  | inr e ↦ cond-false _ _ _ e ∙ ap (option_map (λ n. n + 1)) (none_is cs (λ k l. none (suc k) (omega arith)))
]

-- .. or the first stands at n.
some_is : (xs : List ℕ) (n : ℕ) → n < length xs → ((k : ℕ) → k < n → eqb (get_or xs k 0) 10 ≡ true → ⊥) → eqb (get_or xs n 0) 10 ≡ true →
    line_length xs ≡ Some n
some_is [] n l before here = absurd (omega arith)
some_is (c ∷ cs) zero l before here = cond-true _ _ _ here
some_is (c ∷ cs) (suc n) l before here = elim (cases_Bool (eqb c 10)) [
  | inl e ↦ absurd (before 0 (omega arith) e)
  | inr e ↦
      cond-false _ _ _ e
      ∙ (ap (option_map (λ m. m + 1)) (some_is cs n (omega arith) (λ k h. before (suc k) (omega arith)) here) ∙ ap Some (add-one n))
]

pub first_is : (xs : List ℕ) (o : Option ℕ) → IsFirstByte (is_byte 10) xs o → o ≡ line_length xs
first_is xs None h = sym (none_is xs (λ k l. h k (omega arith) l))
first_is xs (Some n) h = sym (some_is xs n h.0.high (λ k l. h.0.before k (omega arith) l) h.1)

some_none : (n : ℕ) → ◌≡◌ {A = Option ℕ} (Some n) None → ⊥
some_none n e = let z : ◌≡◌ {A = ℕ} 0 1 = cc in omega arith

cc_some : (m n : ℕ) → ◌≡◌ {A = Option ℕ} (Some m) (Some n) → m ≡ n
cc_some m n e = cc

unmapped : (o : Option ℕ) → option_map (λ n. n + 1) o ≡ None → o ≡ None
unmapped None e = refl
unmapped (Some n) e = absurd (some_none (n + 1) e)

-- a part without byte 10 goes on the line that is held
pub goes_on : (piece held more : List ℕ) → Unended piece → lines_after held (piece ++ more) ≡ lines_after (held ++ piece) more
goes_on [] held more unbroken = ap (λ h. lines_after h more) (sym (append-nil held))
goes_on (c ∷ cs) held more unbroken = elim (cases_Bool (eqb c 10)) [
  | inl e ↦ absurd (some_none 0 (sym (cond-true _ _ _ e) ∙ unbroken))
  | inr e ↦
      cond-false _ _ _ e ∙ goes_on cs (held ++ (c ∷ [])) more (unmapped (line_length cs) (sym (cond-false _ _ _ e) ∙ unbroken))
      ∙ ap (λ h. lines_after h more) (append_assoc held (c ∷ []) cs)
]

-- .. and byte 10 ends it
pub ends_line : (piece held more : List ℕ) → Unended piece → lines_after held (piece ++ (10 ∷ more)) ≡ (held ++ piece) ∷ lines_after [] more
ends_line piece held more unbroken = goes_on piece held (10 ∷ more) unbroken

-- what is held begins the first line
pub first_line : (begun more : List ℕ) → 0 < length begun → (rest : List ℕ) × (lines : List (List ℕ)) × (lines_after begun more ≡ (begun ++ rest) ∷ lines)
first_line [] [] some = absurd (omega arith)
first_line (b ∷ bs) [] some = ([], [], ap (λ l. l ∷ []) (sym (append-nil (b ∷ bs))))
first_line begun (c ∷ cs) some = elim (cases_Bool (eqb c 10)) [
  | inl e ↦ ([], lines_after [] cs, cond-true _ _ _ e ∙ ap (λ l. l ∷ lines_after [] cs) (sym (append-nil begun)))
  | inr e ↦
      let longer : 0 < length (begun ++ (c ∷ [])) = omega (arith, length-append begun (c ∷ [])) in
      let later = first_line (begun ++ (c ∷ [])) cs longer in
      (c ∷ later.0, later.1, cond-false _ _ _ e ∙ later.2 ∙ ap (λ l. l ∷ later.1) (append_assoc begun (c ∷ []) later.0))
]

-- a text with byte 10, cut at the first
pub record Cut (text : List ℕ) (n : ℕ) : Type 0 where
  pub within : n < length text
  pub unended : Unended (take n text)
  pub is : text ≡ take n text ++ (10 ∷ drop (suc n) text)

cut_here : (c : ℕ) (cs : List ℕ) (n : ℕ) → c ≡ 10 → 0 ≡ n → Cut (c ∷ cs) n
cut_here c cs n is z = subst (Cut (c ∷ cs)) z (record { within = omega arith; unended = refl; is = ap (λ x. x ∷ cs) is })

cut_past : (c : ℕ) (cs : List ℕ) (m : ℕ) → eqb c 10 ≡ false → Cut cs m → Cut (c ∷ cs) (suc m)
cut_past c cs m ne x = record {
  within = omega (arith, x.within);
  unended = cond-false _ _ _ ne ∙ ap (option_map (λ n. n + 1)) x.unended;
  is = ap (λ l. c ∷ l) x.is;
}

one_less : (o : Option ℕ) (n : ℕ) → option_map (λ m. m + 1) o ≡ Some n → (m : ℕ) × (o ≡ Some m) × (n ≡ suc m)
one_less None n e = absurd (some_none n (sym e))
one_less (Some m) n e = (m, refl, sym (cc_some (m + 1) n e) ∙ add-one m)

pub cut : (text : List ℕ) (n : ℕ) → line_length text ≡ Some n → Cut text n
cut [] n is = absurd (some_none n (sym is))
cut (c ∷ cs) n is = elim (cases_Bool (eqb c 10)) [
  | inl e ↦ cut_here c cs n (eqb-true c 10 e) (cc_some 0 n (sym (cond-true _ _ _ e) ∙ is))
  | inr e ↦
      let m = one_less (line_length cs) n (sym (cond-false _ _ _ e) ∙ is) in
      subst (Cut (c ∷ cs)) (sym m.2) (cut_past c cs m.0 e (cut cs m.0 m.1))
]

-- what is held is the last line
pub last_some : (l : List ℕ) → 0 < length l → lines_after l [] ≡ l ∷ []
last_some [] some = absurd (omega arith)
last_some (c ∷ cs) some = refl

-- two parts without byte 10
pub both_unended : (xs ys : List ℕ) → Unended xs → Unended ys → Unended (xs ++ ys)
both_unended [] ys u v = v
both_unended (c ∷ cs) ys u v = elim (cases_Bool (eqb c 10)) [
  | inl e ↦ absurd (some_none 0 (sym (cond-true _ _ _ e) ∙ u))
  | inr e ↦ cond-false _ _ _ e ∙ ap (option_map (λ n. n + 1)) (both_unended cs ys (unmapped (line_length cs) (sym (cond-false _ _ _ e) ∙ u)) v)
]
