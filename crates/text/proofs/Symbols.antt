-- Symbols that are read one after another.
use Rattle.std.proofs.Common.{◌≡◌, ℕ, zero, suc, ◌+◌, ◌-◌, ◌*◌, ◌<◌, ◌≤◌, List, [], ◌∷◌, ◌++◌, length, take, drop, set, Ok, Err, Result, sym, refl, ap, ◌∙◌, arith}
use Rattle.std.proofs.lemmas.List.{append-nil, append_assoc, take_more_set, take_all}
use Rattle.kinds.specs.Form.{Form}
use Rattle.lines.specs.declared.field.FieldFault.{FieldFault}
use Rattle.lines.specs.Symbols.{symbol_read}
use Rattle.lines.proofs.Rooms.{times_more}
use Rattle.text.specs.Reading.{and_then, symbols_read, told}

-- symbols before those that are read
abbrev pub after : {X E : Type 0} → List X → Result (List X) E → Result (List X) E
after xs (Ok ys) = Ok (xs ++ ys)
after xs (Err e) = Err e

-- one symbol before those that are read
abbrev before : {X E : Type 0} → Result X E → Result (List X) E → Result (List X) E
before r rest = and_then r (λ x. and_then rest (λ xs. Ok (x ∷ xs)))

after_one : {X E : Type 0} (xs : List X) (x : X) (rest : Result (List X) E) →
    after xs (and_then rest (λ ys. Ok (x ∷ ys))) ≡ after (xs ++ (x ∷ [])) rest
after_one xs x (Ok ys) = ap Ok (sym (append_assoc xs (x ∷ []) ys))
after_one xs x (Err e) = refl

told_one : {X E : Type 0} (x : X) (rest : Result (List X) E) → told (and_then rest (λ ys. Ok (x ∷ ys))) ≡ told rest
told_one x (Ok ys) = refl
told_one x (Err e) = refl

-- the widths of the fields that are left, and of one field more
pub fields_left : (count i w : ℕ) → i < count → (count - i) * w ≡ (count - (i + 1)) * w + w
fields_left count i w h =
    let e : count - i ≡ count - (i + 1) + 1 = omega arith in
    ap (λ x. x * w) e ∙ times_more (count - (i + 1)) w

module _ {S : Type 0} (F : Form S) where
  abbrev width : ℕ
  width = F.layout.width

  one_more : (at count : ℕ) (fields : List ℕ) → 0 < count →
      symbols_read F at count fields
      ≡ before (symbol_read F at (take width fields)) (symbols_read F (at + width) (count - 1) (drop width fields))
  one_more at zero fields h = absurd (omega arith)
  one_more at (suc count) fields h =
      let e : count ≡ suc count - 1 = omega arith in
      ap (λ k. before (symbol_read F at (take width fields)) (symbols_read F (at + width) k (drop width fields))) e

  -- a turn reads the first of the fields that are left
  module _ (at next count i : ℕ) (fields rest : List ℕ) (r : Result S FieldFault) (h : i < count)
      (reads : r ≡ symbol_read F at (take F.layout.width fields))
      (behind : next ≡ at + F.layout.width) (left : rest ≡ drop F.layout.width fields)
    where
      turn : symbols_read F at (count - i) fields ≡ before r (symbols_read F next (count - (i + 1)) rest)
      turn =
          let k : 0 < count - i = omega arith in
          let q : count - i - 1 ≡ count - (i + 1) = omega arith in
          one_more at (count - i) fields k
          ∙ (ap (λ x. before x (symbols_read F (at + width) (count - i - 1) (drop width fields))) (sym reads)
          ∙ (ap (λ x. before r (symbols_read F (at + width) x (drop width fields))) q
          ∙ (ap (λ x. before r (symbols_read F x (count - (i + 1)) (drop width fields))) (sym behind)
          ∙ ap (λ x. before r (symbols_read F next (count - (i + 1)) x)) (sym left))))

      turned : (o : Result S FieldFault) → r ≡ o →
          symbols_read F at (count - i) fields ≡ before o (symbols_read F next (count - (i + 1)) rest)
      turned o is = turn ∙ ap (λ x. before x (symbols_read F next (count - (i + 1)) rest)) is

      -- a bad field ends the reading
      pub refused : (place : List S) (whole : Result (List S) FieldFault) →
          whole ≡ after (take i place) (symbols_read F at (count - i) fields) → (e : FieldFault) → r ≡ Err e → whole ≡ Err e
      refused place whole inv e is = inv ∙ ap (after (take i place)) (turned (Err e) is)

      -- a good one is put into the place
      pub taken : (place : List S) (whole : Result (List S) FieldFault) →
          whole ≡ after (take i place) (symbols_read F at (count - i) fields) → i < length place → (s : S) → r ≡ Ok s →
          whole ≡ after (take (i + 1) (set place i s)) (symbols_read F next (count - (i + 1)) rest)
      taken place whole inv l s is =
          inv ∙ (ap (after (take i place)) (turned (Ok s) is)
          ∙ (after_one (take i place) s (symbols_read F next (count - (i + 1)) rest)
          ∙ ap (λ x. after x (symbols_read F next (count - (i + 1)) rest)) (sym (take_more_set place i s l))))

      -- the same, where the symbols are only checked
      pub check_refused : (whole : Result (List S) FieldFault) → told whole ≡ told (symbols_read F at (count - i) fields) →
          (e : FieldFault) → r ≡ Err e → told whole ≡ Err e
      check_refused whole inv e is = inv ∙ ap told (turned (Err e) is)

      pub check_passed : (whole : Result (List S) FieldFault) → told whole ≡ told (symbols_read F at (count - i) fields) →
          (s : S) → r ≡ Ok s → told whole ≡ told (symbols_read F next (count - (i + 1)) rest)
      check_passed whole inv s is =
          inv ∙ (ap told (turned (Ok s) is) ∙ told_one s (symbols_read F next (count - (i + 1)) rest))

  -- and nothing is left
  pub all_read : (at count i : ℕ) (fields : List ℕ) (place : List S) → count ≤ i → length place ≤ i →
      after (take i place) (symbols_read F at (count - i) fields) ≡ Ok place
  all_read at count i fields place h l =
      let z : count - i ≡ 0 = omega arith in
      ap (λ x. after (take i place) (symbols_read F at x fields)) z
      ∙ ap Ok (append-nil (take i place) ∙ take_all i place l)

  -- as many symbols are read as there are fields
  one_longer : (count : ℕ) (r : Result S FieldFault) (rest : Result (List S) FieldFault) (xs : List S) →
      ((ys : List S) → rest ≡ Ok ys → length ys ≡ count) → before r rest ≡ Ok xs → length xs ≡ suc count
  one_longer count (Err e) rest xs f h = let z : ◌≡◌ {A = ℕ} 0 1 = cc in absurd (omega arith)
  one_longer count (Ok s) (Err e) xs f h = let z : ◌≡◌ {A = ℕ} 0 1 = cc in absurd (omega arith)
  one_longer count (Ok s) (Ok ys) xs f h =
      let e : s ∷ ys ≡ xs = cc in
      sym (ap length e) ∙ ap suc (f ys refl)

  pub length_read : (count at : ℕ) (fields : List ℕ) (xs : List S) → symbols_read F at count fields ≡ Ok xs → length xs ≡ count
  length_read zero at fields xs h = let e : [] ≡ xs = cc in sym (ap length e)
  length_read (suc count) at fields xs h =
      one_longer count (symbol_read F at (take width fields)) (symbols_read F (at + width) count (drop width fields)) xs
      (length_read count (at + width) (drop width fields)) h
