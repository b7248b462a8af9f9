-- What a slot carries beside a block, taken block by block. Assumes nothing.
use Rattle.std.proofs.Common.{◌≡◌, ℕ, zero, suc, ◌+◌, ◌-◌, ◌*◌, ◌/◌, ◌<◌, ◌≤◌, min, max, Bool, true, false, cond, not, ◌&&◌, ◌||◌, eqb, ◌≢◌, List, ◌++◌, map, length, get_or, take, drop, replicate, sym, refl, ap, ◌∙◌, ap₂, inl, inr, div-add-mod', arith}
use native.Mathlib.Nat.{div-eq_of_lt-le}
use Rattle.std.specs.List.{range_with_len}
use Rattle.std.proofs.lemmas.List.{length-append, length-drop, length-take-le, length-replicate, get_or_append_left, get_or-append_right, get_or-drop, get_or-take, get_or-replicate}
use Rattle.std.proofs.lemmas.List.FromFn.{length-map-range_with_len, get_or-map-range_with_len, fill_by_all}
use Rattle.std.proofs.lemmas.Bool.{cases_eq, cases_lt, eq-eqb, ne_eqb, and_left, and_right, le-leb, lt-leb, cond-true, cond-false}
use Rattle.kinds.specs.Kind.{Kind}
use Rattle.kinds.proofs.Algebra.{zero-sum}
use Rattle.kinds.proofs.Lists.{map_same}
use Rattle.code.specs.declared.block.Block.{Block}
use Rattle.code.specs.declared.mark.Mark.{Mark}
use Rattle.code.specs.declared.mark.Mark.TheVariants.{Arrived, Mended, Lost}
use Rattle.code.specs.declared.sheet.Sheet.{Sheet}
use Rattle.code.specs.Sheets.{lag, column}
use Rattle.code.specs.Packets.{Rows, brought}
use Rattle.code.specs.Mending.{History, heard, got, beside, known, all_known}
use Rattle.code.proofs.Carrying.{gathered, gathered_taken, gathered_left}
use Rattle.code.proofs.Pieces.{Begins, block_begins, block_carried, block-lag, block-column}
use Rattle.code.specs.Blocks.{size}
use Rattle.receive.specs.Blocks.{of_block, sums_beside, known_beside}

-- a list that holds so much for each symbol of a block is as long as the block
pub block_long : {X : Type 0} (p : Sheet) (first : ℕ) (f : ℕ → X) → length (of_block p first f) ≡ size p first
block_long p first f = length-map-range_with_len (λ i. f (first + i)) 0 (size p first)

-- a front of a list is written, and all of it is as f says
pub front_written : {X : Type 0} (f : ℕ → X) (w ys : List X) (e n : ℕ) (d : X) → length w ≡ n → e ≤ n → length ys ≡ e → ((i : ℕ) → i < e → get_or ys i d ≡ f i) → ((i : ℕ) → e ≤ i → i < n → get_or w i d ≡ f i) → ys ++ drop (e - 0) w ≡ map f (range_with_len 0 n)
front_written f w ys e n d long within part new old =
    let all : length (ys ++ drop (e - 0) w) ≡ n = length-append ys (drop (e - 0) w) ∙ ap₂ ◌+◌ part (length-drop (e - 0) w) ∙ (let x : e + (length w - (e - 0)) ≡ n = omega arith in x) in
    fill_by_all f (ys ++ drop (e - 0) w) n d all (λ i l. elim (cases_lt i e) [
      | inl h ↦ get_or_append_left ys (drop (e - 0) w) d i (omega arith) ∙ new i h
      | inr h ↦
          get_or-append_right ys (drop (e - 0) w) e i d part h ∙ get_or-drop (e - 0) w (i - e) d
          ∙ ap (λ k. get_or w k d) (let x : (e - 0) + (i - e) ≡ i = omega arith in x) ∙ old i h l
    ])

module _ {S : Type 0} (K : Kind S) (p : Sheet) (rows : Rows S) (t : ℕ) (pick : ℕ → Bool) where
  -- symbols of which none is picked add nothing
  gathered_none : (a d : ℕ) → ((b : ℕ) → a ≤ b → b < a + d → pick b ≡ false) → gathered K p rows t pick (a + d) ≡ gathered K p rows t pick a
  gathered_none a zero none = ap (gathered K p rows t pick) (let e : a + 0 ≡ a = omega arith in e)
  gathered_none a (suc d) none =
      ap (gathered K p rows t pick) (let e : a + suc d ≡ suc (a + d) = omega arith in e)
      ∙ gathered_left K p rows t pick (a + d) (none (a + d) (omega arith) (omega arith))
      ∙ gathered_none a d (λ b low high. none b low (omega arith))

  -- and of which the one at i is picked
  gathered_one : (a d i : ℕ) → i < d → ((b : ℕ) → a ≤ b → b < a + d → pick b ≡ eqb (b - a) i) → gathered K p rows t pick (a + d) ≡ K.sum (brought K p rows t (a + i)) (gathered K p rows t pick a)
  gathered_one a d i below one =
      ap (gathered K p rows t pick) (let e : a + d ≡ suc (a + i) + (d - suc i) = omega arith in e)
      ∙ gathered_none (suc (a + i)) (d - suc i) (λ b low high. one b (omega arith) (omega arith) ∙ ne_eqb (b - a) i (λ e. omega arith))
      ∙ gathered_taken K p rows t pick (a + i) (one (a + i) (omega arith) (omega arith) ∙ eq-eqb ((a + i) - a) i (omega arith))
      ∙ ap (K.sum (brought K p rows t (a + i))) (gathered_none a i (λ b low high. one b low (omega arith) ∙ ne_eqb (b - a) i (λ e. omega arith)))

module _ (p : Sheet) (arrived : ℕ → Bool) (s : ℕ) (pick : ℕ → Bool) where
  known_none : (a d : ℕ) → ((b : ℕ) → a ≤ b → b < a + d → pick b ≡ false) → all_known p arrived s pick (a + d) ≡ all_known p arrived s pick a
  known_none a zero none = ap (all_known p arrived s pick) (let e : a + 0 ≡ a = omega arith in e)
  known_none a (suc d) none =
      ap (all_known p arrived s pick) (let e : a + suc d ≡ suc (a + d) = omega arith in e)
      ∙ ap (λ x. (not x || known p arrived s (a + d)) && all_known p arrived s pick (a + d)) (none (a + d) (omega arith) (omega arith))
      ∙ known_none a d (λ b low high. none b low (omega arith))

  known_one : (a d i : ℕ) → i < d → ((b : ℕ) → a ≤ b → b < a + d → pick b ≡ eqb (b - a) i) → all_known p arrived s pick (a + d) ≡ (known p arrived s (a + i) && all_known p arrived s pick a)
  known_one a d i below one =
      ap (all_known p arrived s pick) (let e : a + d ≡ suc (a + i) + (d - suc i) = omega arith in e)
      ∙ known_none (suc (a + i)) (d - suc i) (λ b low high. one b (omega arith) (omega arith) ∙ ne_eqb (b - a) i (λ e. omega arith))
      ∙ ap (λ x. (not x || known p arrived s (a + i)) && all_known p arrived s pick (a + i)) (one (a + i) (omega arith) (omega arith) ∙ eq-eqb ((a + i) - a) i (omega arith))
      ∙ ap (λ x. known p arrived s (a + i) && x) (known_none a i (λ b low high. one b low (omega arith) ∙ ne_eqb (b - a) i (λ e. omega arith)))

eqb_shift : (c x y : ℕ) → eqb (c + x) (c + y) ≡ eqb x y
eqb_shift c x y = elim (cases_eq x y) [
  | inl e ↦ eq-eqb (c + x) (c + y) (omega arith) ∙ sym (eq-eqb x y e)
  | inr e ↦ ne_eqb (c + x) (c + y) (λ f. e (omega arith)) ∙ sym (ne_eqb x y e)
]

module _ (p : Sheet) (first : ℕ) (begins : Begins p first) (i : ℕ) (below : i < size p first) where
  own_column : column p (first + i) ≡ (p.parity - p.row) + i
  own_column = block-column p first begins (first + i) (omega arith) (omega arith) ∙ ap (λ x. (p.parity - p.row) + x) (let e : (first + i) - first ≡ i = omega arith in e)

  -- a block holds nothing beside its own symbols
  own_beside : (b : ℕ) → first ≤ b → b < first + size p first → beside p (first + i) b ≡ false
  own_beside b low high = elim (cases_eq (b - first) i) [
    | inl e ↦ and_right (eqb (column p b) (column p (first + i))) (not (eqb b (first + i))) (ap not (eq-eqb b (first + i) (omega arith)))
    | inr e ↦ and_left (eqb (column p b) (column p (first + i))) (not (eqb b (first + i))) (ne_eqb (column p b) (column p (first + i)) (λ f. e (omega (arith, f, block-column p first begins b low high, own_column))))
  ]

  -- and another block one symbol, at the same place
  other_beside : (other : ℕ) → Begins p other → other ≢ first → (b : ℕ) → other ≤ b → b < other + size p other → beside p (first + i) b ≡ eqb (b - other) i
  other_beside other begins' apart b low high =
      let r : ℕ = p.parity in
      let whole : first / p.parity * p.parity ≡ first = omega (arith, div-add-mod' first p.parity, begins.1) in
      let whole' : other / p.parity * p.parity ≡ other = omega (arith, div-add-mod' other p.parity, begins'.1) in
      let not-it : b ≢ first + i = λ e.
      let q : b / p.parity ≡ first / p.parity = div-eq_of_lt-le {k = first / p.parity} p.parity {m = b} (omega (arith, whole)) (let l : b < (first / p.parity + 1) * p.parity = omega (arith, whole) in l) in
      let q' : b / p.parity ≡ other / p.parity = div-eq_of_lt-le {k = other / p.parity} p.parity {m = b} (omega (arith, whole')) (let l : b < (other / p.parity + 1) * p.parity = omega (arith, whole') in l) in
      apart (sym whole' ∙ ap (λ x. x * p.parity) (sym q' ∙ q) ∙ whole) in
      ap (λ x. eqb (column p b) (column p (first + i)) && not x) (ne_eqb b (first + i) not-it)
      ∙ and_true (eqb (column p b) (column p (first + i)))
      ∙ ap₂ eqb (block-column p other begins' b low high) own_column
      ∙ eqb_shift (p.parity - p.row) (b - other) i
    where
      and_true : (x : Bool) → (x && true) ≡ x
      and_true true = refl
      and_true false = refl

module _ {S : Type 0} (K : Kind S) {p : Sheet} (h : History S) (s : ℕ) (b o : Block) (sheets : (b.sheet ≡ p) × (o.sheet ≡ p)) where
  abbrev first : ℕ
  first = b.first

  abbrev other : ℕ
  other = o.first

  begins : Begins p first
  begins = block_begins b sheets.0

  begins' : Begins p other
  begins' = block_begins o sheets.1

  abbrev so_far : ℕ → ℕ → S
  so_far i m = gathered K p (got K h) s (beside p (first + i)) m

  abbrev all_so_far : ℕ → ℕ → Bool
  all_so_far i m = all_known p (heard h) s (beside p (first + i)) m

  abbrev next : ℕ
  next = min (other + p.parity) p.row

  next_is : other + size p other ≡ min (other + p.parity) p.row
  next_is = omega (arith, begins'.0)

  -- the block itself
  pub own_sums : other ≡ first → sums_beside K p h s first other ≡ sums_beside K p h s first (min (other + p.parity) p.row)
  own_sums e = map_same _ _ (size p first) K.zero (λ i l.
      sym (ap (so_far i) (sym next_is ∙ ap (λ x. x + size p x) e)
      ∙ gathered_none K p (got K h) s (beside p (first + i)) first (size p first) (own_beside p first begins i l) ∙ ap (so_far i) (sym e)))

  pub own_known : other ≡ first → known_beside p (heard h) s first other ≡ known_beside p (heard h) s first (min (other + p.parity) p.row)
  own_known e = map_same _ _ (size p first) Arrived (λ i l. ap (λ x. cond x Mended Lost)
      (sym (ap (all_so_far i) (sym next_is ∙ ap (λ x. x + size p x) e)
      ∙ known_none p (heard h) s (beside p (first + i)) first (size p first) (own_beside p first begins i l) ∙ ap (all_so_far i) (sym e))))

  module _ (apart : other ≢ first) (i : ℕ) (below : i < size p first) where
    sum_past : size p other ≤ i → so_far i (min (other + p.parity) p.row) ≡ so_far i other
    sum_past l = ap (so_far i) (sym next_is) ∙ gathered_none K p (got K h) s (beside p (first + i)) other (size p other) (λ b low high. other_beside p first begins i below other begins' apart b low high ∙ ne_eqb (b - other) i (λ e. omega arith))

    sum_at : i < size p other → so_far i (min (other + p.parity) p.row) ≡ K.sum (brought K p (got K h) s (other + i)) (so_far i other)
    sum_at l = ap (so_far i) (sym next_is) ∙ gathered_one K p (got K h) s (beside p (first + i)) other (size p other) i l (other_beside p first begins i below other begins' apart)

    known_past : size p other ≤ i → all_so_far i (min (other + p.parity) p.row) ≡ all_so_far i other
    known_past l = ap (all_so_far i) (sym next_is) ∙ known_none p (heard h) s (beside p (first + i)) other (size p other) (λ b low high. other_beside p first begins i below other begins' apart b low high ∙ ne_eqb (b - other) i (λ e. omega arith))

    known_at : i < size p other → all_so_far i (min (other + p.parity) p.row) ≡ (known p (heard h) s (other + i) && all_so_far i other)
    known_at l = ap (all_so_far i) (sym next_is) ∙ known_one p (heard h) s (beside p (first + i)) other (size p other) i l (other_beside p first begins i below other begins' apart)

  -- another block that brings only zeros
  kept_sums : other ≢ first → ((i : ℕ) → i < size p other → brought K p (got K h) s (other + i) ≡ K.zero) → sums_beside K p h s first other ≡ sums_beside K p h s first (min (other + p.parity) p.row)
  kept_sums apart zeros = map_same _ _ (size p first) K.zero (λ i l. elim (cases_lt i (size p other)) [
    | inl m ↦ sym (sum_at apart i l m ∙ ap (λ x. K.sum x (so_far i other)) (zeros i m) ∙ zero-sum K (so_far i other))
    | inr m ↦ sym (sum_past apart i l m)
  ])

  -- another block that is known
  kept_known : other ≢ first → ((i : ℕ) → i < size p other → known p (heard h) s (other + i) ≡ true) → known_beside p (heard h) s first other ≡ known_beside p (heard h) s first (min (other + p.parity) p.row)
  kept_known apart all = map_same _ _ (size p first) Arrived (λ i l. ap (λ x. cond x Mended Lost) (elim (cases_lt i (size p other)) [
    | inl m ↦ sym (known_at apart i l m ∙ ap (λ x. x && all_so_far i other) (all i m))
    | inr m ↦ sym (known_past apart i l m)
  ]))

  -- the slot carries it so many slots after its row
  module _ (apart : other ≢ first) where
    abbrev since : ℕ
    since = o.lag

    its_lag : (i : ℕ) → i < size p other → lag p (other + i) ≡ since
    its_lag i l = block-lag p other begins' (other + i) (omega arith) (omega arith) ∙ sym (block_carried o sheets.1)

    -- a row before row 0
    pub early_sums : s < since → sums_beside K p h s first other ≡ sums_beside K p h s first (min (other + p.parity) p.row)
    early_sums young = kept_sums apart (λ i l. cond-false _ _ _ (lt-leb (lag p (other + i)) s (omega (arith, its_lag i l))))

    pub early_known : s < since → known_beside p (heard h) s first other ≡ known_beside p (heard h) s first (min (other + p.parity) p.row)
    early_known young = kept_known apart (λ i l. ap (λ x. not x || heard h (s - lag p (other + i))) (lt-leb (lag p (other + i)) s (omega (arith, its_lag i l))))

    module _ (old : since ≤ s) where
      brings : (i : ℕ) → i < size p other → brought K p (got K h) s (other + i) ≡ got K h (s - since) (other + i)
      brings i l = cond-true _ _ _ (le-leb (lag p (other + i)) s (omega (arith, its_lag i l))) ∙ ap (λ x. got K h (s - x) (other + i)) (its_lag i l)

      knows : (i : ℕ) → i < size p other → known p (heard h) s (other + i) ≡ heard h (s - since)
      knows i l = ap (λ x. not x || heard h (s - lag p (other + i))) (le-leb (lag p (other + i)) s (omega (arith, its_lag i l))) ∙ ap (λ x. heard h (s - x)) (its_lag i l)

      pub missed_sums : ((i : ℕ) → got K h (s - since) (other + i) ≡ K.zero) → sums_beside K p h s first other ≡ sums_beside K p h s first (min (other + p.parity) p.row)
      missed_sums none = kept_sums apart (λ i l. brings i l ∙ none i)

      pub heard_known : heard h (s - since) ≡ true → known_beside p (heard h) s first other ≡ known_beside p (heard h) s first (min (other + p.parity) p.row)
      heard_known came = kept_known apart (λ i l. knows i l ∙ came)

      -- the two blocks have so many columns in common
      module _ (end top : ℕ) (ends : end ≡ min p.parity (p.row - top)) (tops : top ≡ max first other) where
        common : end ≡ min (size p first) (size p other)
        common = omega arith

        end_first : end ≤ size p first
        end_first = omega arith

        pub heard_sums : (sums part : List S) (reads : ℕ → S) → sums ≡ sums_beside K p h s first other →
            ((i : ℕ) → i < size p other → reads i ≡ got K h (s - since) (other + i)) →
            part ≡ map (λ i. K.sum (reads i) (get_or (take (end - 0) sums) i K.zero)) (range_with_len 0 (length (take (end - 0) sums))) →
            part ++ drop (end - 0) sums ≡ sums_beside K p h s first (min (other + p.parity) p.row)
        heard_sums sums part reads was read wrote =
            let z : S = K.zero in
            let long : length sums ≡ size p first = ap length was ∙ length-map-range_with_len (λ i. so_far i other) 0 (size p first) in
            let cut : length (take (end - 0) sums) ≡ end = length-take-le (end - 0) sums (omega (arith, end_first)) ∙ (let e : end - 0 ≡ end = omega arith in e) in
            let had : (i : ℕ) → i < size p first → get_or sums i z ≡ so_far i other = λ i l. ap (λ ys. get_or ys i z) was ∙ get_or-map-range_with_len (λ j. so_far j other) 0 (size p first) i i z l (omega arith) in
            front_written (λ i. so_far i (min (other + p.parity) p.row)) sums part end (size p first) z long end_first
            (ap length wrote ∙ length-map-range_with_len _ 0 (length (take (end - 0) sums)) ∙ cut)
            (λ i l.
            let inside : i < length (take (end - 0) sums) = omega (arith, cut) in
            let of : i < size p other = omega arith in
            let mine : i < size p first = omega arith in
            ap (λ ys. get_or ys i z) wrote ∙ get_or-map-range_with_len (λ j. K.sum (reads j) (get_or (take (end - 0) sums) j z)) 0 (length (take (end - 0) sums)) i i z inside (omega arith)
            ∙ ap₂ K.sum (read i of ∙ sym (brings i of)) (get_or-take (end - 0) sums i z (omega arith) ∙ had i mine)
            ∙ sym (sum_at apart i mine of))
            (λ i low l. had i l ∙ sym (sum_past apart i l (omega arith)))

        pub missed_known : (outlooks part : List Mark) → outlooks ≡ known_beside p (heard h) s first other → heard h (s - since) ≡ false →
            part ≡ replicate (length (take (end - 0) outlooks)) Lost →
            part ++ drop (end - 0) outlooks ≡ known_beside p (heard h) s first (min (other + p.parity) p.row)
        missed_known outlooks part was missed wrote =
            let long : length outlooks ≡ size p first = ap length was ∙ length-map-range_with_len (λ i. cond (all_so_far i other) Mended Lost) 0 (size p first) in
            let cut : length (take (end - 0) outlooks) ≡ end = length-take-le (end - 0) outlooks (omega (arith, end_first)) ∙ (let e : end - 0 ≡ end = omega arith in e) in
            let had : (i : ℕ) → i < size p first → get_or outlooks i Arrived ≡ cond (all_so_far i other) Mended Lost = λ i l. ap (λ ys. get_or ys i Arrived) was ∙ get_or-map-range_with_len (λ j. cond (all_so_far j other) Mended Lost) 0 (size p first) i i Arrived l (omega arith) in
            front_written (λ i. cond (all_so_far i (min (other + p.parity) p.row)) Mended Lost) outlooks part end (size p first) Arrived long end_first
            (ap length wrote ∙ length-replicate (length (take (end - 0) outlooks)) Lost ∙ cut)
            (λ i l.
            let of : i < size p other = omega arith in
            let mine : i < size p first = omega arith in
            ap (λ ys. get_or ys i Arrived) wrote ∙ get_or-replicate (length (take (end - 0) outlooks)) i Lost Arrived (omega (arith, cut))
            ∙ sym (cond-false _ _ _ (known_at apart i mine of ∙ and_left _ _ (knows i of ∙ missed))))
            (λ i low l. had i l ∙ ap (λ x. cond x Mended Lost) (sym (known_past apart i l (omega arith))))
