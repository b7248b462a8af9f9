-- A missed block, from the parity symbols of its carrying slot and what that slot carries beside it. Assumes nothing.
use Rattle.std.proofs.Common.{◌≡◌, ℕ, zero, suc, ◌+◌, ◌-◌, ◌*◌, ◌<◌, Bool, true, false, cond, ◌&&◌, List, map, length, get_or, replicate, sym, refl, ap, ◌∙◌, ap₂, inl, inr, arith}
use Rattle.std.specs.List.{range_with_len}
use Rattle.std.proofs.lemmas.List.{length-replicate, get_or-replicate}
use Rattle.std.proofs.lemmas.List.FromFn.{length-map-range_with_len, get_or-map-range_with_len, fill_by_all}
use Rattle.std.proofs.lemmas.Bool.{cases_Bool, and_left, cond-true, cond-false}
use Rattle.kinds.specs.Kind.{Kind}
use Rattle.kinds.proofs.Lists.{map_same}
use Rattle.code.specs.declared.block.Block.{Block}
use Rattle.code.specs.declared.mark.Mark.{Mark}
use Rattle.code.specs.declared.mark.Mark.TheVariants.{Arrived, Mended, Lost}
use Rattle.code.specs.declared.sheet.Sheet.{Sheet}
use Rattle.code.specs.Sheets.{n, column, carrier}
use Rattle.code.specs.Mending.{History, heard, got, beside, all_known, mends, mended, mark, given, marks_of, row_of}
use Rattle.code.proofs.Carrying.{gathered}
use Rattle.code.proofs.Pieces.{Begins, block_begins, block_carried, block-lag, block-column}
use Rattle.line.specs.Ring.{stretch}
use Rattle.line.specs.Line.{contents}
use Rattle.receive.specs.declared.due.Verdict.{Verdict}
use Rattle.receive.specs.declared.receiver.Receiver.{Receiver}
use Rattle.receive.specs.Memory.{memory}
use Rattle.receive.proofs.Reading.{read_back}
use Rattle.code.specs.Blocks.{size}
use Rattle.receive.specs.Blocks.{of_block, sums_beside, known_beside, settled}
use Rattle.receive.specs.Handing.{verdict, count, first, judged, is_mended, is_lost}

-- a list of equals, as a function has it
pub filled_with : {X : Type 0} (f : ℕ → X) (x : X) (m n : ℕ) → m ≡ n → ((i : ℕ) → i < n → x ≡ f i) → replicate m x ≡ map f (range_with_len 0 n)
filled_with f x m n e h =
    fill_by_all f (replicate m x) n x (length-replicate m x ∙ e) (λ i l. get_or-replicate m i x x (omega arith) ∙ h i l)

module _ {S : Type 0} (K : Kind S) {p : Sheet} (h : History S) (j : ℕ) (b : Block) (on : b.sheet ≡ p) (missed : heard h j ≡ false) where
  abbrev from : ℕ
  from = b.first

  abbrev since : ℕ
  since = b.lag

  begins : Begins p from
  begins = block_begins b on

  carried_by : (i : ℕ) → i < size p from → carrier p j (from + i) ≡ j + since
  carried_by i l = ap (λ x. j + x) (block-lag p from begins (from + i) (omega arith) (omega arith) ∙ sym (block_carried b on))

  -- the carrying slot was missed
  module _ (silent : heard h (j + since) ≡ false) where
    hopeless : (i : ℕ) → i < size p from → mends p (heard h) j (from + i) ≡ false
    hopeless i l = and_left _ _ (ap (heard h) (carried_by i l) ∙ silent)

    pub lost_symbols : (m : ℕ) → m ≡ size p from → replicate m K.zero ≡ of_block p from (given K p h j)
    lost_symbols m e = filled_with (λ i. given K p h j (from + i)) K.zero m (size p from) e (λ i l. sym (cond-false _ _ _ missed ∙ cond-false _ _ _ (hopeless i l)))

    pub lost_marks : (m : ℕ) → m ≡ size p from → replicate m Lost ≡ of_block p from (mark p (heard h) j)
    lost_marks m e = filled_with (λ i. mark p (heard h) j (from + i)) Lost m (size p from) e (λ i l. sym (cond-false _ _ _ missed ∙ cond-false _ _ _ (hopeless i l)))

  -- the carrying slot arrived
  module _ (came : heard h (j + since) ≡ true) where
    abbrev all : ℕ → Bool
    all i = all_known p (heard h) (j + since) (beside p (from + i)) p.row

    mends_is : (i : ℕ) → i < size p from → mends p (heard h) j (from + i) ≡ all i
    mends_is i l = ap (λ s. heard h s && all_known p (heard h) s (beside p (from + i)) p.row) (carried_by i l) ∙ ap (λ x. x && all i) came

    pub mended_marks : (marks : List Mark) → marks ≡ known_beside p (heard h) (j + since) from p.row → marks ≡ of_block p from (mark p (heard h) j)
    mended_marks marks e = e ∙ fill_by_all (λ i. mark p (heard h) j (from + i)) (known_beside p (heard h) (j + since) from p.row) (size p from) Arrived
        (length-map-range_with_len (λ i. cond (all i) Mended Lost) 0 (size p from))
        (λ i l. get_or-map-range_with_len (λ k. cond (all k) Mended Lost) 0 (size p from) i i Arrived l (omega arith)
        ∙ sym (cond-false _ _ _ missed ∙ ap (λ x. cond x Mended Lost) (mends_is i l)))

    settled_is : (i : ℕ) → i < size p from → settled K (cond (all i) Mended Lost) (got K h (j + since) (p.row + ((p.parity - p.row) + i))) (gathered K p (got K h) (j + since) (beside p (from + i)) p.row) ≡ given K p h j (from + i)
    settled_is i l =
        let at : column p (from + i) ≡ (p.parity - p.row) + i = block-column p from begins (from + i) (omega arith) (omega arith) ∙ ap (λ x. (p.parity - p.row) + x) (let e : (from + i) - from ≡ i = omega arith in e) in
        let mended-is : mended K p h j (from + i) ≡ K.difference (got K h (j + since) (p.row + ((p.parity - p.row) + i))) (gathered K p (got K h) (j + since) (beside p (from + i)) p.row) =
        ap₂ (λ s c. K.difference (got K h s (p.row + c)) (gathered K p (got K h) s (beside p (from + i)) p.row)) (carried_by i l) at in
        elim (cases_Bool (all i)) [
          | inl a ↦
              ap (λ x. settled K (cond x Mended Lost) (got K h (j + since) (p.row + ((p.parity - p.row) + i))) (gathered K p (got K h) (j + since) (beside p (from + i)) p.row)) a
              ∙ sym (cond-false _ _ _ missed ∙ cond-true _ _ _ (mends_is i l ∙ a) ∙ mended-is)
          | inr a ↦
              ap (λ x. settled K (cond x Mended Lost) (got K h (j + since) (p.row + ((p.parity - p.row) + i))) (gathered K p (got K h) (j + since) (beside p (from + i)) p.row)) a
              ∙ sym (cond-false _ _ _ missed ∙ cond-false _ _ _ (mends_is i l ∙ a))
        ]

    pub mended_symbols : (marks : List Mark) (parities : ℕ → S) (sums symbols : List S) → marks ≡ known_beside p (heard h) (j + since) from p.row → sums ≡ sums_beside K p h (j + since) from p.row →
        ((i : ℕ) → i < size p from → parities i ≡ got K h (j + since) (p.row + ((p.parity - p.row) + i))) →
        symbols ≡ map (λ i. settled K (get_or marks i Arrived) (parities i) (get_or sums i K.zero)) (range_with_len 0 (length sums)) →
        symbols ≡ of_block p from (given K p h j)
    mended_symbols marks parities sums symbols outlooks sums-are read wrote =
        let z : S = K.zero in
        let long : length sums ≡ size p from = ap length sums-are ∙ length-map-range_with_len (λ i. gathered K p (got K h) (j + since) (beside p (from + i)) p.row) 0 (size p from) in
        let here : ℕ → S = λ i. settled K (get_or marks i Arrived) (parities i) (get_or sums i z) in
        wrote ∙ fill_by_all (λ i. given K p h j (from + i)) (map here (range_with_len 0 (length sums))) (size p from) z
        (length-map-range_with_len here 0 (length sums) ∙ long)
        (λ i l.
        get_or-map-range_with_len here 0 (length sums) i i z (omega arith) (omega arith)
        ∙ ap₂ (λ m x. settled K m (parities i) x)
        (ap (λ ms. get_or ms i Arrived) outlooks ∙ get_or-map-range_with_len (λ k. cond (all k) Mended Lost) 0 (size p from) i i Arrived l (omega arith))
        (ap (λ xs. get_or xs i z) sums-are ∙ get_or-map-range_with_len (λ k. gathered K p (got K h) (j + since) (beside p (from + k)) p.row) 0 (size p from) i i z l (omega arith))
        ∙ ap (λ x. settled K (cond (all i) Mended Lost) x (gathered K p (got K h) (j + since) (beside p (from + i)) p.row)) (read i l)
        ∙ settled_is i l)

-- a row that arrived is whole
counted_none : (test : Mark → Bool) (m : ℕ) → test Arrived ≡ false → count test (replicate m Arrived) ≡ 0
counted_none test zero e = refl
counted_none test (suc m) e = omega (arith, ap {B = ℕ} (λ x. cond x 1 0) e, counted_none test m e)

pub whole_verdict : (marks : List Mark) (m : ℕ) → marks ≡ replicate m Arrived → Verdict.Whole ≡ verdict marks
whole_verdict marks m e =
    sym (ap verdict e ∙ ap₂ (λ a b. judged a b (first is_lost (replicate m Arrived))) (counted_none is_mended m refl) (counted_none is_lost m refl))

pub arrived_marks : (p : Sheet) (arrived : ℕ → Bool) (j : ℕ) → arrived j ≡ true → (m : ℕ) → m ≡ p.row → replicate m Arrived ≡ marks_of p arrived j
arrived_marks p arrived j came m e = filled_with (mark p arrived j) Arrived m p.row e (λ i l. sym (cond-true _ _ _ came))

pub arrived_row : {S : Type 0} (K : Kind S) (r : Receiver S) (j : ℕ) → heard (memory K r) j ≡ true → (steps m : ℕ) → steps ≡ (r.counters.slots - j) * n r.sheet - 0 → m ≡ r.sheet.row → stretch K.zero (contents r.line) steps m ≡ row_of K r.sheet (memory K r) j
arrived_row K r j came steps m at e =
    ap (stretch K.zero (contents r.line) steps) e
    ∙ map_same _ _ r.sheet.row K.zero (λ i l. read_back K r j 0 steps i i came at (omega arith) (omega arith) ∙ sym (cond-true _ _ _ came))
