-- How far back a sender and a receiver have to look. Assumes nothing.
use Rattle.std.proofs.Common.{◌≡◌, ℕ, zero, suc, ◌+◌, ◌-◌, ◌<◌, ◌≤◌, cond, not, ◌&&◌, ◌||◌, leb, ◌++◌, map, length, is_some, sym, refl, ap, ◌∙◌, ap₂, inl, inr, arith, length-append}
use Rattle.std.specs.List.{range_with_len}
use Rattle.std.proofs.lemmas.List.FromFn.{length-map-range_with_len}
use Rattle.std.proofs.lemmas.Bool.{cases_Bool, cond-true, cond-false, leb-true}
use Rattle.kinds.specs.Kind.{Kind}
use Rattle.kinds.proofs.Lists.{map_same}
use Rattle.code.specs.declared.mark.Mark.TheVariants.{Arrived, Mended, Lost}
use Rattle.code.specs.declared.sheet.Sheet.{Sheet}
use Rattle.code.specs.Sheets.{T, n, lag, column}
use Rattle.code.specs.Packets.{brought, parity, packet, in_column}
use Rattle.code.specs.Mending.{History, heard, got, symbol, known, all_known, beside, mends, mended, mark, given}
use Rattle.code.proofs.Numbers.{lag_below, lag_some}
use Rattle.code.proofs.Carrying.{gathered_same}

pub whole : {S : Type 0} (K : Kind S) (p : Sheet) (u : ℕ → ℕ → S) (t : ℕ) → length (packet K p u t) ≡ n p
whole K p u t =
    length-append (map (u t) (range_with_len 0 p.row)) (map (parity K p u t) (range_with_len 0 p.parity))
    ∙ ap₂ ◌+◌ (length-map-range_with_len (u t) 0 p.row) (length-map-range_with_len (parity K p u t) 0 p.parity)

-- rows that agree where slot t looks
pub brought_same : {S : Type 0} (K : Kind S) (p : Sheet) (u v : ℕ → ℕ → S) (t i : ℕ) → (lag p i ≤ t → u (t - lag p i) i ≡ v (t - lag p i) i) → brought K p u t i ≡ brought K p v t i
brought_same K p u v t i h = elim (cases_Bool (leb (lag p i) t)) [
  | inl w ↦ cond-true _ _ _ w ∙ h (leb-true (lag p i) t w) ∙ sym (cond-true _ _ _ w)
  | inr w ↦ cond-false _ _ _ w ∙ sym (cond-false _ _ _ w)
]

pub looks_back : {S : Type 0} (K : Kind S) (p : Sheet) (u v : ℕ → ℕ → S) (t : ℕ) → ((b : ℕ) → b < p.row → u t b ≡ v t b) → ((j b : ℕ) → b < p.row → j + p.burst ≤ t → t ≤ j + T p → u j b ≡ v j b) → packet K p u t ≡ packet K p v t
looks_back K p u v t own rows =
    ap₂ ◌++◌ (map_same (u t) (v t) p.row K.zero own)
    (map_same (parity K p u t) (parity K p v t) p.parity K.zero (λ c _.
    gathered_same K p u v t (in_column p c) p.row (λ i l _. brought_same K p u v t i (λ w.
    let low : p.burst ≤ lag p i = lag_some p i in
    let high : lag p i ≤ T p = lag_below p i l in
    rows (t - lag p i) i l (omega arith) (omega arith)))))

module _ {S : Type 0} (K : Kind S) (p : Sheet) (h h' : History S) (j b : ℕ) (below : b < p.row) (same : (s : ℕ) → j + p.burst ≤ s + T p → s ≤ j + T p → h s ≡ h' s) where
  same_row : (i : ℕ) → i < p.row → lag p i ≤ j + lag p b → h ((j + lag p b) - lag p i) ≡ h' ((j + lag p b) - lag p i)
  same_row i l w =
      let lb : p.burst ≤ lag p b = lag_some p b in
      let hb : lag p b ≤ T p = lag_below p b below in
      let hi : lag p i ≤ T p = lag_below p i l in
      same ((j + lag p b) - lag p i) (omega arith) (omega arith)

  same_known : (i : ℕ) → i < p.row → known p (heard h) (j + lag p b) i ≡ known p (heard h') (j + lag p b) i
  same_known i l = elim (cases_Bool (leb (lag p i) (j + lag p b))) [
    | inl w ↦ ap (λ o. not (leb (lag p i) (j + lag p b)) || is_some o) (same_row i l (leb-true (lag p i) (j + lag p b) w))
    | inr w ↦
        ap (λ x. not x || heard h ((j + lag p b) - lag p i)) w
        ∙ sym (ap (λ x. not x || heard h' ((j + lag p b) - lag p i)) w)
  ]

  same_all : (m : ℕ) → m ≤ p.row → all_known p (heard h) (j + lag p b) (beside p b) m ≡ all_known p (heard h') (j + lag p b) (beside p b) m
  same_all zero l = refl
  same_all (suc m) l = ap₂ (λ x y. (not (beside p b m) || x) && y) (same_known m l) (same_all m (omega arith))

  same_own : h j ≡ h' j
  same_own =
      let lb : p.burst ≤ lag p b = lag_some p b in
      let hb : lag p b ≤ T p = lag_below p b below in
      same j (omega arith) (omega arith)

  same_carrier : h (j + lag p b) ≡ h' (j + lag p b)
  same_carrier =
      let lb : p.burst ≤ lag p b = lag_some p b in
      let hb : lag p b ≤ T p = lag_below p b below in
      same (j + lag p b) (omega arith) (omega arith)

  same_mends : mends p (heard h) j b ≡ mends p (heard h') j b
  same_mends = ap₂ (λ o x. is_some o && x) same_carrier (same_all p.row (omega arith))

  same_mended : mended K p h j b ≡ mended K p h' j b
  same_mended =
      ap₂ K.difference (ap (λ o. symbol K o (p.row + column p b)) same_carrier)
      (gathered_same K p (got K h) (got K h') (j + lag p b) (beside p b) p.row (λ i l _.
      brought_same K p (got K h) (got K h') (j + lag p b) i (λ w. ap (λ o. symbol K o i) (same_row i l w))))

  same_mark : mark p (heard h) j b ≡ mark p (heard h') j b
  same_mark = ap₂ (λ o m. cond (is_some o) Arrived (cond m Mended Lost)) same_own same_mends

  same_given : given K p h j b ≡ given K p h' j b
  same_given =
      ap₂ (λ o m. cond (is_some o) (symbol K o b) (cond m (mended K p h j b) K.zero)) same_own same_mends
      ∙ ap (λ x. cond (is_some (h' j)) (symbol K (h' j) b) (cond (mends p (heard h') j b) x K.zero)) same_mended

pub hears_back : {S : Type 0} (K : Kind S) (p : Sheet) (h h' : History S) (j b : ℕ) → b < p.row → ((s : ℕ) → j + p.burst ≤ s + T p → s ≤ j + T p → h s ≡ h' s) → (mark p (heard h) j b ≡ mark p (heard h') j b) × (given K p h j b ≡ given K p h' j b)
hears_back K p h h' j b below same = (same_mark K p h h' j b below same, same_given K p h h' j b below same)
