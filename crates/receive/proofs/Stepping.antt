-- A loop over the blocks of a row. Assumes nothing.
use Rattle.std.proofs.Common.{◌≡◌, ℕ, ◌+◌, ◌-◌, ◌<◌, ◌≤◌, min, List, ◌++◌, map, length, take, drop, sym, ap, ◌∙◌, subst, ap₂, inl, inr, arith}
use borrow.Rule.Slice.PartMut.{put_mid}
use Rattle.std.specs.List.{range_with_len}
use Rattle.std.proofs.lemmas.List.{take_all, length-append, length-take-le, length-drop, get_or_append_left, get_or-append_right}
use Rattle.std.proofs.lemmas.Slice.{take-put_mid}
use Rattle.std.proofs.lemmas.List.FromFn.{length-map-range_with_len, get_or-map-range_with_len, fill_by_all}
use Rattle.std.proofs.lemmas.Bool.{cases_lt}
use Rattle.code.specs.declared.block.Block.{Block}
use Rattle.code.specs.declared.block.Blocks.{Blocks}
use Rattle.code.specs.declared.sheet.Sheet.{Sheet}
use Rattle.code.specs.Blocks.{size, BlocksFrom, AtBlock, NoBlock}
use Rattle.code.proofs.Numbers.{lag_below}
use Rattle.code.proofs.Pieces.{block_begins, block_size, block_carried}
use Rattle.code.proofs.Walking.{block_on, here, there, from_first, past_last}
use Rattle.receive.specs.Blocks.{of_block}

-- a block of a row is carried at most T slots after it
pub lag_within : (b : Block) (p : Sheet) → b.sheet ≡ p → b.lag ≤ p.delay
lag_within b p on = omega (arith, block_carried b on, lag_below p b.first (block_begins b on).0)

-- what is so of the first a, and of the m after them, is so of all of them
pub counted-append : {X : Type 0} (f : ℕ → X) (a m : ℕ) (d : X) → map f (range_with_len 0 a) ++ map (λ i. f (a + i)) (range_with_len 0 m) ≡ map f (range_with_len 0 (a + m))
counted-append f a m d =
    let front : length (map f (range_with_len 0 a)) ≡ a = length-map-range_with_len f 0 a in
    let back : length (map (λ i. f (a + i)) (range_with_len 0 m)) ≡ m = length-map-range_with_len (λ i. f (a + i)) 0 m in
    fill_by_all f (map f (range_with_len 0 a) ++ map (λ i. f (a + i)) (range_with_len 0 m)) (a + m) d
    (length-append (map f (range_with_len 0 a)) (map (λ i. f (a + i)) (range_with_len 0 m)) ∙ ap₂ ◌+◌ front back)
    (λ i l. elim (cases_lt i a) [
      | inl h ↦ get_or_append_left (map f (range_with_len 0 a)) (map (λ j. f (a + j)) (range_with_len 0 m)) d i (omega arith) ∙ get_or-map-range_with_len f 0 a i i d h (omega arith)
      | inr h ↦
          get_or-append_right (map f (range_with_len 0 a)) (map (λ j. f (a + j)) (range_with_len 0 m)) a i d front h
          ∙ get_or-map-range_with_len (λ j. f (a + j)) 0 m (i - a) (i - a) d (omega arith) (omega arith)
          ∙ ap f (let e : a + (i - a) ≡ i = omega arith in e)
    ])

-- the first m places hold what f says
abbrev pub Filled : {X : Type 0} → (ℕ → X) → List X → ℕ → Type 0
Filled f w m = take m w ≡ map f (range_with_len 0 m)

-- before the first block nothing need be
pub none_filled : {X : Type 0} (f : ℕ → X) (w : List X) {p : Sheet} {s : Blocks} → BlocksFrom p 0 s → Filled f w (min s.first p.row)
none_filled f w from = from_first (λ m. take m w) from ∙ sym (from_first (λ m. map f (range_with_len 0 m)) from)

-- one block more of a row
module _ {X : Type 0} {p : Sheet} {s t : Blocks} {b : Block} {len : ℕ} (on : s.sheet ≡ p) (at : AtBlock s b t) (so_long : len ≡ size b.sheet b.first) (w : List X) (long : length w ≡ p.row) where
  its_len : len ≡ size p b.first
  its_len = so_long ∙ block_size b (block_on on at)

  below : b.first < p.row
  below = (block_begins b (block_on on at)).0

  -- is so long
  pub block_cut : length (take (b.first + len - b.first) (drop b.first w)) ≡ size p b.first
  block_cut = length-take-le (b.first + len - b.first) (drop b.first w) (omega (arith, length-drop b.first w, below, its_len)) ∙ (let e : b.first + len - b.first ≡ size p b.first = omega (arith, its_len) in e)

  -- and is written
  pub block_more : (f : ℕ → X) (d : X) (ys : List X) → Filled f w (min s.first p.row) → ys ≡ of_block p b.first f → Filled f (put_mid b.first (b.first + len - b.first) w ys) (min t.first p.row)
  block_more f d ys was wrote =
      let m : ℕ = size p b.first in
      let low = below in
      let width = its_len in
      let part : length ys ≡ size p b.first = ap length wrote ∙ length-map-range_with_len (λ i. f (b.first + i)) 0 m in
      let next : b.first + size p b.first ≡ min t.first p.row = (let e : b.first + size p b.first ≡ min (b.first + p.parity) p.row = omega arith in e) ∙ there on at in
      let before : take b.first w ≡ map f (range_with_len 0 b.first) = subst (λ (a : ℕ). Filled f w a) (here on at) was in
      take-put_mid b.first (b.first + len - b.first) w ys (min t.first p.row) (omega arith) (omega arith)
      ∙ ap₂ ◌++◌ before wrote
      ∙ counted-append f b.first m d ∙ ap (λ i. map f (range_with_len 0 i)) next

-- past the last block the row is
pub blocks_written : {X : Type 0} {p : Sheet} (f : ℕ → X) (w : List X) {s t : Blocks} (on : s.sheet ≡ p) (none : NoBlock s t) → length w ≡ p.row → Filled f w (min s.first p.row) → w ≡ map f (range_with_len 0 p.row)
blocks_written {p = p} f w {s} on none long was =
    let all : Filled f w p.row = subst (λ (m : ℕ). Filled f w m) (past_last {s = s} (λ (m : ℕ). m) on none) was in
    sym (take_all p.row w (omega arith)) ∙ all
