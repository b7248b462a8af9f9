-- The parity symbols of a slot, block by block. Assumes nothing.
use Rattle.std.proofs.Common.{◌≡◌, ℕ, ◌+◌, ◌-◌, ◌*◌, ◌<◌, ◌≤◌, min, ltb, leb, ◌⊎◌, List, length, get_or, take, drop, replicate, sym, ap, ◌∙◌, ap₂, inl, inr, mul-le-mul_right, one-mul, arith}
use borrow.Rule.Slice.PartMut.{put_mid}
use Rattle.std.proofs.lemmas.List.{length-append, length-take-le, length-drop, get_or_append_left, get_or-append_right, get_or-take, get_or-drop, length-replicate, get_or-replicate}
use Rattle.std.proofs.lemmas.List.FromFn.{length-map-range_with_len, get_or-map-range_with_len, fill_by_all}
use Rattle.std.proofs.lemmas.Bool.{cases_lt, cond-true, cond-false, and_from, le-leb, lt-leb, lt-ltb}
use Rattle.kinds.specs.Kind.{Kind}
use Rattle.kinds.proofs.Algebra.{zero-sum}
use Rattle.kinds.proofs.Lists.{map_same}
use Rattle.code.specs.declared.block.Block.{Block}
use Rattle.code.specs.declared.sheet.Sheet.{Sheet}
use Rattle.code.specs.Blocks.{size}
use Rattle.code.specs.Sheets.{T, lag}
use Rattle.code.specs.Packets.{Rows, brought, in_column}
use Rattle.code.proofs.Numbers.{lag_below, lag_some}
use Rattle.code.proofs.Carrying.{gathered}
use Rattle.code.proofs.Pieces.{Begins, block-lag, block-column, stretch_outside, stretch_inside}
use Rattle.line.specs.declared.line.SymbolLine.{SymbolLine}
use Rattle.line.specs.Ring.{symbol_back, added}
use Rattle.line.specs.Line.{contents}
use Rattle.transmit.specs.Keeping.{kept, sums}

module _ {S : Type 0} (a k : ℕ) (xs ys : List S) (d : S) (within : a + k ≤ length xs) (long : length ys ≡ k) where
  front : length (take a xs) ≡ a
  front = length-take-le a xs (omega arith)

  -- what a list holds once a part of it was written
  pub written_before : (i : ℕ) → i < a → get_or (put_mid a k xs ys) i d ≡ get_or xs i d
  written_before i l = get_or_append_left (take a xs) _ d i (omega (arith, front)) ∙ get_or-take a xs i d l

  pub written_inside : (i : ℕ) → a ≤ i → i < a + k → get_or (put_mid a k xs ys) i d ≡ get_or ys (i - a) d
  written_inside i low high =
      get_or-append_right (take a xs) _ a i d front low ∙ get_or_append_left ys _ d (i - a) (omega arith)

  pub written_after : (i : ℕ) → a + k ≤ i → get_or (put_mid a k xs ys) i d ≡ get_or xs i d
  written_after i low =
      get_or-append_right (take a xs) _ a i d front (omega arith) ∙ get_or-append_right ys _ k (i - a) d long (omega arith)
      ∙ get_or-drop k (drop a xs) ((i - a) - k) d ∙ get_or-drop a xs (k + ((i - a) - k)) d
      ∙ ap (λ j. get_or xs j d) (let e : a + (k + ((i - a) - k)) ≡ i = omega arith in e)

module _ {S : Type 0} (K : Kind S) (p : Sheet) (line : SymbolLine S) (t : ℕ) where
  -- what a line of rows brings to the next slot
  pub brought_back : (b : ℕ) → b < p.row → lag p b ≤ t → brought K p (kept K p t line) t b ≡ symbol_back K.zero (contents line) (lag p b * p.row - b)
  brought_back b below old =
      let j : ℕ = t - lag p b in
      let some : p.burst ≤ lag p b = lag_some p b in
      let few : lag p b ≤ T p = lag_below p b below in
      let held : _ = and_from (ltb j t) (leb t (j + T p)) (lt-ltb j t (omega (arith, p.bursts.0))) (le-leb t (j + T p) (omega arith)) in
      cond-true _ _ _ (le-leb (lag p b) t old) ∙ cond-true _ _ _ held
      ∙ ap (λ i. symbol_back K.zero (contents line) (i * p.row - b)) (let e : t - (t - lag p b) ≡ lag p b = omega arith in e)

  pub brought_none : (b : ℕ) → t < lag p b → brought K p (kept K p t line) t b ≡ K.zero
  brought_none b young = cond-false _ _ _ (lt-leb (lag p b) t young)

module _ {S : Type 0} (K : Kind S) (b : Block) (line : SymbolLine S) (t : ℕ) where
  abbrev p : Sheet
  p = b.sheet

  abbrev first : ℕ
  first = b.first

  abbrev since : ℕ
  since = b.lag

  abbrev begins : Begins p first
  begins = (b.within, b.whole)

  abbrev so_far : ℕ → ℕ → S
  so_far c m = gathered K p (kept K p t line) t (in_column p c) m

  abbrev c₀ : ℕ
  c₀ = p.parity - p.row

  abbrev many : ℕ
  many = size p first

  next : first + many ≡ min (first + p.parity) p.row
  next = omega (arith, begins.0)

  inside : (c : ℕ) → c₀ ≤ c → c < c₀ + many → so_far c (min (first + p.parity) p.row) ≡ K.sum (brought K p (kept K p t line) t (first + (c - c₀))) (so_far c first)
  inside c low high = ap (so_far c) (sym next) ∙ stretch_inside K p (kept K p t line) t first c₀ many c (block-column p first begins) low high

  outside : (c : ℕ) → (c < c₀) ⊎ (c₀ + many ≤ c) → so_far c (min (first + p.parity) p.row) ≡ so_far c first
  outside c out = ap (so_far c) (sym next) ∙ stretch_outside K p (kept K p t line) t first c₀ many c (block-column p first begins) out

  its_lag : (c : ℕ) → c₀ ≤ c → c < c₀ + many → lag p (first + (c - c₀)) ≡ since
  its_lag c low high = block-lag p first begins (first + (c - c₀)) (omega arith) (omega arith) ∙ sym b.carried

  -- a block of rows before row 0 adds nothing
  pub too_early : t < since → sums K p (kept K p t line) t first ≡ sums K p (kept K p t line) t (min (first + p.parity) p.row)
  too_early young = map_same _ _ p.parity K.zero (λ c _. elim (cases_lt c c₀) [
    | inl l ↦ sym (outside c (inl l))
    | inr l ↦ elim (cases_lt c (c₀ + many)) [
      | inr h ↦ sym (outside c (inr h))
      | inl h ↦
          sym (inside c l h ∙ ap (λ x. K.sum x (so_far c first)) (brought_none K p line t (first + (c - c₀)) (omega (arith, its_lag c l h)))
          ∙ zero-sum K (so_far c first))
    ]
  ])

  -- the block that the line has adds its symbols
  pub one_block : (place part : List S) → since ≤ t → length place ≡ p.parity → place ≡ sums K p (kept K p t line) t first →
      part ≡ added K (contents line) (since * p.row - first) (take ((c₀ + many) - c₀) (drop c₀ place)) →
      put_mid c₀ ((c₀ + many) - c₀) place part ≡ sums K p (kept K p t line) t (min (first + p.parity) p.row)
  one_block place part old long was wrote =
      let z : S = K.zero in
      let wide : (c₀ + many) - c₀ ≡ many = omega arith in
      let fits : c₀ + ((c₀ + many) - c₀) ≤ length place = omega arith in
      let cut : length (take ((c₀ + many) - c₀) (drop c₀ place)) ≡ (c₀ + many) - c₀ = length-take-le ((c₀ + many) - c₀) (drop c₀ place) (omega (arith, length-drop c₀ place)) in
      let part_long : length part ≡ (c₀ + many) - c₀ = ap length wrote ∙ length-map-range_with_len _ 0 _ ∙ cut in
      let whole_long : length (put_mid c₀ ((c₀ + many) - c₀) place part) ≡ p.parity =
      length-append (take c₀ place) _ ∙ ap₂ ◌+◌ (front c₀ ((c₀ + many) - c₀) place part z fits part_long) (length-append part _ ∙ ap₂ ◌+◌ part_long (length-drop ((c₀ + many) - c₀) (drop c₀ place) ∙ ap (λ x. x - ((c₀ + many) - c₀)) (length-drop c₀ place)))
      ∙ (let e : c₀ + (((c₀ + many) - c₀) + ((length place - c₀) - ((c₀ + many) - c₀))) ≡ p.parity = omega arith in e) in
      let had : (c : ℕ) → c < p.parity → get_or place c z ≡ so_far c first = λ c l. ap (λ ys. get_or ys c z) was ∙ get_or-map-range_with_len (λ i. so_far i first) 0 p.parity c c z l (omega arith) in
      fill_by_all (λ c. so_far c (min (first + p.parity) p.row)) (put_mid c₀ ((c₀ + many) - c₀) place part) p.parity z whole_long (λ c below. elim (cases_lt c c₀) [
        | inl l ↦ written_before c₀ ((c₀ + many) - c₀) place part z fits part_long c l ∙ had c below ∙ sym (outside c (inl l))
        | inr l ↦ elim (cases_lt c (c₀ + many)) [
          | inr h ↦ written_after c₀ ((c₀ + many) - c₀) place part z fits part_long c (omega arith) ∙ had c below ∙ sym (outside c (inr h))
          | inl h ↦
              let i : ℕ = c - c₀ in
              let o : ℕ = first + (c - c₀) in
              let same : lag p (first + (c - c₀)) ≡ since = its_lag c l h in
              let of : i < length (take ((c₀ + many) - c₀) (drop c₀ place)) = omega (arith, cut) in
              let symbol : symbol_back z (contents line) ((since * p.row - first) - (c - c₀)) ≡ brought K p (kept K p t line) t (first + (c - c₀)) =
              ap (symbol_back z (contents line)) (let e : (since * p.row - first) - (c - c₀) ≡ since * p.row - (first + (c - c₀)) = omega arith in e)
              ∙ sym (brought_back K p line t o (omega (arith, begins.0)) (omega (arith, same)) ∙ ap (λ x. symbol_back z (contents line) (x * p.row - (first + (c - c₀)))) same) in
              let held : get_or (take ((c₀ + many) - c₀) (drop c₀ place)) (c - c₀) z ≡ so_far c first =
              get_or-take ((c₀ + many) - c₀) (drop c₀ place) (c - c₀) z (omega arith) ∙ get_or-drop c₀ place (c - c₀) z
              ∙ ap (λ j. get_or place j z) (let e : c₀ + (c - c₀) ≡ c = omega arith in e) ∙ had c below in
              written_inside c₀ ((c₀ + many) - c₀) place part z fits part_long c l (omega arith)
              ∙ ap (λ ys. get_or ys i z) wrote ∙ get_or-map-range_with_len _ 0 _ i i z of (omega arith)
              ∙ ap₂ K.sum symbol held ∙ sym (inside c l h)
        ]
      ])

-- the line is asked for a symbol that went in
pub enough : (b : Block) → b.first ≤ b.lag * b.sheet.row
enough b =
    let some : 1 ≤ b.lag = omega (arith, b.carried, lag_some b.sheet b.first, b.sheet.bursts.0) in
    omega (arith, b.within, mul-le-mul_right b.sheet.row some, one-mul b.sheet.row)

-- before the first block all sums are zero
pub no_sums : {S : Type 0} (K : Kind S) (p : Sheet) (rows : Rows S) (t m : ℕ) (place : List S) → place ≡ replicate p.parity K.zero → m ≡ 0 → place ≡ sums K p rows t m
no_sums K p rows t m place zeros none =
    zeros
    ∙ fill_by_all (λ c. gathered K p rows t (in_column p c) 0) (replicate p.parity K.zero) p.parity K.zero (length-replicate p.parity K.zero) (λ c below. get_or-replicate p.parity c K.zero K.zero below)
    ∙ ap (sums K p rows t) (sym none)
