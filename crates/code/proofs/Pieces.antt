-- A row taken block by block. Assumes nothing.
use Rattle.std.proofs.Common.{◌≡◌, ℕ, zero, suc, ◌+◌, ◌-◌, ◌*◌, ◌/◌, ◌%◌, ◌<◌, ◌≤◌, leb, ◌⊎◌, sym, ap, ◌∙◌, subst, inl, inr, mod-eq_of_lt, div-add-mod', arith}
use native.Mathlib.Nat.{div-eq_of_lt-le, mul-add-mod_self_right}
use Rattle.std.proofs.lemmas.Bool.{cases_Bool, cases_eq, cond-true, cond-false, leb-true, leb-false, eq-eqb, ne_eqb}
use Rattle.kinds.specs.Kind.{Kind}
use Rattle.code.specs.declared.block.Block.{Block}
use Rattle.code.specs.declared.sheet.Sheet.{Sheet}
use Rattle.code.specs.Blocks.{size}
use Rattle.code.specs.Sheets.{lag, column}
use Rattle.code.specs.Packets.{Rows, brought, in_column}
use Rattle.code.proofs.Carrying.{gathered, gathered_taken, gathered_left}

-- a block begins with this symbol
abbrev pub Begins : Sheet → ℕ → Type 0
Begins p first = (first < p.row) × (first % p.parity ≡ 0)

-- so does a block of a row on that sheet
module _ (b : Block) {p : Sheet} (on : b.sheet ≡ p) where
  pub block_begins : Begins p b.first
  block_begins =
      (omega (arith, b.within, ap (λ (q : Sheet). q.row) on), subst (λ (q : Sheet). b.first % q.parity ≡ 0) on b.whole)

  pub block_size : size b.sheet b.first ≡ size p b.first
  block_size = ap (λ (q : Sheet). size q b.first) on

  pub block_carried : b.lag ≡ (1 + b.first / p.parity) * p.burst
  block_carried = subst (λ (q : Sheet). b.lag ≡ (1 + b.first / q.parity) * q.burst) on b.carried

module _ (p : Sheet) (first : ℕ) (begins : Begins p first) where
  whole : first / p.parity * p.parity ≡ first
  whole = omega (arith, div-add-mod' first p.parity, begins.1)

  -- its symbols have one lag ..
  pub block-lag : (b : ℕ) → first ≤ b → b < first + size p first → lag p b ≡ (1 + first / p.parity) * p.burst
  block-lag b low high =
      let below : b < (first / p.parity + 1) * p.parity = omega (arith, whole) in
      ap (λ q. (1 + q) * p.burst) (div-eq_of_lt-le {k = first / p.parity} p.parity {m = b} (omega (arith, whole)) below)

  -- .. and stand in columns in a row
  pub block-column : (b : ℕ) → first ≤ b → b < first + size p first → column p b ≡ (p.parity - p.row) + (b - first)
  block-column b low high = elim (cases_Bool (leb p.parity p.row)) [
    | inl w ↦
        let long : p.parity ≤ p.row = leb-true p.parity p.row w in
        let split : b ≡ first / p.parity * p.parity + (b - first) = omega (arith, whole) in
        let rest : b % p.parity ≡ b - first =
        ap (λ x. x % p.parity) split ∙ mul-add-mod_self_right (first / p.parity) p.parity (b - first)
        ∙ mod-eq_of_lt (let l : b - first < p.parity = omega arith in l) in
        cond-true _ _ _ w ∙ rest ∙ (let e : b - first ≡ (p.parity - p.row) + (b - first) = omega arith in e)
    | inr w ↦
        let short : p.row < p.parity = leb-false p.parity p.row w in
        let none : first ≡ 0 = sym (mod-eq_of_lt (let l : first < p.parity = omega (arith, begins.0) in l)) ∙ begins.1 in
        cond-false _ _ _ w ∙ (let e : (p.parity - p.row) + b ≡ (p.parity - p.row) + (b - first) = omega arith in e)
  ]

-- the column at which a block begins
pub at_column : (b : Block) → column b.sheet b.first ≡ b.sheet.parity - b.sheet.row
at_column b = omega (arith, block-column b.sheet b.first (b.within, b.whole) b.first (omega arith) (omega (arith, b.within, b.sheet.parities.0)))

module _ {S : Type 0} (K : Kind S) (p : Sheet) (rows : Rows S) (t m c₀ : ℕ) where
  -- a stretch of symbols in columns in a row adds one symbol to each of these columns ..
  abbrev InRow : ℕ → Type 0
  InRow size = (b : ℕ) → m ≤ b → b < m + size → column p b ≡ c₀ + (b - m)

  shorter : (size : ℕ) → InRow (suc size) → InRow size
  shorter size cols b low high = cols b low (omega arith)

  -- .. and leaves the others
  pub stretch_outside : (size c : ℕ) → InRow size → (c < c₀) ⊎ (c₀ + size ≤ c) → gathered K p rows t (in_column p c) (m + size) ≡ gathered K p rows t (in_column p c) m
  stretch_outside zero c cols out = ap (gathered K p rows t (in_column p c)) (let e : m + 0 ≡ m = omega arith in e)
  stretch_outside (suc size) c cols out =
      let at : column p (m + size) ≡ c₀ + ((m + size) - m) = cols (m + size) (omega arith) (omega arith) in
      let other : in_column p c (m + size) ≡ _ = ne_eqb (column p (m + size)) c (λ e. omega (arith, at, e, out)) in
      ap (gathered K p rows t (in_column p c)) (let e : m + suc size ≡ suc (m + size) = omega arith in e)
      ∙ gathered_left K p rows t (in_column p c) (m + size) other
      ∙ stretch_outside size c (shorter size cols) (elim out [ inl l ↦ inl l | inr l ↦ inr (omega arith) ])

  pub stretch_inside : (size c : ℕ) → InRow size → c₀ ≤ c → c < c₀ + size → gathered K p rows t (in_column p c) (m + size) ≡ K.sum (brought K p rows t (m + (c - c₀))) (gathered K p rows t (in_column p c) m)
  stretch_inside zero c cols low high = absurd (omega arith)
  stretch_inside (suc size) c cols low high =
      let at : column p (m + size) ≡ c₀ + ((m + size) - m) = cols (m + size) (omega arith) (omega arith) in
      let next : gathered K p rows t (in_column p c) (m + suc size) ≡ gathered K p rows t (in_column p c) (suc (m + size)) =
      ap (gathered K p rows t (in_column p c)) (let e : m + suc size ≡ suc (m + size) = omega arith in e) in
      elim (cases_eq c (c₀ + size)) [
        | inl e ↦
            let same : in_column p c (m + size) ≡ _ = eq-eqb (column p (m + size)) c (omega (arith, at, e)) in
            next ∙ gathered_taken K p rows t (in_column p c) (m + size) same
            ∙ ap (K.sum (brought K p rows t (m + size))) (stretch_outside size c (shorter size cols) (inr (omega arith)))
            ∙ ap (λ b. K.sum (brought K p rows t b) (gathered K p rows t (in_column p c) m)) (let f : m + size ≡ m + (c - c₀) = omega arith in f)
        | inr e ↦
            let other : in_column p c (m + size) ≡ _ = ne_eqb (column p (m + size)) c (λ f. e (omega (arith, at, f))) in
            next ∙ gathered_left K p rows t (in_column p c) (m + size) other ∙ stretch_inside size c (shorter size cols) low (omega arith)
      ]
