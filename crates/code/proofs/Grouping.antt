-- Misses that stand apart are mended. Assumes nothing.
use Rattle.std.proofs.Common.{◌≡◌, ℕ, zero, suc, ◌+◌, ◌-◌, ◌/◌, ◌<◌, ◌≤◌, Bool, false, ◌≢◌, ◌⊎◌, sym, refl, ap, ◌∙◌, inl, inr, arith}
use Rattle.std.proofs.lemmas.Bool.{cases_Bool, cases_eq, cases_lt, cases_order, true≢false}
use Rattle.code.specs.declared.sheet.Sheet.{Sheet}
use Rattle.code.specs.Sheets.{T, lag}
use Rattle.code.specs.declared.mark.Mark.TheVariants.{Lost}
use Rattle.code.specs.Mending.{mark}
use Rattle.code.specs.Bursts.{Missed, LastOf, Bursts}
use Rattle.code.proofs.Numbers.{lag_below, lag_some, lags_apart, same_place}
use Rattle.code.proofs.Losses.{Losing, Clash, lost}

-- any two misses are less than L or more than T slots apart
abbrev Apart : Sheet → (ℕ → Bool) → ℕ → Type 0
Apart p arrived m = (a b : ℕ) → Missed arrived m a → Missed arrived m b → a < b → (b < a + p.burst) ⊎ (a + T p < b)

module _ (p : Sheet) (arrived : ℕ → Bool) (m : ℕ) (apart : Apart p arrived m) where
  -- no two misses are from L to T slots apart
  no_two : (a b : ℕ) → b < m → arrived a ≡ false → arrived b ≡ false → a + p.burst ≤ b → b ≤ a + T p → ⊥
  no_two a b l ma mb low high =
      let x : a < b = omega (arith, p.bursts.0) in
      let n : (b < a + p.burst) ⊎ (a + T p < b) = apart a b (record { taken = omega arith; miss = ma }) (record { taken = l; miss = mb }) x in
      omega arith

  clashes_not : (j b i : ℕ) → j + T p < m → b < p.row → arrived j ≡ false → Clash p arrived (j + lag p b) b i → ⊥
  clashes_not j b i due below own c =
      let db : lag p b ≤ T p = lag_below p b below in
      let di : lag p i ≤ T p = lag_below p i c.below in
      elim (cases_order (i / p.parity) (b / p.parity)) [
        | inl e ↦ c.another (same_place p i b c.same_column e)
        | inr (inl e) ↦
            let d : lag p i + p.burst ≤ lag p b = lags_apart p i b e in
            no_two j ((j + lag p b) - lag p i) (omega arith) own c.row.missing (omega arith) (omega arith)
        | inr (inr e) ↦
            let d : lag p b + p.burst ≤ lag p i = lags_apart p b i e in
            let a : lag p i ≤ j + lag p b = c.row.after in
            no_two ((j + lag p b) - lag p i) j (omega arith) c.row.missing own (omega arith) (omega arith)
      ]

  none_lost : (j b : ℕ) → j + T p < m → b < p.row → Losing p arrived j b → ⊥
  none_lost j b due below l =
      let db : lag p b ≤ T p = lag_below p b below in
      let dl : p.burst ≤ lag p b = lag_some p b in
      elim l.why [
        | inl w ↦ no_two j (j + lag p b) (omega arith) l.own w (omega arith) (omega arith)
        | inr w ↦ clashes_not j b w.0 due below l.own w.1
      ]

-- a group that has a miss has a last one
module _ (arrived : ℕ → Bool) (group : ℕ → ℕ) where
  widened : (n g l : ℕ) → (arrived n ≡ false → group n ≡ g → ⊥) → LastOf (Missed arrived n) group g l → LastOf (Missed arrived (suc n)) group g l
  widened n g l none m = record {
    miss = record { taken = omega (arith, m.miss.taken); miss = m.miss.miss };
    is_of = m.is_of;
    none_later = λ s w e. elim (cases_eq s n) [
      | inl f ↦ absurd (none (sym (ap arrived f) ∙ w.miss) (sym (ap group f) ∙ e))
      | inr f ↦ m.none_later s (record { taken = omega (arith, w.taken, f); miss = w.miss }) e
    ];
  }

  last_miss : (n a : ℕ) → Missed arrived n a → (l : ℕ) × LastOf (Missed arrived n) group (group a) l
  last_miss zero a w = absurd (omega (arith, w.taken))
  last_miss (suc n) a w = elim (cases_eq a n) [
    | inl f ↦ (a, record { miss = w; is_of = refl; none_later = λ s v _. omega (arith, v.taken) })
    | inr f ↦
        let before = last_miss n a (record { taken = omega (arith, w.taken); miss = w.miss }) in
        elim (cases_Bool (arrived n)) [
          | inl m ↦ (before.0, widened n (group a) before.0 (λ e _. true≢false (sym m ∙ e)) before.1)
          | inr m ↦ elim (cases_eq (group n) (group a)) [
            | inl e ↦ (n, record { miss = record { taken = omega arith; miss = m }; is_of = e; none_later = λ s v _. omega (arith, v.taken) })
            | inr e ↦ (before.0, widened n (group a) before.0 (λ _ x. e x) before.1)
          ]
        ]
  ]

bursts_apart : (p : Sheet) (arrived : ℕ → Bool) (m : ℕ) (group : ℕ → ℕ) → Bursts p (Missed arrived m) group → Apart p arrived m
bursts_apart p arrived m group bursts a b ma mb x = elim (cases_eq (group a) (group b)) [
  | inl e ↦ inl (bursts.short a b ma mb e)
  | inr n ↦
      let found = last_miss arrived group m a ma in
      let last = found.1 in
      let l : ℕ = found.0 in
      let al : a ≤ l = last.none_later a ma refl in
      let la : l < a + p.burst = bursts.short a l ma last.miss (sym last.is_of) in
      elim (cases_lt l b) [
        | inr w ↦ inl (omega arith)
        | inl w ↦ elim (cases_lt (l + T p) b) [
          | inl v ↦ inr (omega arith)
          | inr v ↦ absurd (bursts.clear a b l b ma mb n x last w v mb)
        ]
      ]
]

pub bursts_mended : (p : Sheet) (arrived : ℕ → Bool) (m j b : ℕ) (group : ℕ → ℕ) → b < p.row → j + T p < m → Bursts p (Missed arrived m) group → mark p arrived j b ≢ Lost
bursts_mended p arrived m j b group below due bursts e =
    none_lost p arrived m (bursts_apart p arrived m group bursts) j b due below (lost p arrived j b e)
