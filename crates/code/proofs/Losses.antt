-- Why a symbol is lost. Assumes nothing.
use Rattle.std.proofs.Common.{◌≡◌, ℕ, zero, suc, ◌+◌, ◌-◌, ◌<◌, ◌≤◌, Bool, true, false, not, ◌||◌, eqb, leb, ◌≢◌, ◌⊎◌, sym, ◌∙◌, inl, inr, arith}
use Rattle.std.proofs.lemmas.Bool.{true≢false, cases_Bool, cond-true, cond-false, and_parts, and_cases, or_parts, not-false, not-true, leb-true, eqb-true, eqb-false}
use Rattle.code.specs.declared.mark.Mark.{Mark}
use Rattle.code.specs.declared.mark.Mark.TheVariants.{Arrived, Mended, Lost}
use Rattle.code.specs.declared.sheet.Sheet.{Sheet}
use Rattle.code.specs.Sheets.{lag, column}
use Rattle.code.specs.Packets.{in_column}
use Rattle.code.specs.Mending.{known, all_known, beside, mends, mark}

-- symbol i, which slot s carries too, is of a row that was missed
pub record Unknown (p : Sheet) (arrived : ℕ → Bool) (s i : ℕ) : Type 0 where
  pub after : lag p i ≤ s
  pub missing : arrived (s - lag p i) ≡ false

unknown : (p : Sheet) (arrived : ℕ → Bool) (s i : ℕ) → known p arrived s i ≡ false → Unknown p arrived s i
unknown p arrived s i e =
    let parts = or_parts (not (leb (lag p i) s)) (arrived (s - lag p i)) e in
    record { after = leb-true (lag p i) s (not-false _ parts.0); missing = parts.1 }

some_unknown : (p : Sheet) (arrived : ℕ → Bool) (s : ℕ) (pick : ℕ → Bool) (m : ℕ) → all_known p arrived s pick m ≡ false → (i : ℕ) × (i < m) × (pick i ≡ true) × Unknown p arrived s i
some_unknown p arrived s pick zero e = absurd (true≢false e)
some_unknown p arrived s pick (suc m) e = elim (and_cases (not (pick m) || known p arrived s m) (all_known p arrived s pick m) e) [
  | inl w ↦
      let parts = or_parts (not (pick m)) (known p arrived s m) w in
      (m, omega arith, not-false _ parts.0, unknown p arrived s m parts.1)
  | inr w ↦
      let found = some_unknown p arrived s pick m w in
      (found.0, omega arith, found.2, found.3)
]

-- the slot that carries symbol b of row j was missed, or that of another row that it is added to there
pub record Clash (p : Sheet) (arrived : ℕ → Bool) (s b i : ℕ) : Type 0 where
  pub below : i < p.row
  pub another : i ≢ b
  pub same_column : column p i ≡ column p b
  pub row : Unknown p arrived s i

pub record Losing (p : Sheet) (arrived : ℕ → Bool) (j b : ℕ) : Type 0 where
  pub own : arrived j ≡ false
  pub why : (arrived (j + lag p b) ≡ false) ⊎ ((i : ℕ) × Clash p arrived (j + lag p b) b i)

module _ (p : Sheet) (arrived : ℕ → Bool) (j b : ℕ) where
  pub lost : mark p arrived j b ≡ Lost → Losing p arrived j b
  lost e = elim (cases_Bool (arrived j)) [
    | inl a ↦ let n : ◌≡◌ {A = Mark} Arrived Lost = sym (cond-true (arrived j) _ _ a) ∙ e in let z : ◌≡◌ {A = ℕ} 0 1 = cc n in absurd (omega arith)
    | inr a ↦ elim (cases_Bool (mends p arrived j b)) [
      | inl m ↦ let n : ◌≡◌ {A = Mark} Mended Lost = sym (cond-false (arrived j) _ _ a ∙ cond-true (mends p arrived j b) _ _ m) ∙ e in let z : ◌≡◌ {A = ℕ} 0 1 = cc n in absurd (omega arith)
      | inr m ↦ record {
        own = a;
        why = elim (and_cases (arrived (j + lag p b)) (all_known p arrived (j + lag p b) (beside p b) p.row) m) [
          | inl w ↦ inl w
          | inr w ↦
              let found = some_unknown p arrived (j + lag p b) (beside p b) p.row w in
              let parts = and_parts (in_column p (column p b) found.0) (not (eqb found.0 b)) found.2 in
              inr (
                found.0,
                record {
                  below = found.1;
                  another = eqb-false found.0 b (not-true _ parts.1);
                  same_column = eqb-true (column p found.0) (column p b) parts.0;
                  row = found.3;
                },
              )
        ];
      }
    ]
  ]
