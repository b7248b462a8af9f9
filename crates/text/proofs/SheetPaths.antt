-- A sheet is told by its three numbers.
use Rattle.std.proofs.Common.{◌≡◌, ℕ, ◌+◌, ◌-◌, ◌*◌, ◌/◌, ◌≤◌, Some, None, Ok, Err, Option, Result, sym, refl, ap, ◌∙◌}
use mathlib.Core.HLevel.{is_prop→PathP}
use native.Mathlib.Bridge.{le_prop}
use native.Mathlib.Nat.{ℕ_set}
use Rattle.code.specs.Making.{delay_of, sheet_refused, Makes}
use Rattle.code.specs.declared.sheet.Sheet.{Sheet}
use Rattle.code.specs.declared.sheet.SheetRefusal.{SheetRefusal}
use Rattle.text.specs.Sheets.{made_by, sheet_of}

limits_prop : (low x high : ℕ) → IsProp ((low ≤ x) × (x ≤ high))
limits_prop low x high a b = λ i. (le_prop a.0 b.0 i, le_prop a.1 b.1 i)

delays : (p q : Sheet) → p.burst ≡ q.burst → p.row ≡ q.row → p.parity ≡ q.parity → p.delay ≡ q.delay
delays p q b k r =
    p.waits ∙ (ap (λ x. delay_of x p.row p.parity) b
    ∙ (ap (λ x. delay_of q.burst x p.parity) k ∙ (ap (λ x. delay_of q.burst q.row x) r ∙ sym q.waits)))

pub sheet_path : (p q : Sheet) → p.burst ≡ q.burst → p.row ≡ q.row → p.parity ≡ q.parity → p ≡ q
sheet_path p q b k r =
    let d = delays p q b k r in
    λ i. record {
      burst = b i;
      row = k i;
      parity = r i;
      delay = d i;
      bursts = is_prop→PathP (λ j. (1 ≤ b j) × (b j ≤ 32)) (λ j. limits_prop 1 (b j) 32) p.bursts q.bursts i;
      rows = is_prop→PathP (λ j. (1 ≤ k j) × (k j ≤ 48)) (λ j. limits_prop 1 (k j) 48) p.rows q.rows i;
      parities = is_prop→PathP (λ j. (1 ≤ r j) × (r j ≤ 16)) (λ j. limits_prop 1 (r j) 16) p.parities q.parities i;
      waits = is_prop→PathP (λ j. d j ≡ b j * ((k j + (r j - 1)) / r j)) (λ j. ℕ_set (d j) (b j * ((k j + (r j - 1)) / r j)))
          p.waits q.waits i;
      few = is_prop→PathP (λ j. d j ≤ 256) (λ j. le_prop) p.few q.few i;
    }

pub by_refusal : (burst row parity : ℕ) (refused : Option SheetRefusal) (h : sheet_refused burst row parity ≡ refused)
    (answer : Result Sheet SheetRefusal) → Makes burst row parity refused answer → answer ≡ made_by burst row parity refused h
unfolding made_by
by_refusal burst row parity (Some e) h answer m = m
by_refusal burst row parity None h (Ok p) m = ap Ok (sheet_path p _ m.burst_is m.row_is m.parity_is)
by_refusal burst row parity None h (Err e) m = absurd m

-- what making a sheet answers
pub sheet_made : (burst row parity : ℕ) (answer : Result Sheet SheetRefusal) →
    Makes burst row parity (sheet_refused burst row parity) answer → answer ≡ sheet_of burst row parity
unfolding sheet_of
sheet_made burst row parity answer m = by_refusal burst row parity (sheet_refused burst row parity) refl answer m
