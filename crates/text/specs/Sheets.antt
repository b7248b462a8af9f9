-- The sheet that three numbers make. Assumes nothing.
use Rattle.std.specs.Prelude.{◌≡◌, ℕ, ◌≤◌, Bool, true, false, cond, Some, None, Ok, Err, Option, Result, nat_lt, refl}
use Rattle.std.proofs.Common.{arith}
use Rattle.std.proofs.lemmas.Bool.{or_parts, ltb-false}
use Rattle.code.specs.Making.{outside, delay_of, sheet_refused}
use Rattle.code.specs.declared.sheet.Sheet.{Sheet}
use Rattle.code.specs.declared.sheet.SheetRefusal.{SheetRefusal}
use Rattle.code.specs.declared.sheet.SheetRefusal.TheVariants.{Burst, Row, Parity, Delay}

-- a refusal that does not hold
not_refused : (b : Bool) (e : SheetRefusal) (o : Option SheetRefusal) → cond b (Some e) o ≡ None → (b ≡ false) × (o ≡ None)
not_refused true e o h = let z : ◌≡◌ {A = ℕ} 0 1 = cc in absurd (omega arith)
not_refused false e o h = (refl, h)

-- a number that is not outside
inside : (top x : ℕ) → outside top x ≡ false → (1 ≤ x) × (x ≤ top)
inside top x h =
    let p = or_parts (nat_lt x 1) (nat_lt top x) h in
    (ltb-false x 1 p.0, ltb-false top x p.1)

-- numbers that are not refused lie within the limits
pub limits : (burst row parity : ℕ) → sheet_refused burst row parity ≡ None →
    ((1 ≤ burst) × (burst ≤ 32)) × ((1 ≤ row) × (row ≤ 48)) × ((1 ≤ parity) × (parity ≤ 16)) × (delay_of burst row parity ≤ 256)
limits burst row parity h =
    let b = not_refused (outside 32 burst) Burst _ h in
    let k = not_refused (outside 48 row) Row _ b.1 in
    let r = not_refused (outside 16 parity) Parity _ k.1 in
    let t = not_refused (nat_lt 256 (delay_of burst row parity)) Delay None r.1 in
    (inside 32 burst b.0, inside 48 row k.0, inside 16 parity r.0, ltb-false 256 (delay_of burst row parity) t.0)

-- the same by the first refusal that holds, if one does
unfoldable pub made_by : (burst row parity : ℕ) (refused : Option SheetRefusal) → sheet_refused burst row parity ≡ refused →
    Result Sheet SheetRefusal
made_by burst row parity (Some e) h = Err e
made_by burst row parity None h = Ok (record {
  burst = burst;
  row = row;
  parity = parity;
  delay = delay_of burst row parity;
  bursts = (limits burst row parity h).0;
  rows = (limits burst row parity h).1;
  parities = (limits burst row parity h).2;
  waits = refl;
  few = (limits burst row parity h).3;
})

-- the sheet of these numbers, or the first refusal that holds
unfoldable pub sheet_of : ℕ → ℕ → ℕ → Result Sheet SheetRefusal
sheet_of burst row parity = made_by burst row parity (sheet_refused burst row parity) refl
