-- A line whose symbols were refused.
use Rattle.std.proofs.Common.{◌≡◌, ℕ, Ok, Err, Result, ap, arith}
use Rattle.text.specs.declared.fault.LineFault.{LineFault}
use Rattle.text.specs.Reading.{told}

-- what the reader of the symbols tells of them is their fault
pub told_err : {X : Type 0} (read : Result X LineFault) (e : LineFault) → told read ≡ Err e → read ≡ Err e
told_err (Ok x) e is = let no : Ok tt ≡ Err e = is in let z : ◌≡◌ {A = ℕ} 0 1 = cc in absurd (omega arith)
told_err (Err y) e is = let same : y ≡ e = cc in ap Err same
