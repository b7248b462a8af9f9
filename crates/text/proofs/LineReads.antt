-- Symbols that were read and do not fit their place.
use Rattle.std.proofs.Common.{◌≡◌, ℕ, false, eqb, List, length, Ok, Err, Result, sym, refl, ap, ◌∙◌, arith}
use Rattle.std.proofs.lemmas.Bool.{cond-false, ne_eqb}
use Rattle.text.specs.declared.fault.LineFault.{LineFault}
use Rattle.text.specs.Reading.{fitting, told}

pub misfitting : {S : Type 0} (misfit : LineFault) (place : List S) (read : Result (List S) LineFault) (count : ℕ) →
    told read ≡ Ok tt → ((xs : List S) → read ≡ Ok xs → length xs ≡ count) → (length place ≡ count → ⊥) →
    Err misfit ≡ told (fitting misfit (length place) read)
misfitting misfit place (Ok xs) count h long ne =
    let l = long xs refl in
    let t : eqb (length place) (length xs) ≡ false = ne_eqb (length place) (length xs) (λ e. ne (e ∙ l)) in
    ap told (sym (cond-false _ (Ok xs) (Err misfit) t))
misfitting misfit place (Err e) count h long ne = let z : ◌≡◌ {A = ℕ} 0 1 = cc in absurd (omega arith)
