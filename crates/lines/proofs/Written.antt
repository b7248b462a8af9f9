-- That no refusal of a writer holds.
use Rattle.std.proofs.Common.{◌≡◌, ℕ, Bool, false, eqb, None, refl}
use Rattle.std.proofs.lemmas.Bool.{eq-eqb, not_from_true}
use Rattle.lines.specs.Writing.{first_refused, wrong}

pub right : (needed len : ℕ) → len ≡ needed → wrong needed len ≡ false
right needed len e = not_from_true (eqb len needed) (eq-eqb len needed e)

pub no_refusal : (a b c : Bool) → a ≡ false → b ≡ false → c ≡ false → first_refused a b c ≡ None
no_refusal a b c p q r = rw (p, q, r) refl
