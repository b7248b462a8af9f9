-- Lines that are refused before they have ended. Assumes nothing.
use Rattle.std.proofs.Common.{eqb, ap, ◌≡◌, ℕ, ◌+◌, ◌*◌, ◌<◌, false, List, [], ◌∷◌, ◌++◌, length, get_or, Err, refl, ◌∙◌, arith}
use Rattle.std.proofs.lemmas.List.{length-append}
use Rattle.std.proofs.lemmas.Bool.{cond-true, cond-false, eq-eqb, ne_eqb}
use Rattle.kinds.specs.Form.{Form}
use Rattle.text.specs.declared.fault.LineFault.TheVariants as fault
use Rattle.text.specs.Reading.{begins, symbols_of, missed_read}

-- a line that goes on begins as it did
pub begins_as : (letter first : ℕ) (line begun more : List ℕ) → 0 < first → line ≡ begun ++ more → get_or begun 0 0 ≡ first → begins letter line ≡ eqb first letter
begins_as letter first line [] more some e is = absurd (omega arith)
begins_as letter first line (c ∷ cs) more some e is = ap (begins letter) e ∙ ap (λ x. eqb x letter) is

-- .. and is no shorter
not_of_length : (len : ℕ) (line begun more : List ℕ) → line ≡ begun ++ more → len < length begun → eqb (length line) len ≡ false
not_of_length len line begun more e l = ne_eqb (length line) len (λ no. omega (arith, ap length e, length-append begun more))

module _ {S : Type 0} (F : Form S) where
  pub too_long : (letter count next : ℕ) (line begun more : List ℕ) → 0 < letter → line ≡ begun ++ more → get_or begun 0 0 ≡ letter →
      9 + count * F.layout.width < length begun → symbols_of F letter count next line ≡ Err fault.Length
  too_long letter count next line begun more some e is l =
      cond-true _ _ _ (begins_as letter letter line begun more some e is ∙ eq-eqb letter letter refl)
      ∙ cond-false _ _ _ (not_of_length (9 + count * F.layout.width) line begun more e l)

pub missed_long : (next : ℕ) (line begun more : List ℕ) → line ≡ begun ++ more → get_or begun 0 0 ≡ 77 → 9 < length begun → missed_read next line ≡ Err fault.Length
missed_long next line begun more e is l =
    cond-true _ _ _ (begins_as 77 77 line begun more (omega arith) e is) ∙ cond-false _ _ _ (not_of_length 9 line begun more e l)
