-- How wide the fields of symbols are.
use Rattle.std.proofs.Common.{◌≡◌, ℕ, ◌+◌, ◌*◌, List, [], ◌∷◌, length, sym, ap, ◌∙◌, suc-mul, add_comm, zero-mul, arith, length-append}
use Rattle.kinds.specs.Form.{Form}
use Rattle.kinds.specs.Kind.{Kind}
use Rattle.lines.specs.Lines.{symbol_field, symbol_fields}
use Rattle.lines.proofs.Numbers.{length-field}
use Rattle.lines.proofs.Rooms.{wide, room}

module _ {S : Type 0} (K : Kind S) (F : Form S) where
  abbrev w : ℕ
  w = F.layout.width

  pub length-symbol : (s : S) → length (symbol_field F s) ≡ w
  length-symbol s = length-field w (F.number s) (let h = wide K F in omega arith) (room F s)

  pub length_symbols : (xs : List S) → length (symbol_fields F xs) ≡ length xs * w
  length_symbols [] = sym (zero-mul w)
  length_symbols (s ∷ xs) =
      length-append (symbol_field F s) (symbol_fields F xs)
      ∙ (ap (λ x. x + length (symbol_fields F xs)) (length-symbol s)
      ∙ (ap (λ x. w + x) (length_symbols xs) ∙ (add_comm w (length xs * w) ∙ sym (suc-mul (length xs) w))))
