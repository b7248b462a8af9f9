-- Decimal digits, summed modulo ten. Assumes nothing.
use Rattle.std.specs.Prelude.{◌≡◌, ℕ, ◌%◌, ◌<◌, [], ◌∷◌, slice_index_or, refl}
use Rattle.std.proofs.Common.{sym, ◌∙◌, mod-eq_of_lt, zero-add, arith, lit<, lit≤}
use Rattle.std.proofs.lemmas.List.{get_or-map}
use Rattle.std.proofs.lemmas.List.FromFn.{get_or-range_with_len}
use Rattle.kinds.specs.Form.{Form}
use Rattle.kinds.specs.Kind.{Kind}
use Rattle.kinds.specs.Numbering.{Numbering, modular, number_lt}
use Rattle.kinds.specs.declared.digit.Digit.{Digit}
use Rattle.kinds.specs.declared.digit.Digit.TheVariants.{D0, D1, D2, D3, D4, D5, D6, D7, D8, D9}

-- the number that a digit stands for
abbrev pub number : Digit → ℕ
number D0 = 0
number D1 = 1
number D2 = 2
number D3 = 3
number D4 = 4
number D5 = 5
number D6 = 6
number D7 = 7
number D8 = 8
number D9 = 9

-- the digit that is left of n when tens are taken away
abbrev pub digit : ℕ → Digit
digit n = slice_index_or (D0 ∷ D1 ∷ D2 ∷ D3 ∷ D4 ∷ D5 ∷ D6 ∷ D7 ∷ D8 ∷ D9 ∷ []) (n % 10) D0

pub digit-number : (d : Digit) → digit (number d) ≡ d
digit-number D0 = refl
digit-number D1 = refl
digit-number D2 = refl
digit-number D3 = refl
digit-number D4 = refl
digit-number D5 = refl
digit-number D6 = refl
digit-number D7 = refl
digit-number D8 = refl
digit-number D9 = refl

-- the numbers of the ten digits in a row are 0 to 9
pub number-digit : (n : ℕ) → number (digit n) ≡ n % 10
number-digit n =
    let below : n % 10 < 10 = omega arith in
    sym (get_or-map number (D0 ∷ D1 ∷ D2 ∷ D3 ∷ D4 ∷ D5 ∷ D6 ∷ D7 ∷ D8 ∷ D9 ∷ []) (n % 10) D0 0 below)
    ∙ get_or-range_with_len 0 10 (n % 10) 0 below ∙ zero-add (n % 10)

-- the digits are numbered 0 to 9
abbrev pub numbering : Numbering Digit 10
numbering = record {
  number = number;
  of_rest = digit;
  some = omega arith;
  number_of_rest = number-digit;
  of_rest_number = digit-number;
}

abbrev pub digits : Kind Digit
digits = modular numbering

-- letter D
abbrev pub digit_form : Form Digit
digit_form = record {
  layout = record { letter = 68; width = 2; top = 9 };
  number = number;
  symbol = digit;
  width_small = lit≤ tt;
  top_fits = lit< tt;
  number_top = λ d. omega (arith, number_lt numbering d);
  symbol_number = digit-number;
  number_symbol = λ n h. number-digit n ∙ mod-eq_of_lt (omega arith);
}
