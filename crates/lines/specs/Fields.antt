-- Numbers in the fields of a line. Bytes are numbers: 32 is a blank, 48 to 57 are the digits. Assumes nothing.
use Rattle.std.specs.Prelude.{◌≡◌, ℕ, ◌+◌, ◌-◌, ◌*◌, ◌^◌, ◌<◌, ◌≤◌, Bool, true, false, cond, ◌&&◌, List, [], ◌∷◌, ◌++◌, map, length, replicate, Some, None, Ok, Err, Option, Result, ◌==◌, nat_le}
use Rattle.std.specs.Int.Digits.{digits_of}
use Rattle.lines.specs.declared.field.FieldFault.{FieldFault}
use Rattle.lines.specs.declared.field.FieldFault.TheVariants.{NotANumber, AboveTop}

-- the decimal digits of n, the highest first; zero has one
abbrev pub digits : ℕ → List ℕ
digits n = cond (n == 0) (0 ∷ []) (digits_of 10 n)

-- the byte of a digit
abbrev pub digit_byte : ℕ → ℕ
digit_byte d = 48 + d

-- digits at the right of so many columns, with blanks before them
abbrev pub justified : ℕ → List ℕ → List ℕ
justified width ds = replicate (width - length ds) 32 ++ map digit_byte ds

-- the field of n: its digits at the right of so many columns
unfoldable pub field : ℕ → ℕ → List ℕ
field width n = justified width (digits n)

-- c is the byte of a digit
abbrev pub is_digit : ℕ → Bool
is_digit c = nat_le 48 c && nat_le c 57

-- the number that the digits in a text write, after n; other bytes are passed over
abbrev pub value_after : ℕ → List ℕ → ℕ
value_after n [] = n
value_after n (c ∷ cs) = value_after (cond (is_digit c) (n * 10 + (c - 48)) n) cs

-- two texts are the same
abbrev pub same : List ℕ → List ℕ → Bool
same [] [] = true
same [] (y ∷ ys) = false
same (x ∷ xs) [] = false
same (x ∷ xs) (y ∷ ys) = x == y && same xs ys

-- The number that a part of a line reads as: n, where the part is the field of n, and at most 8 columns wide.
unfoldable pub number_in : List ℕ → Option ℕ
number_in part =
    cond (nat_le (length part) 8 && same part (field (length part) (value_after 0 part))) (Some (value_after 0 part)) None

-- the answer of reading a field that begins at the byte `at` of its line
abbrev pub read_under : ℕ → ℕ → Option ℕ → Result ℕ FieldFault
read_under at top None = Err (NotANumber at)
read_under at top (Some n) = cond (nat_le n top) (Ok n) (Err (AboveTop at))

-- the same, of a part of the line
abbrev pub field_read : ℕ → ℕ → List ℕ → Result ℕ FieldFault
field_read at top part = read_under at top (number_in part)

-- the refusal of a field
abbrev pub field_number : FieldFault → ℕ
field_number (NotANumber at) = 4
field_number (AboveTop at) = 5

-- where the field begins
abbrev pub field_position : FieldFault → ℕ
field_position (NotANumber at) = at
field_position (AboveTop at) = at

-- Reading is the inverse of writing: what is written reads as the number, and no other text of that width does.
pub record Inverse : Type 0 where
  pub back : (width n : ℕ) → 1 ≤ width → width ≤ 8 → n < 10 ^ width → number_in (field width n) ≡ Some n
  pub alone : (part : List ℕ) (n : ℕ) → number_in part ≡ Some n → part ≡ field (length part) n
