-- Bytes under exclusive or. Assumes nothing.
use Rattle.std.specs.Prelude.{◌≡◌, ℕ, ◌%◌, ◌<◌, bit_xor}
use Rattle.std.proofs.Common.{ap, ◌∙◌, mod-eq_of_lt, arith, lit<, lit≤}
use mathlib.Core.HLevel.{is_prop→PathP}
use Rattle.std.proofs.Math.Bridge.{le_prop}
use Rattle.std.specs.Int.Bits.{xor_assoc, xor_zero_r, xor_self}
use Rattle.std.proofs.lemmas.Nat.{xor_comm, xor_lt}
use Rattle.kinds.specs.Form.{Form}
use Rattle.kinds.specs.Kind.{Kind}
use Rattle.kinds.specs.declared.byte.Byte.{Byte}

abbrev pub byte : (n : ℕ) → n < 256 → Byte
byte n h = record { value = n; fits = h }

-- the sum of two bytes, and their difference too
abbrev pub xor : Byte → Byte → Byte
xor a b = byte (bit_xor a.value b.value) (xor_lt 8 a.value b.value a.fits b.fits)

-- bytes of one value are one byte
pub byte_path : (a b : Byte) → a.value ≡ b.value → a ≡ b
byte_path a b p = λ i. record {
  value = p i;
  fits = is_prop→PathP (λ j. p j < 256) (λ j. le_prop) a.fits b.fits i;
}

pub xor_back : (a b : ℕ) → bit_xor (bit_xor a b) b ≡ a
xor_back a b = xor_assoc a b b ∙ ap (bit_xor a) (xor_self b) ∙ xor_zero_r a

pub one_apart : byte 1 (lit< tt) ≡ byte 0 (lit< tt) → ⊥
one_apart e = let z : ◌≡◌ {A = ℕ} 1 0 = ap (λ (x : Byte). x.value) e in omega arith

abbrev pub bytes : Kind Byte
bytes = record {
  zero = byte 0 (lit< tt);
  sum = xor;
  difference = xor;
  nonzero = byte 1 (lit< tt);
  sum_assoc = λ a b c. byte_path _ _ (xor_assoc a.value b.value c.value);
  sum_comm = λ a b. byte_path _ _ (xor_comm a.value b.value);
  sum_zero = λ a. byte_path _ _ (xor_zero_r a.value);
  difference_sum = λ a b. byte_path _ _ (xor_back a.value b.value);
  nonzero_apart = one_apart;
}

-- letter B
abbrev pub byte_form : Form Byte
byte_form = record {
  layout = record { letter = 66; width = 4; top = 255 };
  number = λ b. b.value;
  symbol = λ n. byte (n % 256) (omega arith);
  width_small = lit≤ tt;
  top_fits = lit< tt;
  number_top = λ b. let h = b.fits in omega arith;
  symbol_number = λ b. byte_path _ _ (mod-eq_of_lt b.fits);
  number_symbol = λ n h. mod-eq_of_lt (omega arith);
}
