-- A printed kind's fields have room for its numbers.
use Rattle.std.proofs.Common.{◌≡◌, ℕ, zero, suc, ◌+◌, ◌-◌, ◌*◌, ◌^◌, ◌<◌, ◌≤◌, sym, ap, ◌∙◌, add-mul, one-mul, arith}
use native.Mathlib.Nat.{pow-le-pow_right}
use Rattle.kinds.specs.Form.{Form}
use Rattle.kinds.specs.Kind.{Kind}

pub times_more : (i w : ℕ) → (i + 1) * w ≡ i * w + w
times_more i w = add-mul i 1 w ∙ ap (λ x. i * w + x) (one-mul w)

two_columns : (w top : ℕ) → 1 ≤ top → top < 10 ^ (w - 1) → 2 ≤ w
two_columns zero top p h = absurd (omega arith)
two_columns (suc zero) top p h = absurd (omega arith)
two_columns (suc (suc w)) top p h = omega arith

module _ {S : Type 0} (K : Kind S) (F : Form S) where
  -- zero and another symbol have different numbers
  some_top : (top : ℕ) → ((s : S) → F.number s ≤ top) → 1 ≤ top
  some_top zero h =
      let a : F.number K.nonzero ≡ 0 = omega (arith, h K.nonzero) in
      let b : F.number K.zero ≡ 0 = omega (arith, h K.zero) in
      absurd (K.nonzero_apart
      (sym (F.symbol_number K.nonzero) ∙ (ap F.symbol (a ∙ sym b) ∙ F.symbol_number K.zero)))
  some_top (suc top) h = omega arith

  pub wide : 2 ≤ F.layout.width
  wide = two_columns F.layout.width F.layout.top (some_top F.layout.top F.number_top) F.top_fits

module _ {S : Type 0} (F : Form S) where
  pub top_room : F.layout.top < 10 ^ F.layout.width
  top_room =
      let p : 10 ^ (F.layout.width - 1) ≤ 10 ^ F.layout.width = pow-le-pow_right (omega arith) (omega arith) in
      let t = F.top_fits in
      omega arith

  pub room : (s : S) → F.number s < 10 ^ F.layout.width
  room s = let t = top_room in let h = F.number_top s in omega arith
