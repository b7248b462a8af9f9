-- What the laws of a form give. Assumes nothing.
use Rattle.std.specs.Prelude.{◌≡◌, ℕ, ◌<◌, ◌≤◌, Bool, cond, Some, None}
use Rattle.std.proofs.Common.{sym, ap, ◌∙◌, le-leb}
use Rattle.std.proofs.lemmas.Bool.{lt-leb}
use Rattle.kinds.specs.Form.{Form, symbol_of, BelongsToOne}

module _ {S : Type 0} (F : Form S) where
  pub symbol_of_below : (n : ℕ) → n ≤ F.layout.top → symbol_of F n ≡ Some (F.symbol n)
  symbol_of_below n h = ap (λ (b : Bool). cond b (Some (F.symbol n)) None) (le-leb n F.layout.top h)

  pub symbol_of-above : (n : ℕ) → F.layout.top < n → symbol_of F n ≡ None
  symbol_of-above n h = ap (λ (b : Bool). cond b (Some (F.symbol n)) None) (lt-leb n F.layout.top h)

  pub symbol_of-number : (s : S) → symbol_of F (F.number s) ≡ Some s
  symbol_of-number s = symbol_of_below (F.number s) (F.number_top s) ∙ ap Some (F.symbol_number s)

  pub belongs_to_one : (n : ℕ) → n ≤ F.layout.top → BelongsToOne F n
  belongs_to_one n h = record {
    symbol = F.symbol n;
    has = F.number_symbol n h;
    alone = λ s e. sym (F.symbol_number s) ∙ ap F.symbol e;
  }
