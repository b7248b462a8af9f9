-- What is printed turns only on the rows that a sender keeps. Assumes nothing.
use Rattle.std.proofs.Common.{◌≡◌, ℕ, zero, suc, ◌+◌, ◌<◌, ◌≤◌, false, eqb, ltb, leb, List, [], ◌∷◌, ◌++◌, sym, refl, ap, ◌∙◌, ap₂, inl, inr, arith}
use Rattle.std.proofs.lemmas.Bool.{cases_eq, cases_lt, cond-true, cond-false, eq-eqb, ne_eqb, le-ltb, and_left}
use Rattle.kinds.specs.Kind.{Kind}
use Rattle.kinds.specs.Form.{Form}
use Rattle.code.specs.declared.sheet.Sheet.{Sheet}
use Rattle.code.specs.Sheets.{T}
use Rattle.code.specs.Packets.{Rows, packet}
use Rattle.code.proofs.Windows.{looks_back}
use Rattle.line.specs.declared.line.SymbolLine.{SymbolLine}
use Rattle.transmit.specs.Keeping.{kept, with_row}
use Rattle.transmit.specs.Calls.{Passes}
use Rattle.transmit.specs.Refusing.{tail_refused}
use Rattle.lines.specs.Lines.{ended, packet_line}
use Rattle.opening.proofs.Taking.{after_alike}
use Rattle.sending.specs.Printing.{Lent, slot_text, row_taken, after_tail, tail_text, rows_text}

module _ {S : Type 0} (K : Kind S) (p : Sheet) where
  -- two lists of rows that a sender cannot tell apart after t slots
  abbrev pub Alike : ℕ → Rows S → Rows S → Type 0
  Alike t u v = (j b : ℕ) → b < p.row → t ≤ j + T p → u j b ≡ v j b

  -- .. after one more row
  pub alike_row : (t : ℕ) (u v : Rows S) (row : List S) → Alike t u v → Alike (t + 1) (with_row K u t row) (with_row K v t row)
  alike_row t u v row same j b l low = elim (cases_eq j t) [
    | inl e ↦ cond-true _ _ _ (eq-eqb j t e) ∙ sym (cond-true _ _ _ (eq-eqb j t e))
    | inr e ↦ cond-false _ _ _ (ne_eqb j t e) ∙ same j b l (omega arith) ∙ sym (cond-false _ _ _ (ne_eqb j t e))
  ]

  -- the packets from then on are the same
  pub packet_alike : (t s : ℕ) (u v : Rows S) → Alike t u v → t ≤ s → packet K p u s ≡ packet K p v s
  packet_alike t s u v same l = looks_back K p u v s (λ b k. same s b k (omega arith)) (λ j b k low high. same j b k (omega arith))

  -- and so is that of the next row
  pub own_alike : (t : ℕ) (u v : Rows S) (row : List S) → Alike t u v → packet K p (with_row K u t row) t ≡ packet K p (with_row K v t row) t
  own_alike t u v row same =
      looks_back K p (with_row K u t row) (with_row K v t row) t
      (λ b l. cond-true _ _ _ (eq-eqb t t refl) ∙ sym (cond-true _ _ _ (eq-eqb t t refl)))
      (λ j b l low high.
      let e : eqb j t ≡ false = ne_eqb j t (λ is. omega (arith, p.bursts.0)) in
      cond-false _ _ _ e ∙ same j b l high ∙ sym (cond-false _ _ _ e))

  -- a row that was put is kept beside those before it
  pub alike_passed : (t : ℕ) (before after : SymbolLine S) (row place' : List S) → Passes K p t before after row place' →
      Alike (t + 1) (kept K p (t + 1) after) (with_row K (kept K p t before) t row)
  alike_passed t before after row place' x j b l low = elim (cases_eq j t) [
    | inl e ↦ ap (λ i. kept K p (t + 1) after i b) e ∙ x.latest b l ∙ sym (cond-true _ _ _ (eq-eqb j t e))
    | inr e ↦ elim (cases_lt j t) [
      | inl less ↦ x.earlier j b l less (omega arith) ∙ sym (cond-false _ _ _ (ne_eqb j t e))
      | inr more ↦
          cond-false _ _ _ (and_left (ltb j (t + 1)) (leb (t + 1) (j + T p)) (le-ltb j (t + 1) (omega arith)))
          ∙ sym (cond-false _ _ _ (ne_eqb j t e) ∙ cond-false _ _ _ (and_left (ltb j t) (leb t (j + T p)) (le-ltb j t more)))
    ]
  ]

module _ {S : Type 0} (K : Kind S) (F : Form S) (p : Sheet) where
  pub slot_alike : (t s : ℕ) (u v : Rows S) → Alike K p t u v → t ≤ s → slot_text K F p u s ≡ slot_text K F p v s
  slot_alike t s u v same l = ap (λ q. ended (packet_line F s q)) (packet_alike K p t s u v same l)

  pub tail_alike : (window place m i left : ℕ) (u v : Rows S) → Alike K p m u v →
      tail_text K F p window place u m i left ≡ tail_text K F p window place v m i left
  tail_alike window place m i zero u v same = refl
  tail_alike window place m i (suc left) u v same =
      ap₂ (λ a b. after_tail m (tail_refused p window (m + i) i place) (a ++ b))
      (slot_alike m (m + i) u v same (omega arith)) (tail_alike window place m (i + 1) left u v same)

  module _ (lent : Lent) where
    pub rows_alike : (lines : List (List ℕ)) (t : ℕ) (u v : Rows S) → Alike K p t u v → rows_text K F p lent u t lines ≡ rows_text K F p lent v t lines
    rows_alike [] t u v same = tail_alike lent.window lent.packet t 0 (T p) u v same
    rows_alike (line ∷ lines) t u v same =
        after_alike t (row_taken K F p lent t line) _ _ (λ row.
        ap₂ ◌++◌ (ap (λ q. ended (packet_line F t q)) (own_alike K p t u v row same))
        (rows_alike lines (t + 1) (with_row K u t row) (with_row K v t row) (alike_row K p t u v row same)))
