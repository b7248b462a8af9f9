-- What is printed turns only on the slots that a receiver remembers. Assumes nothing.
use Rattle.std.proofs.Common.{◌≡◌, ℕ, ◌+◌, ◌-◌, ◌*◌, ◌≤◌, ltb, leb, List, [], ◌∷◌, ◌++◌, None, Option, sym, refl, ap, ◌∙◌, ap₂, inl, inr, arith}
use Rattle.std.proofs.lemmas.Bool.{cases_eq, cases_lt, cond-true, cond-false, eq-eqb, ne_eqb, lt-ltb, le-ltb, and_left}
use Rattle.kinds.specs.Kind.{Kind}
use Rattle.kinds.specs.Form.{Form}
use Rattle.kinds.proofs.Lists.{map_same}
use Rattle.code.specs.declared.mark.Mark.TheVariants.{Arrived}
use Rattle.code.specs.declared.sheet.Sheet.{Sheet}
use Rattle.code.specs.Sheets.{T}
use Rattle.code.specs.Mending.{History, heard, mark, marks_of, given, row_of}
use Rattle.code.proofs.Windows.{hears_back}
use Rattle.receive.specs.declared.receiver.Receiver.{Receiver}
use Rattle.receive.specs.declared.tally.Tally.{Tally}
use Rattle.receive.specs.Memory.{memory}
use Rattle.receive.specs.Handing.{Reply, verdict}
use Rattle.receive.specs.Calls as calls
use Rattle.lines.specs.Lines.{ended, due_line}
use Rattle.opening.proofs.Taking.{after_alike}
use Rattle.mending.specs.Printing.{Lent, with_slot, one_row, slot_text, counted, slot_taken, slots_text}

-- two histories that a receiver cannot tell apart after t slots
abbrev pub Alike : {S : Type 0} → Sheet → ℕ → History S → History S → Type 0
Alike p t h g = (s : ℕ) → t ≤ s + 2 * T p → h s ≡ g s

module _ {S : Type 0} (p : Sheet) where
  -- .. after one more slot
  pub alike_slot : (t : ℕ) (h g : History S) (came : Option (List S)) → Alike p t h g → Alike p (t + 1) (with_slot h t came) (with_slot g t came)
  alike_slot t h g came same s low = elim (cases_eq s t) [
    | inl e ↦ cond-true _ _ _ (eq-eqb s t e) ∙ sym (cond-true _ _ _ (eq-eqb s t e))
    | inr e ↦ cond-false _ _ _ (ne_eqb s t e) ∙ same s (omega arith) ∙ sym (cond-false _ _ _ (ne_eqb s t e))
  ]

module _ {S : Type 0} (K : Kind S) where
  -- nothing is remembered of slots to come
  pub not_yet : (r : Receiver S) (s : ℕ) → r.counters.slots ≤ s → memory K r s ≡ None
  not_yet r s l =
      cond-false _ _ _ (and_left _ _ (and_left (ltb s r.counters.slots) (leb r.counters.slots (s + 2 * T r.sheet)) (le-ltb s r.counters.slots l)))

  -- a slot that was taken is remembered beside those before it
  pub alike_taken : (p : Sheet) (t : ℕ) (before after : Receiver S) (came : Option (List S)) (a : Reply S) → calls.Taken K p t before after came a →
      before.counters.slots ≡ t → Alike p (t + 1) (memory K after) (with_slot (memory K before) t came)
  alike_taken p t before after came a x slots s low = elim (cases_eq s t) [
    | inl e ↦ ap (memory K after) e ∙ x.latest ∙ sym (cond-true _ _ _ (eq-eqb s t e))
    | inr e ↦ elim (cases_lt s t) [
      | inl less ↦ x.earlier s less (omega arith) ∙ sym (cond-false _ _ _ (ne_eqb s t e))
      | inr more ↦
          not_yet after s (omega (arith, x.slots)) ∙ sym (not_yet before s (omega arith)) ∙ sym (cond-false _ _ _ (ne_eqb s t e))
    ]
  ]

module _ {S : Type 0} (K : Kind S) (p : Sheet) (j : ℕ) (h g : History S) (same : (s : ℕ) → j + p.burst ≤ s + T p → s ≤ j + T p → h s ≡ g s) where
  -- the row that falls due is the same ..
  pub row_alike : row_of K p h j ≡ row_of K p g j
  row_alike = map_same (given K p h j) (given K p g j) p.row K.zero (λ b l. (hears_back K p h g j b l same).1)

  -- .. and so are its marks
  pub marks_alike : marks_of p (heard h) j ≡ marks_of p (heard g) j
  marks_alike = map_same (mark p (heard h) j) (mark p (heard g) j) p.row Arrived (λ b l. (hears_back K p h g j b l same).0)

module _ {S : Type 0} (K : Kind S) (F : Form S) (p : Sheet) where
  -- row t - T looks at none but the last 2 × T slots
  seen : (t : ℕ) (h g : History S) → T p ≤ t → Alike p (t + 1) h g → (s : ℕ) → (t - T p) + p.burst ≤ s + T p → s ≤ (t - T p) + T p → h s ≡ g s
  seen t h g late same s low high = same s (omega (arith, p.bursts.0))

  pub slot_alike : (t : ℕ) (h g : History S) → Alike p (t + 1) h g → slot_text K F p h t ≡ slot_text K F p g t
  slot_alike t h g same = elim (cases_lt t (T p)) [
    | inl l ↦ cond-true _ _ _ (lt-ltb t (T p) l) ∙ sym (cond-true _ _ _ (lt-ltb t (T p) l))
    | inr l ↦
        cond-false _ _ _ (le-ltb t (T p) l)
        ∙ ap₂ (λ row marks. ended (due_line F (t - T p) row marks)) (row_alike K p (t - T p) h g (seen t h g l same)) (marks_alike K p (t - T p) h g (seen t h g l same))
        ∙ sym (cond-false _ _ _ (le-ltb t (T p) l))
  ]

  pub counted_alike : (t : ℕ) (h g : History S) (told : Tally) → Alike p (t + 1) h g → counted K F p h t told ≡ counted K F p g t told
  counted_alike t h g told same = elim (cases_lt t (T p)) [
    | inl l ↦ cond-true _ _ _ (lt-ltb t (T p) l) ∙ sym (cond-true _ _ _ (lt-ltb t (T p) l))
    | inr l ↦
        cond-false _ _ _ (le-ltb t (T p) l) ∙ ap (λ marks. one_row (verdict marks) told) (marks_alike K p (t - T p) h g (seen t h g l same))
        ∙ sym (cond-false _ _ _ (le-ltb t (T p) l))
  ]

  module _ (lent : Lent) where
    -- what follows slot t, by what is remembered with it
    abbrev pub follows : History S → ℕ → Tally → List (List ℕ) → List ℕ
    follows h t told lines = slot_text K F p h t ++ slots_text K F p lent h (t + 1) (counted K F p h t told) lines

    pub slots_alike : (lines : List (List ℕ)) (t : ℕ) (h g : History S) (told : Tally) → Alike p t h g →
        slots_text K F p lent h t told lines ≡ slots_text K F p lent g t told lines
    slots_alike [] t h g told same = refl
    slots_alike (line ∷ lines) t h g told same =
        after_alike t (slot_taken K F p lent t line) (λ came. follows (with_slot h t came) t told lines) (λ came. follows (with_slot g t came) t told lines)
        (λ came.
        let more : Alike p (t + 1) (with_slot h t came) (with_slot g t came) = alike_slot p t h g came same in
        ap₂ ◌++◌ (slot_alike t (with_slot h t came) (with_slot g t came) more)
        (ap (λ x. slots_text K F p lent (with_slot h t came) (t + 1) x lines) (counted_alike t (with_slot h t came) (with_slot g t came) told more)
        ∙ slots_alike lines (t + 1) (with_slot h t came) (with_slot g t came) (counted K F p (with_slot g t came) t told) more))

    pub follows_alike : (lines : List (List ℕ)) (t : ℕ) (h g : History S) (told : Tally) → Alike p (t + 1) h g → follows h t told lines ≡ follows g t told lines
    follows_alike lines t h g told same =
        ap₂ ◌++◌ (slot_alike t h g same)
        (ap (λ x. slots_text K F p lent h (t + 1) x lines) (counted_alike t h g told same)
        ∙ slots_alike lines (t + 1) h g (counted K F p g t told) same)
