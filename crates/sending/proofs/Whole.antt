-- A whole run, with all that a sheet needs lent to it, prints the text of the rows that were read. Assumes nothing.
use Rattle.std.proofs.Common.{◌≡◌, ℕ, zero, suc, ◌+◌, ◌-◌, ◌<◌, ◌≤◌, min, cond, eqb, ltb, List, [], ◌∷◌, ◌++◌, length, get_or, Some, None, Ok, Err, Option, Result, sym, refl, ap, ◌∙◌, ap₂, inl, inr, arith}
use Rattle.std.proofs.lemmas.List.{append-nil, append_assoc, length-append, get_or_at, get_or_append_left, get_or_past}
use Rattle.std.proofs.lemmas.Bool.{cases_lt, cases_eq, cond-true, cond-false, eq-eqb, ne_eqb, le-ltb, lt-ltb, le-leb, lt-leb, not_from_true}
use Rattle.kinds.specs.Kind.{Kind}
use Rattle.kinds.specs.Form.{Form}
use Rattle.code.specs.declared.refusal.PutRefusal.TheVariants as put
use Rattle.code.specs.declared.refusal.TailRefusal.{TailRefusal}
use Rattle.code.specs.declared.sheet.Sheet.{Sheet}
use Rattle.code.specs.Refusals.{top_slots}
use Rattle.code.specs.Sheets.{T, n}
use Rattle.code.specs.Packets.{Rows}
use Rattle.code.proofs.Windows.{looks_back}
use Rattle.transmit.specs.Keeping.{need, with_row}
use Rattle.transmit.specs.Refusing.{put_refused, tail_refused}
use Rattle.transmit.specs.Law.{list_of}
use Rattle.lines.specs.Lines.{ended, packet_line}
use Rattle.text.specs.declared.fault.LineFault.{LineFault}
use Rattle.text.specs.declared.fault.LineFault.TheVariants as fault
use Rattle.text.specs.declared.fault.RunFault.TheVariants as run
use Rattle.text.specs.Reading.{and_then, fitting, row_read}
use Rattle.text.proofs.Inverses.{row_inverse}
use Rattle.runs.specs.Whole.{fault_text, after_line, Read, joining, reading}
use Rattle.sending.specs.Printing.{fit, put_or, slot_text, row_taken, after_tail, tail_text, rows_text}
use Rattle.sending.specs.Text.{slots_text, tails, ending, list_text}

-- with one slot less, and one tail packet less to come
shifted : (m left : ℕ) → m < top_slots → ltb (top_slots - m) (suc left) ≡ ltb (top_slots - (m + 1)) left
shifted m left l = elim (cases_lt (top_slots - (m + 1)) left) [
  | inl less ↦ lt-ltb (top_slots - m) (suc left) (omega arith) ∙ sym (lt-ltb (top_slots - (m + 1)) left less)
  | inr more ↦ le-ltb (top_slots - m) (suc left) (omega arith) ∙ sym (le-ltb (top_slots - (m + 1)) left more)
]

-- fewer tail packets than T are given where fewer slots are left
fewer : (m t : ℕ) → ltb (top_slots - (m + 0)) t ≡ ltb (min t (top_slots - m)) t
fewer m t = elim (cases_lt (top_slots - m) t) [
  | inl less ↦ lt-ltb (top_slots - (m + 0)) t (omega arith) ∙ sym (lt-ltb (min t (top_slots - m)) t (omega arith))
  | inr more ↦ le-ltb (top_slots - (m + 0)) t (omega arith) ∙ sym (le-ltb (min t (top_slots - m)) t (omega arith))
]

module _ {S : Type 0} (K : Kind S) (F : Form S) (p : Sheet) where
  -- a row that is read is put
  not_refused : (t k : ℕ) → t ≤ 999999 → k ≡ p.row → put_refused p (need p) t k (n p) ≡ None
  not_refused t k few long =
      cond-false _ _ _ (le-ltb (need p) (need p) (omega arith))
      ∙ cond-false _ _ _ (lt-leb top_slots t (omega arith))
      ∙ cond-false _ _ _ (not_from_true (eqb k p.row) (eq-eqb k p.row long))
      ∙ cond-false _ _ _ (not_from_true (eqb (n p) (n p)) (eq-eqb (n p) (n p) refl))

  taken_by : (t : ℕ) (line : List ℕ) (r : Result (List S) LineFault) → row_read F p t line ≡ r →
      and_then (fitting (fault.Put put.Place) p.row r) (λ row. put_or (put_refused p (need p) t (length row) (n p)) row) ≡ r
  taken_by t line (Ok row) is =
      let w = (row_inverse K F p t line row).0 is in
      ap (λ x. and_then x (λ row. put_or (put_refused p (need p) t (length row) (n p)) row)) (cond-true _ _ _ (eq-eqb p.row (length row) (sym w.1)))
      ∙ ap (λ x. put_or x row) (not_refused t (length row) w.0 w.1)
  taken_by t line (Err e) is = refl

  pub taken_read : (t : ℕ) (line : List ℕ) → row_taken K F p (fit p) t line ≡ row_read F p t line
  taken_read t line = taken_by t line (row_read F p t line) refl

  -- lists of rows that have the same symbols
  abbrev Same : Rows S → Rows S → Type 0
  Same u v = (j b : ℕ) → u j b ≡ v j b

  slot_same : (u v : Rows S) (t : ℕ) → ((j b : ℕ) → j ≤ t → u j b ≡ v j b) → slot_text K F p u t ≡ slot_text K F p v t
  slot_same u v t same =
      ap (λ q. ended (packet_line F t q)) (looks_back K p u v t (λ b l. same t b (omega arith)) (λ j b l low high. same j b (omega (arith, p.bursts.0))))

  slots_same : (u v : Rows S) (m t : ℕ) → Same u v → slots_text K F p u t m ≡ slots_text K F p v t m
  slots_same u v zero t same = refl
  slots_same u v (suc m) t same = ap₂ ◌++◌ (slot_same u v t (λ j b l. same j b)) (slots_same u v m (t + 1) same)

  -- the tail, as far as the run has slots left
  tail_by : (rows : Rows S) (m left i : ℕ) → i + left ≤ T p →
      tail_text K F p (need p) (n p) rows m i left
      ≡ slots_text K F p rows (m + i) (min left (top_slots - (m + i)))
      ++ cond (ltb (top_slots - (m + i)) left) (fault_text (run.Tail (m + 2) TailRefusal.Slots)) []
  tail_by rows m zero i l =
      let z : min 0 (top_slots - (m + i)) ≡ 0 = omega arith in
      sym (ap₂ (λ k b. slots_text K F p rows (m + i) k ++ cond b (fault_text (run.Tail (m + 2) TailRefusal.Slots)) []) z (le-ltb (top_slots - (m + i)) 0 (omega arith)))
  tail_by rows m (suc left) i l = elim (cases_lt (m + i) top_slots) [
    | inl less ↦
        let q : ℕ = min left (top_slots - (m + (i + 1))) in
        let next : m + (i + 1) ≡ (m + i) + 1 = omega arith in
        let some : min (suc left) (top_slots - (m + i)) ≡ suc (min left (top_slots - (m + (i + 1)))) = omega arith in
        let none : tail_refused p (need p) (m + i) i (n p) ≡ None =
        cond-false _ _ _ (le-ltb (need p) (need p) (omega arith)) ∙ cond-false _ _ _ (lt-leb top_slots (m + i) less)
        ∙ cond-false _ _ _ (not_from_true (eqb (n p) (n p)) (eq-eqb (n p) (n p) refl)) ∙ cond-false _ _ _ (lt-leb (T p) i (omega arith)) in
        ap (λ o. after_tail m o (slot_text K F p rows (m + i) ++ tail_text K F p (need p) (n p) rows m (i + 1) left)) none
        ∙ ap (λ x. slot_text K F p rows (m + i) ++ x)
        (tail_by rows m left (i + 1) (omega arith)
        ∙ ap (λ k. slots_text K F p rows k q ++ cond (ltb (top_slots - (m + (i + 1))) left) (fault_text (run.Tail (m + 2) TailRefusal.Slots)) []) next)
        ∙ sym (append_assoc (slot_text K F p rows (m + i)) (slots_text K F p rows ((m + i) + 1) q) (cond (ltb (top_slots - (m + (i + 1))) left) (fault_text (run.Tail (m + 2) TailRefusal.Slots)) []))
        ∙ sym (ap₂ (λ k b. slots_text K F p rows (m + i) k ++ cond b (fault_text (run.Tail (m + 2) TailRefusal.Slots)) []) some (shifted (m + i) left less ∙ ap (λ k. ltb (top_slots - k) left) (sym next)))
    | inr more ↦
        let some : min (suc left) (top_slots - (m + i)) ≡ 0 = omega arith in
        let slots : tail_refused p (need p) (m + i) i (n p) ≡ Some TailRefusal.Slots =
        cond-false _ _ _ (le-ltb (need p) (need p) (omega arith)) ∙ cond-true _ _ _ (le-leb top_slots (m + i) more) in
        ap (λ o. after_tail m o (slot_text K F p rows (m + i) ++ tail_text K F p (need p) (n p) rows m (i + 1) left)) slots
        ∙ sym (ap₂ (λ k b. slots_text K F p rows (m + i) k ++ cond b (fault_text (run.Tail (m + 2) TailRefusal.Slots)) []) some (lt-ltb (top_slots - (m + i)) (suc left) (omega arith)))
  ]

  tail_is : (rows : Rows S) (m : ℕ) → tail_text K F p (need p) (n p) rows m 0 (T p) ≡ ending K F p rows m None
  tail_is rows m =
      tail_by rows m (T p) 0 (omega arith)
      ∙ ap₂ (λ k b. slots_text K F p rows k (min (T p) (top_slots - k)) ++ cond b (fault_text (run.Tail (m + 2) TailRefusal.Slots)) []) (let e : m + 0 ≡ m = omega arith in e)
      (fewer m (T p))

  ending_same : (u v : Rows S) (m : ℕ) (f : Option LineFault) → Same u v → ending K F p u m f ≡ ending K F p v m f
  ending_same u v m (Some e) same = refl
  ending_same u v m None same =
      ap (λ x. x ++ cond (ltb (tails K F p m) (T p)) (fault_text (run.Tail (m + 2) TailRefusal.Slots)) []) (slots_same u v (tails K F p m) m same)

  -- the text of rows that were read after t others
  abbrev told : List (List S) → ℕ → Read (List S) → List ℕ
  told past t read =
      slots_text K F p (list_of K (past ++ read.values)) t (length read.values)
      ++ ending K F p (list_of K (past ++ read.values)) (t + length read.values) read.fault

  module _ (past : List (List S)) (u : Rows S) (t : ℕ) (row : List S) (is : t ≡ length past) (same : Same u (list_of K past)) where
    earlier : (rest : List (List S)) (j b : ℕ) → j ≤ t → with_row K u t row j b ≡ list_of K (past ++ (row ∷ rest)) j b
    earlier rest j b l = elim (cases_eq j t) [
      | inl e ↦
          cond-true _ _ _ (eq-eqb j t e)
          ∙ sym (ap (λ i. list_of K (past ++ (row ∷ rest)) i b) e ∙ ap (λ r. get_or r b K.zero) (get_or_at past row rest [] t (sym is)))
      | inr e ↦
          cond-false _ _ _ (ne_eqb j t e) ∙ same j b
          ∙ sym (ap (λ r. get_or r b K.zero) (get_or_append_left past (row ∷ rest) [] j (omega arith)))
    ]

    with_one : Same (with_row K u t row) (list_of K (past ++ (row ∷ [])))
    with_one j b = elim (cases_lt t j) [
      | inl l ↦
          cond-false _ _ _ (ne_eqb j t (λ e. omega arith)) ∙ same j b
          ∙ ap (λ r. get_or r b K.zero) (get_or_past past j [] (omega arith) ∙ sym (get_or_past (past ++ (row ∷ [])) j [] (omega (arith, length-append past (row ∷ [])))))
      | inr l ↦ earlier [] j b l
    ]

    one_more : (later : Read (List S)) →
        slot_text K F p (with_row K u t row) t ++ told (past ++ (row ∷ [])) (t + 1) later ≡ told past t (joining (Ok row) later)
    one_more later =
        let vs : List (List S) = later.values in
        let rows : Rows S = list_of K (past ++ (row ∷ later.values)) in
        ap₂ (λ a xs. a ++ (slots_text K F p (list_of K xs) (t + 1) (length later.values) ++ ending K F p (list_of K xs) ((t + 1) + length later.values) later.fault))
        (slot_same (with_row K u t row) rows t (earlier vs)) (append_assoc past (row ∷ []) vs)
        ∙ sym (append_assoc (slot_text K F p rows t) (slots_text K F p rows (t + 1) (length later.values)) (ending K F p rows ((t + 1) + length later.values) later.fault))
        ∙ ap (λ m. slots_text K F p rows t (suc (length later.values)) ++ ending K F p rows m later.fault)
        (let e : (t + 1) + length later.values ≡ t + suc (length later.values) = omega arith in e)

  module _ (past : List (List S)) (u : Rows S) (t : ℕ) (is : t ≡ length past) (same : Same u (list_of K past)) (line : List ℕ) (lines : List (List ℕ)) where
    abbrev later : Read (List S)
    later = reading (row_read F p) (t + 1) lines

    abbrev follows : List S → List ℕ
    follows row = slot_text K F p (with_row K u t row) t ++ rows_text K F p (fit p) (with_row K u t row) (t + 1) lines

    by_line : (r : Result (List S) LineFault) → row_read F p t line ≡ r →
        ((row : List S) → rows_text K F p (fit p) (with_row K u t row) (t + 1) lines ≡ told (past ++ (row ∷ [])) (t + 1) later) →
        after_line t (row_taken K F p (fit p) t line) follows ≡ told past t (joining (row_read F p t line) later)
    by_line (Ok row) r-is next =
        ap (λ r. after_line t r follows) (taken_read t line ∙ r-is)
        ∙ ap (λ x. slot_text K F p (with_row K u t row) t ++ x) (next row)
        ∙ one_more past u t row is same later
        ∙ sym (ap (λ r. told past t (joining r later)) r-is)
    by_line (Err e) r-is next =
        ap (λ r. after_line t r follows) (taken_read t line ∙ r-is)
        ∙ ap (λ m. fault_text (run.Line (m + 2) e)) (let z : t ≡ t + 0 = omega arith in z)
        ∙ sym (ap (λ r. told past t (joining r later)) r-is)

  whole_by : (lines : List (List ℕ)) (past : List (List S)) (u : Rows S) (t : ℕ) → t ≡ length past → Same u (list_of K past) →
      rows_text K F p (fit p) u t lines ≡ told past t (reading (row_read F p) t lines)
  whole_by [] past u t is same =
      tail_is u t
      ∙ ending_same u (list_of K (past ++ [])) t None (λ j b. same j b ∙ ap (λ xs. list_of K xs j b) (sym (append-nil past)))
      ∙ ap (λ m. ending K F p (list_of K (past ++ [])) m None) (let e : t ≡ t + 0 = omega arith in e)
  whole_by (line ∷ lines) past u t is same =
      by_line past u t is same line lines (row_read F p t line) refl (λ row.
      whole_by lines (past ++ (row ∷ [])) (with_row K u t row) (t + 1) (omega (arith, length-append past (row ∷ []))) (with_one past u t row is same))

  -- from the first row on
  pub whole_run : (lines : List (List ℕ)) → rows_text K F p (fit p) (list_of K []) 0 lines ≡ list_text K F p (reading (row_read F p) 0 lines)
  whole_run lines =
      whole_by lines [] (list_of K []) 0 refl (λ j b. refl)
      ∙ ap (λ m. slots_text K F p (list_of K (reading (row_read F p) 0 lines).values) 0 (length (reading (row_read F p) 0 lines).values)
      ++ ending K F p (list_of K (reading (row_read F p) 0 lines).values) m (reading (row_read F p) 0 lines).fault)
      (let e : 0 + length (reading (row_read F p) 0 lines).values ≡ length (reading (row_read F p) 0 lines).values = omega arith in e)
