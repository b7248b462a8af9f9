-- What a slot that was taken prints and counts. Assumes nothing.
use Rattle.std.proofs.Common.{◌≡◌, ℕ, ◌+◌, ◌-◌, ◌*◌, ◌<◌, ◌≤◌, Bool, cond, ltb, List, ◌++◌, length, vec_items, Option, sym, refl, ap, ◌∙◌, subst, ap₂, inl, inr, arith}
use Rattle.std.proofs.lemmas.List.FromFn.{length-map-range_with_len}
use Rattle.std.proofs.lemmas.List.{append-nil}
use Rattle.std.proofs.lemmas.Bool.{cases_lt, cond-true, cond-false, lt-ltb, le-ltb, or_from}
use Rattle.kinds.specs.Kind.{Kind}
use Rattle.kinds.specs.Form.{Form}
use Rattle.code.specs.declared.mark.Mark.{Mark}
use Rattle.code.specs.declared.sheet.Sheet.{Sheet}
use Rattle.code.specs.Sheets.{T}
use Rattle.code.specs.Mending.{History, heard, mark, marks_of, given}
use Rattle.receive.specs.declared.due.Verdict.{Verdict}
use Rattle.receive.specs.declared.receiver.Receiver.{Receiver}
use Rattle.receive.specs.Memory.{memory}
use Rattle.receive.specs.Refusing.{unfit}
use Rattle.receive.specs.Handing.{Answer, Reply, replied, one, verdict, whole_row, mended_row, lost_row}
use Rattle.receive.specs.Calls.{room, tally_of, SlotCall}
use Rattle.receive.specs.Calls as calls
use Rattle.receive.proofs.Slots.{Accepted}
use Rattle.lines.specs.Lines.{ended, due_line}
use Rattle.lines.proofs.Written.{right, no_refusal}
use Rattle.runs.specs.declared.standing.Standing.{Standing}
use Rattle.runs.specs.Whole.{unless}
use Rattle.mending.specs.declared.run.MendRun.{MendRun}
use Rattle.mending.specs.Printing.{one_slot, one_row, due_printed, slot_text, counted}
use Rattle.mending.specs.Running.{told_by, PrintedBy}

pub tally_path : (slots slots' whole whole' mended mended' lost lost' : ℕ) → slots ≡ slots' → whole ≡ whole' → mended ≡ mended' → lost ≡ lost' →
    tally_of slots whole mended lost ≡ tally_of slots' whole' mended' lost'
tally_path slots slots' whole whole' mended mended' lost lost' e f g h =
    ap (λ x. tally_of x whole mended lost) e ∙ ap (λ x. tally_of slots' x mended lost) f
    ∙ ap (λ x. tally_of slots' whole' x lost) g ∙ ap (λ x. tally_of slots' whole' mended' x) h

module _ {S : Type 0} (F : Form S) (p : Sheet) where
  -- a row of the sheet's length is printed
  pub due_is_printed : (number : ℕ) (row : List S) (marks : List Mark) → number < 1000000 → length row ≡ p.row → length marks ≡ p.row →
      due_printed F p number row marks ≡ ended (due_line F number row marks)
  due_is_printed number row marks few long marked =
      ap (λ r. unless r (ended (due_line F number row marks)))
      (no_refusal _ _ _ (le-ltb 999999 number (omega arith)) (or_from _ _ (right p.row (length row) long) (right p.row (length marks) marked))
      (right (10 + p.row * F.layout.width) (10 + p.row * F.layout.width) refl))

-- what a slot that was taken prints and counts
pub record Handed {S : Type 0} (K : Kind S) (F : Form S) (p : Sheet) (t : ℕ) (before after : Receiver S) (a : Reply S) (standing standing' : Standing) (out out' : List ℕ) : Type 0 where
  pub stands : standing' ≡ standing
  pub text : out' ≡ out ++ slot_text K F p (memory K after) t
  pub told : told_by after ≡ counted K F p (memory K after) t (told_by before)
  pub row : length a.row' ≡ length a.row
  pub marks : length a.marks' ≡ length a.marks

module _ {S : Type 0} (K : Kind S) (F : Form S) (p : Sheet) (t : ℕ) (mid after : MendRun S) (came : Option (List S)) (answer : Answer) (out out' : List ℕ)
    (sheet-is : mid.sheet ≡ p) (slots : mid.receiver.counters.slots ≡ t)
    (printed : PrintedBy F mid after out out' answer)
  where
    abbrev a : Reply S
    a = replied (vec_items mid.row) (vec_items after.row) (vec_items mid.marks) (vec_items after.marks) answer

    module _ (x : calls.Taken K p t mid.receiver after.receiver came a) (fit : Accepted p (room mid.receiver) t (unfit p came) (length (vec_items mid.row)) (length (vec_items mid.marks))) where
      abbrev h : History S
      h = memory K after.receiver

      early : t < T p → Handed K F p t mid.receiver after.receiver a mid.reader.standing after.reader.standing out out'
      early l =
          let w = x.hands.early l in
          let test = lt-ltb t (T p) l in
          let told = subst (λ (r : Answer). PrintedBy F mid after out out' r) w.answer printed in
          let none : (test : Verdict → Bool) → one test answer ≡ 0 = λ test. ap (one test) w.answer in
          record {
            stands = told.0;
            text = told.1 ∙ sym (append-nil out) ∙ ap (λ text. out ++ text) (sym (cond-true _ _ _ test));
            told =
                tally_path _ _ _ _ _ _ _ _ (omega (arith, x.slots)) (omega (arith, x.whole, none whole_row)) (omega (arith, x.mended, none mended_row)) (omega (arith, x.lost, none lost_row))
                ∙ sym (cond-true (ltb t (T p)) (one_slot (told_by mid.receiver)) _ test);
            row = ap length w.row;
            marks = ap length w.marks;
          }

      late : T p ≤ t → Handed K F p t mid.receiver after.receiver a mid.reader.standing after.reader.standing out out'
      late l =
          let j : ℕ = t - T p in
          let w = x.hands.late (t - T p) (omega arith) in
          let test = le-ltb t (T p) l in
          let told = subst (λ (r : Answer). PrintedBy F mid after out out' r) w.answer printed in
          let once : (test : Verdict → Bool) → one test answer ≡ cond (test (verdict (marks_of p (heard h) (t - T p)))) 1 0 = λ test. ap (one test) w.answer in
          let long : length (vec_items after.row) ≡ p.row = ap length w.row ∙ length-map-range_with_len (given K p h (t - T p)) 0 p.row in
          let marked : length (vec_items after.marks) ≡ p.row = ap length w.marks ∙ length-map-range_with_len (mark p (heard h) (t - T p)) 0 p.row in
          record {
            stands = told.0;
            text = told.1 ∙ ap (λ text. out ++ text)
                (ap (λ s. due_printed F s (t - T p) (vec_items after.row) (vec_items after.marks)) sheet-is
                ∙ due_is_printed F p (t - T p) (vec_items after.row) (vec_items after.marks) (omega (arith, fit.few)) long marked
                ∙ ap₂ (λ row marks. ended (due_line F (t - T p) row marks)) w.row w.marks
                ∙ sym (cond-false _ _ _ test));
            told =
                tally_path _ _ _ _ _ _ _ _ (omega (arith, x.slots)) (x.whole ∙ ap (λ m. mid.receiver.counters.whole + m) (once whole_row))
                (x.mended ∙ ap (λ m. mid.receiver.counters.mended + m) (once mended_row)) (x.lost ∙ ap (λ m. mid.receiver.counters.lost + m) (once lost_row))
                ∙ sym (cond-false (ltb t (T p)) _ (one_row (verdict (marks_of p (heard h) (t - T p))) (told_by mid.receiver)) test);
            row = long ∙ sym fit.row_place;
            marks = marked ∙ sym fit.mark_place;
          }

      pub handed : Handed K F p t mid.receiver after.receiver a mid.reader.standing after.reader.standing out out'
      handed = elim (cases_lt t (T p)) [
        | inl l ↦ early l
        | inr l ↦ late l
      ]
