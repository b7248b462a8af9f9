-- What `send` prints for a list of rows, and what `mend` reads of it after the hall, line by line.
use Rattle.std.proofs.Common.{◌≡◌, ℕ, zero, suc, ◌+◌, ◌-◌, ◌<◌, ◌≤◌, min, Bool, true, false, cond, not, ◌&&◌, ltb, List, [], ◌∷◌, ◌++◌, map, length, Some, None, Ok, Option, Result, sym, refl, ap, ◌∙◌, ap₂, inl, inr, zero-add, arith}
use mathlib.Core.Path.{fun_ext}
use Rattle.std.specs.List.{range_with_len, flat_map, AllByRecursion}
use Rattle.std.proofs.lemmas.List.FromFn.{length-map-range_with_len, get_or-map-range_with_len}
use Rattle.std.proofs.lemmas.List.{append_assoc, append-nil, map-append, get_or_past}
use Rattle.std.proofs.lemmas.Bool.{cond-false, cases_lt, lt-ltb, le-ltb, and_left}
use Rattle.kinds.specs.Kind.{Kind}
use Rattle.kinds.specs.Form.{Form}
use Rattle.code.specs.declared.refusal.TailRefusal.{TailRefusal}
use Rattle.code.specs.declared.sheet.Sheet.{Sheet}
use Rattle.code.specs.Sheets.{T}
use Rattle.code.specs.Packets.{Rows, packet}
use Rattle.code.specs.Refusals.{top_slots}
use Rattle.code.proofs.Windows.{whole}
use Rattle.transmit.specs.Law.{list_of}
use Rattle.lines.specs.Lines.{ended, row_line, packet_line, missed_line}
use Rattle.text.specs.declared.fault.LineFault.{LineFault}
use Rattle.text.specs.declared.fault.RunFault.TheVariants as run
use Rattle.text.specs.Reading.{and_then, row_read}
use Rattle.text.proofs.Inverses.{row_inverse, packet_inverse, missed_inverse}
use Rattle.stream.specs.Lines.{Unended}
use Rattle.runs.specs.Whole.{fault_text, Read, joining, reading, slot_read}
use Rattle.sending.specs.Text.{slots_text, ending}
use Rattle.mending.specs.Text.{came_in}
use Rattle.mending.specs.Text as mend
use Rattle.mending.specs.Printing.{tally_text}
use Rattle.relay.specs.Relaying.{text_of, row_lines, turned, arriving}
use Rattle.relay.proofs.Unended.{of_symbols_line, of_missed}

-- lines that all read as values
abbrev all_of : {X : Type 0} → List X → Read X
all_of xs = record { values = xs; fault = None }

-- Numbers one after the other.

counting_append : (a m n : ℕ) → range_with_len a (m + n) ≡ range_with_len a m ++ range_with_len (a + m) n
counting_append a zero n = ap₂ range_with_len (let e : a ≡ a + 0 = omega arith in e) (zero-add n)
counting_append a (suc m) n =
    let e : suc m + n ≡ suc (m + n) = omega arith in
    let f : a + 1 + m ≡ a + suc m = omega arith in
    ap (range_with_len a) e ∙ ap (λ x. a ∷ x) (counting_append (a + 1) m n ∙ ap (λ x. range_with_len (a + 1) m ++ range_with_len x n) f)

text_append : (lines more : List (List ℕ)) → text_of (lines ++ more) ≡ text_of lines ++ text_of more
text_append [] more = refl
text_append (first ∷ lines) more =
    ap (λ x. ended first ++ x) (text_append lines more) ∙ sym (append_assoc (ended first) (text_of lines) (text_of more))

module _ (line : ℕ → List ℕ) where
  -- the text of lines that are made by a number each
  numbered_text : (ts : List ℕ) → flat_map (λ t. ended (line t)) ts ≡ text_of (map line ts)
  numbered_text [] = refl
  numbered_text (t ∷ ts) = ap (λ x. ended (line t) ++ x) (numbered_text ts)

  -- two runs of lines are one
  two_runs : (m n : ℕ) →
      flat_map (λ t. ended (line t)) (range_with_len 0 m) ++ flat_map (λ t. ended (line t)) (range_with_len m n)
      ≡ text_of (map line (range_with_len 0 (m + n)))
  two_runs m n =
      let all : range_with_len 0 (m + n) ≡ range_with_len 0 m ++ range_with_len m n =
      counting_append 0 m n ∙ ap (λ x. range_with_len 0 m ++ range_with_len x n) (zero-add m) in
      ap₂ ◌++◌ (numbered_text (range_with_len 0 m)) (numbered_text (range_with_len m n))
      ∙ (sym (text_append (map line (range_with_len 0 m)) (map line (range_with_len m n)))
      ∙ ap text_of (sym (map-append line (range_with_len 0 m) (range_with_len m n)) ∙ ap (map line) (sym all)))

  numbered_unended : ((t : ℕ) → Unended (line t)) → (ts : List ℕ) → AllByRecursion Unended (map line ts)
  numbered_unended u [] = tt
  numbered_unended u (t ∷ ts) = (u t, numbered_unended u ts)

  -- the hall's lines
  pub turned_is : (missed : ℕ → Bool) (t m : ℕ) →
      turned missed t (map line (range_with_len t m)) ≡ map (λ s. cond (missed s) (missed_line s) (line s)) (range_with_len t m)
  turned_is missed t zero = refl
  turned_is missed t (suc m) = ap (λ x. cond (missed t) (missed_line t) (line t) ∷ x) (turned_is missed (t + 1) m)

  -- lines that read as values one after the other
  numbered_read : {X : Type 0} (read : ℕ → List ℕ → Result X LineFault) (value : ℕ → X) (top : ℕ) →
      ((t : ℕ) → t < top → read t (line t) ≡ Ok (value t)) → (t m : ℕ) → t + m ≤ top →
      reading read t (map line (range_with_len t m)) ≡ all_of (map value (range_with_len t m))
  numbered_read read value top reads t zero h = refl
  numbered_read read value top reads t (suc m) h =
      ap₂ joining (reads t (omega arith)) (numbered_read read value top reads (t + 1) m (omega arith))

module _ {S : Type 0} (K : Kind S) (F : Form S) (p : Sheet) where
  -- the R lines read as their rows
  pub rows_read : (t : ℕ) (rows : List (List S)) → AllByRecursion (λ row. length row ≡ p.row) rows → t + length rows ≤ top_slots →
      reading (row_read F p) t (row_lines F t rows) ≡ all_of rows
  rows_read t [] fit h = refl
  rows_read t (row ∷ rows) fit h =
      let few : t ≤ 999999 = omega arith in
      ap₂ joining ((row_inverse K F p t (row_line F t row) row).1 (few, fit.0, refl)) (rows_read (t + 1) rows fit.1 (omega arith))

  module _ (rows : Rows S) where
    -- the A line of slot t
    abbrev pub slot_line : ℕ → List ℕ
    slot_line t = packet_line F t (packet K p rows t)

    -- where there are slots enough, the rows have all their slots and those of the tail, and no X line follows
    pub all_slots : (m : ℕ) → m + T p ≤ top_slots →
        slots_text K F p rows 0 m ++ ending K F p rows m None ≡ text_of (map slot_line (range_with_len 0 (m + T p)))
    all_slots m h =
        let few : min (T p) (top_slots - m) ≡ T p = omega arith in
        let none : ltb (min (T p) (top_slots - m)) (T p) ≡ false = le-ltb _ _ (omega arith) in
        let tail : ending K F p rows m None ≡ slots_text K F p rows m (T p) =
        ap₂ ◌++◌ (ap (slots_text K F p rows m) few) (cond-false _ (fault_text (run.Tail (m + 2) TailRefusal.Slots)) [] none)
        ∙ append-nil (slots_text K F p rows m (T p)) in
        ap (λ x. slots_text K F p rows 0 m ++ x) tail ∙ two_runs slot_line m (T p)

    pub slots_unended : (ts : List ℕ) → AllByRecursion Unended (map slot_line ts)
    slots_unended ts = numbered_unended slot_line (λ t. of_symbols_line F 65 t (packet K p rows t) refl) ts

    module _ (missed : ℕ → Bool) where
      -- the line of slot t after the hall ..
      abbrev pub hall_line : ℕ → List ℕ
      hall_line t = cond (missed t) (missed_line t) (slot_line t)

      -- .. and what it says
      abbrev pub said : ℕ → Option (List S)
      said t = cond (missed t) None (Some (packet K p rows t))

      hall_unended_at : (b : Bool) (t : ℕ) → Unended (cond b (missed_line t) (slot_line t))
      hall_unended_at true t = of_missed t
      hall_unended_at false t = of_symbols_line F 65 t (packet K p rows t) refl

      pub hall_unended : (ts : List ℕ) → AllByRecursion Unended (map hall_line ts)
      hall_unended ts = numbered_unended hall_line (λ t. hall_unended_at (missed t) t) ts

      slot_reads_at : (b : Bool) (t : ℕ) → t < top_slots →
          slot_read F p t (cond b (missed_line t) (slot_line t)) ≡ Ok (cond b None (Some (packet K p rows t)))
      slot_reads_at true t h =
          let few : t ≤ 999999 = omega arith in
          ap (λ x. and_then x (λ _. Ok None)) ((missed_inverse t (missed_line t)).1 (few, refl))
      slot_reads_at false t h =
          let few : t ≤ 999999 = omega arith in
          ap (λ x. and_then x (λ packet'. Ok (Some packet')))
          ((packet_inverse K F p t (slot_line t) (packet K p rows t)).1 (few, whole K p rows t, refl))

      pub slots_read : (m : ℕ) → m ≤ top_slots →
          reading (slot_read F p) 0 (map hall_line (range_with_len 0 m)) ≡ all_of (map said (range_with_len 0 m))
      slots_read m h =
          numbered_read hall_line (slot_read F p) said top_slots (λ t. slot_reads_at (missed t) t) 0 m (omega arith)

  module _ (rows : List (List S)) (missed : ℕ → Bool) where
    abbrev all_said : ℕ → List (Option (List S))
    all_said m = map (said (list_of K rows) missed) (range_with_len 0 m)

    arriving_at : (b : Bool) (s : ℕ) → s < length rows + T p →
        cond b None (Some (packet K p (list_of K rows) s))
        ≡ cond (ltb s (length rows + T p) && not b) (Some (packet K p (list_of K rows) s)) None
    arriving_at true s h = ap (λ x. cond (x && false) (Some (packet K p (list_of K rows) s)) None) (sym (lt-ltb _ _ h))
    arriving_at false s h = ap (λ x. cond (x && true) (Some (packet K p (list_of K rows) s)) None) (sym (lt-ltb _ _ h))

    -- what the lines say is what arrives
    said_arrives : came_in (all_said (length rows + T p)) ≡ arriving K p rows missed
    said_arrives = fun_ext (λ s. elim (cases_lt s (length rows + T p)) [
      | inl h ↦
          get_or-map-range_with_len (said (list_of K rows) missed) 0 (length rows + T p) s s None h (zero-add s)
          ∙ arriving_at (missed s) s h
      | inr h ↦
          let l : length (all_said (length rows + T p)) ≤ s =
          (let e = length-map-range_with_len (said (list_of K rows) missed) 0 (length rows + T p) in omega arith) in
          get_or_past (all_said (length rows + T p)) s None l
          ∙ sym (cond-false _ _ _ (and_left (ltb s (length rows + T p)) (not (missed s)) (le-ltb _ _ h)))
    ])

    -- so `mend` prints what follows from what arrives
    pub mend_prints :
        mend.list_text K F p (all_of (all_said (length rows + T p)))
        ≡ mend.rows_text K F p (arriving K p rows missed) (length rows + T p)
        ++ tally_text (mend.tally_after K F p (arriving K p rows missed) (length rows + T p))
    mend_prints =
        ap₂ (λ h m. mend.rows_text K F p h m ++ tally_text (mend.tally_after K F p h m)) said_arrives
        (length-map-range_with_len (said (list_of K rows) missed) 0 (length rows + T p))
