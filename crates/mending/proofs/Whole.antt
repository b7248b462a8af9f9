-- What a run prints line by line is the text of the whole run. Assumes nothing.
use Rattle.std.proofs.Common.{◌≡◌, ℕ, ◌+◌, ◌-◌, ◌<◌, ◌≤◌, Bool, false, cond, not, eqb, List, [], ◌∷◌, ◌++◌, map, length, get_or, take, drop, Some, None, Ok, Err, Option, Result, sym, refl, ap, ◌∙◌, ap₂, inl, inr, arith}
use Rattle.std.specs.List.{range_with_len, flat_map}
use Rattle.std.proofs.lemmas.List.FromFn.{map-range_with_len_more}
use Rattle.std.proofs.lemmas.List.{append-nil, append_assoc, length-append, flat_map_more, get_or_append_left, get_or_push, get_or-append_right}
use Rattle.std.proofs.lemmas.Bool.{cases_Bool, cases_eq, cases_lt, cond-true, cond-false, eq-eqb, ne_eqb, eqb-true, lt-ltb, le-ltb, lt-leb, or_from}
use Rattle.kinds.specs.Kind.{Kind}
use Rattle.kinds.specs.Form.{Form}
use Rattle.kinds.proofs.Lists.{map_same}
use Rattle.code.specs.declared.refusal.SlotRefusal.TheVariants as slot
use Rattle.code.specs.declared.sheet.Sheet.{Sheet}
use Rattle.code.specs.Sheets.{T, n}
use Rattle.code.specs.Mending.{History, heard, marks_of}
use Rattle.code.specs.Refusals.{top_slots}
use Rattle.receive.specs.declared.due.Verdict.{Verdict}
use Rattle.receive.specs.declared.due.Verdict.TheVariants.{Whole}
use Rattle.receive.specs.Memory.{need}
use Rattle.receive.specs.Refusing.{slot_refused}
use Rattle.receive.specs.Handing.{count, verdict, whole_row, mended_row, lost_row}
use Rattle.receive.specs.Calls.{tally_of}
use Rattle.lines.specs.Fields.{field_read}
use Rattle.lines.specs.Lines.{ended, due_line}
use Rattle.text.specs.declared.fault.LineFault.{LineFault}
use Rattle.text.specs.declared.fault.LineFault.TheVariants as fault
use Rattle.text.specs.Reading.{and_then, begins, fitting, number_of, packet_read, missed_read}
use Rattle.text.proofs.Inverses.{then_ok, cond_ok, field_ok, number_read, symbols_parts}
use Rattle.text.proofs.Symbols.{length_read}
use Rattle.runs.specs.Whole.{after_line, Read, joining, reading, slot_read}
use Rattle.mending.specs.Printing.{fit, slot_or, with_slot, due_text, slot_text, counted, slot_taken, slots_text}
use Rattle.mending.specs.Text.{came_in, rows_text, verdicts, tally_after, ending, list_text}
use Rattle.mending.proofs.Handed.{tally_path}
use Rattle.mending.proofs.Alike.{row_alike, marks_alike, follows, follows_alike}

-- a line that was read has a number below 1,000,000
missed_few : (t : ℕ) (line : List ℕ) (u : Unit {0}) → missed_read t line ≡ Ok u → t < top_slots
missed_few t line u is =
    let a = cond_ok (begins 77 line) _ _ u is in
    let b = cond_ok (eqb (length line) 9) _ _ u a.1 in
    let c = then_ok (number_of line) _ u b.1 in
    let d = cond_ok (eqb c.0 t) (Ok tt) _ u c.2 in
    let e = number_read 2 999999 (length (take 8 (drop 1 line))) c.0 (take 8 (drop 1 line)) (field_ok (field_read 2 999999 (take 8 (drop 1 line))) c.0 c.1) refl in
    omega (arith, e.1, eqb-true c.0 t d.0)

module _ {S : Type 0} (F : Form S) (p : Sheet) (t : ℕ) (line : List ℕ) where
  -- the symbols of a packet fill the place that its sheet needs
  packet_fits : (r : Result (List S) LineFault) → ((xs : List S) → r ≡ Ok xs → length xs ≡ n p) → fitting (fault.Slot slot.Place) (n p) r ≡ r
  packet_fits (Ok xs) long = cond-true _ _ _ (eq-eqb (n p) (length xs) (sym (long xs refl)))
  packet_fits (Err e) long = refl

  packet_same : fitting (fault.Slot slot.Place) (n p) (packet_read F p t line) ≡ packet_read F p t line
  packet_same = packet_fits (packet_read F p t line) (λ xs is. length_read F (n p) 10 (drop 9 line) xs (symbols_parts F 65 (n p) t line xs is).1)

  few : (came : Option (List S)) → slot_read F p t line ≡ Ok came → t < top_slots
  few came is = elim (cases_Bool (begins 77 line)) [
    | inl m ↦
        let a = then_ok (missed_read t line) _ came (sym (cond-true _ _ _ m) ∙ is) in
        missed_few t line a.0 a.1
    | inr m ↦
        let a = then_ok (packet_read F p t line) _ came (sym (cond-false _ _ _ m) ∙ is) in
        omega (arith, (symbols_parts F 65 (n p) t line a.0 a.1).0)
  ]

  accepts : t < top_slots → slot_refused p (need p) t false p.row p.row ≡ None
  accepts l =
      cond-false _ _ _ (le-ltb (need p) (need p) (omega arith)) ∙ cond-false _ _ _ (lt-leb top_slots t l)
      ∙ cond-false _ _ _ (or_from _ _ (ap not (eq-eqb p.row p.row refl)) (ap not (eq-eqb p.row p.row refl)))

  by_read : (r : Result (Option (List S)) LineFault) → ((came : Option (List S)) → r ≡ Ok came → t < top_slots) →
      and_then r (slot_or (slot_refused p (need p) t false p.row p.row)) ≡ r
  by_read (Ok came) below = ap (λ e. slot_or e came) (accepts (below came refl))
  by_read (Err e) below = refl

  -- a run that is lent what its sheet needs takes each slot that is read
  pub takes : (K : Kind S) → slot_taken K F p (fit p) t line ≡ slot_read F p t line
  takes K =
      ap (λ (r : Result (List S) LineFault). and_then (cond (begins 77 line) (and_then (missed_read t line) (λ _. Ok None)) (and_then r (λ packet. Ok (Some packet)))) (slot_or (slot_refused p (need p) t false p.row p.row))) packet_same
      ∙ by_read (slot_read F p t line) few

-- one slot more
came_more : {S : Type 0} (past : List (Option (List S))) (came : Option (List S)) (t s : ℕ) → length past ≡ t →
    with_slot (came_in past) t came s ≡ came_in (past ++ (came ∷ [])) s
came_more past came t s long = elim (cases_eq s t) [
  | inl e ↦ cond-true _ _ _ (eq-eqb s t e) ∙ sym (get_or_push past came None s (long ∙ sym e))
  | inr e ↦ cond-false _ _ _ (ne_eqb s t e) ∙ elim (cases_lt s t) [
    | inl l ↦ sym (get_or_append_left past (came ∷ []) None s (omega arith))
    | inr l ↦
        sym (ap (λ xs. get_or xs s None) (append-nil past)) ∙ get_or-append_right past [] t s None long l
        ∙ sym (get_or-append_right past (came ∷ []) t s None long l ∙ beyond (s - t) (omega arith))
  ]
]
  where
    beyond : (i : ℕ) → 1 ≤ i → get_or (came ∷ []) i None ≡ None
    beyond i l = get_or-append_right (came ∷ []) [] 1 i None refl l

-- lists over counted numbers
joined_map : {X A : Type 0} (f : X → List A) (xs : List X) → flat_map f xs ≡ flat_map (λ ys. ys) (map f xs)
joined_map f [] = refl
joined_map f (x ∷ xs) = ap (λ ys. f x ++ ys) (joined_map f xs)

joined_same : (f g : ℕ → List ℕ) (m : ℕ) → ((j : ℕ) → j < m → f j ≡ g j) → flat_map f (range_with_len 0 m) ≡ flat_map g (range_with_len 0 m)
joined_same f g m same =
    joined_map f (range_with_len 0 m) ∙ ap (flat_map (λ ys. ys)) (map_same f g m [] same) ∙ sym (joined_map g (range_with_len 0 m))

joined_push : (f : ℕ → List ℕ) (m : ℕ) → flat_map f (range_with_len 0 (m + 1)) ≡ flat_map f (range_with_len 0 m) ++ f m
joined_push f m =
    joined_map f (range_with_len 0 (m + 1)) ∙ ap (flat_map (λ ys. ys)) (map-range_with_len_more f 0 m m (omega arith))
    ∙ sym (flat_map_more (λ ys. ys) [] (map f (range_with_len 0 m)) (f m)) ∙ ap (λ xs. xs ++ f m) (sym (joined_map f (range_with_len 0 m)))

count_push : {X : Type 0} (test : X → Bool) (xs : List X) (x : X) → count test (xs ++ (x ∷ [])) ≡ count test xs + cond (test x) 1 0
count_push test [] x = omega arith
count_push test (y ∷ xs) x = omega (arith, count_push test xs x)

module _ {S : Type 0} (K : Kind S) (F : Form S) (p : Sheet) where
  -- histories that agree below slot t
  module _ (t : ℕ) (h g : History S) (same : (s : ℕ) → s < t → h s ≡ g s) where
    near : (j : ℕ) → j < t - T p → (s : ℕ) → j + p.burst ≤ s + T p → s ≤ j + T p → h s ≡ g s
    near j l s low high = same s (omega arith)

    rows_same : rows_text K F p h t ≡ rows_text K F p g t
    rows_same = joined_same (due_text K F p h) (due_text K F p g) (t - T p) (λ j l.
        ap₂ (λ row marks. ended (due_line F j row marks)) (row_alike K p j h g (near j l)) (marks_alike K p j h g (near j l)))

    verdicts_same : verdicts K F p h t ≡ verdicts K F p g t
    verdicts_same = map_same _ _ (t - T p) Whole (λ j l. ap verdict (marks_alike K p j h g (near j l)))

    -- .. have the same rows due below it, and one more with it
    rows_more : rows_text K F p h t ++ slot_text K F p g t ≡ rows_text K F p g (t + 1)
    rows_more = ap (λ text. text ++ slot_text K F p g t) rows_same ∙ elim (cases_lt t (T p)) [
      | inl l ↦
          ap (λ text. rows_text K F p g t ++ text) (cond-true _ _ _ (lt-ltb t (T p) l)) ∙ append-nil (rows_text K F p g t)
          ∙ ap (λ m. flat_map (due_text K F p g) (range_with_len 0 m)) (let e : t - T p ≡ (t + 1) - T p = omega arith in e)
      | inr l ↦
          ap (λ text. rows_text K F p g t ++ text) (cond-false _ _ _ (le-ltb t (T p) l)) ∙ sym (joined_push (due_text K F p g) (t - T p))
          ∙ ap (λ m. flat_map (due_text K F p g) (range_with_len 0 m)) (let e : (t - T p) + 1 ≡ (t + 1) - T p = omega arith in e)
    ]

    abbrev v : ℕ → Verdict
    v j = verdict (marks_of p (heard g) j)

    counts_more : T p ≤ t → (test : Verdict → Bool) → count test (verdicts K F p h t) + cond (test (v (t - T p))) 1 0 ≡ count test (verdicts K F p g (t + 1))
    counts_more l test =
        ap (λ vs. count test vs + cond (test (v (t - T p))) 1 0) verdicts_same ∙ sym (count_push test (verdicts K F p g t) (v (t - T p)))
        ∙ ap (count test) (sym (map-range_with_len_more v 0 (t - T p) (t - T p) (omega arith)) ∙ ap (λ m. map v (range_with_len 0 m)) (let e : (t - T p) + 1 ≡ (t + 1) - T p = omega arith in e))

    counts_kept : t < T p → (test : Verdict → Bool) → count test (verdicts K F p h t) ≡ count test (verdicts K F p g (t + 1))
    counts_kept l test = ap (count test) (verdicts_same ∙ ap (λ m. map v (range_with_len 0 m)) (let e : t - T p ≡ (t + 1) - T p = omega arith in e))

    tally_more : counted K F p g t (tally_after K F p h t) ≡ tally_after K F p g (t + 1)
    tally_more = elim (cases_lt t (T p)) [
      | inl l ↦
          cond-true _ _ _ (lt-ltb t (T p) l)
          ∙ tally_path _ _ _ _ _ _ _ _ refl (counts_kept l whole_row) (counts_kept l mended_row) (counts_kept l lost_row)
      | inr l ↦
          cond-false _ _ _ (le-ltb t (T p) l)
          ∙ tally_path _ _ _ _ _ _ _ _ refl (counts_more l whole_row) (counts_more l mended_row) (counts_more l lost_row)
    ]

  -- what was read before goes in front
  abbrev behind : List (Option (List S)) → Read (Option (List S)) → Read (Option (List S))
  behind past read = record { values = past ++ read.values; fault = read.fault }

  -- after the slots `past`
  abbrev Prints : List (List ℕ) → List (Option (List S)) → ℕ → Type 0
  Prints lines past t =
      rows_text K F p (came_in past) t ++ slots_text K F p (fit p) (came_in past) t (tally_after K F p (came_in past) t) lines
      ≡ list_text K F p (behind past (reading (slot_read F p) t lines))

  module _ (past : List (Option (List S))) (t : ℕ) (long : length past ≡ t) where
    abbrev told_all : List (Option (List S)) → Option LineFault → List ℕ
    told_all values e = rows_text K F p (came_in values) (length values) ++ ending K F p (came_in values) (length values) e

    -- no slot more
    ends : (e : Option LineFault) → rows_text K F p (came_in past) t ++ ending K F p (came_in past) t e ≡ told_all (past ++ []) e
    ends e =
        ap (λ m. rows_text K F p (came_in past) m ++ ending K F p (came_in past) m e) (sym long) ∙ ap (λ values. told_all values e) (sym (append-nil past))

    goes_on : (lines : List (List ℕ)) → ((past' : List (Option (List S))) → length past' ≡ t + 1 → Prints lines past' (t + 1)) →
        (r : Result (Option (List S)) LineFault) →
        rows_text K F p (came_in past) t
        ++ after_line t r (λ came. follows K F p (fit p) (with_slot (came_in past) t came) t (tally_after K F p (came_in past) t) lines)
        ≡ list_text K F p (behind past (joining r (reading (slot_read F p) (t + 1) lines)))
    goes_on lines later (Err e) = ends (Some e)
    goes_on lines later (Ok came) =
        let more : List (Option (List S)) = past ++ (came ∷ []) in
        let agree : (s : ℕ) → s < t → came_in past s ≡ came_in more s = λ s l. sym (get_or_append_left past (came ∷ []) None s (omega arith)) in
        ap (λ text. rows_text K F p (came_in past) t ++ text)
        (follows_alike K F p (fit p) lines t (with_slot (came_in past) t came) (came_in more) (tally_after K F p (came_in past) t) (λ s _. came_more past came t s long))
        ∙ sym (append_assoc (rows_text K F p (came_in past) t) (slot_text K F p (came_in more) t) _)
        ∙ ap₂ (λ text c. text ++ slots_text K F p (fit p) (came_in more) (t + 1) c lines) (rows_more t (came_in past) (came_in more) agree) (tally_more t (came_in past) (came_in more) agree)
        ∙ later more (length-append past (came ∷ []) ∙ ap (λ m. m + 1) long)
        ∙ ap (λ values. told_all values (reading (slot_read F p) (t + 1) lines).fault) (append_assoc past (came ∷ []) (reading (slot_read F p) (t + 1) lines).values)

  prints_from : (lines : List (List ℕ)) (past : List (Option (List S))) (t : ℕ) → length past ≡ t → Prints lines past t
  prints_from [] past t long = ends past t long None
  prints_from (line ∷ lines) past t long =
      ap (λ r. rows_text K F p (came_in past) t ++ after_line t r (λ came. follows K F p (fit p) (with_slot (came_in past) t came) t (tally_after K F p (came_in past) t) lines)) (takes F p t line K)
      ∙ goes_on past t long lines (λ past' long'. prints_from lines past' (t + 1) long') (slot_read F p t line)

  -- a run that is lent what its sheet needs prints the text of the whole run
  pub prints_whole : (lines : List (List ℕ)) → slots_text K F p (fit p) (λ _. None) 0 (tally_of 0 0 0 0) lines ≡ list_text K F p (reading (slot_read F p) 0 lines)
  prints_whole lines =
      let none : 0 - T p ≡ 0 = omega arith in
      ap (λ m. flat_map (due_text K F p (came_in [])) (range_with_len 0 m) ++ slots_text K F p (fit p) (came_in []) 0
      (tally_of 0 (count whole_row (map (λ j. verdict (marks_of p (heard (came_in {S = S} [])) j)) (range_with_len 0 m))) (count mended_row (map (λ j. verdict (marks_of p (heard (came_in {S = S} [])) j)) (range_with_len 0 m))) (count lost_row (map (λ j. verdict (marks_of p (heard (came_in {S = S} [])) j)) (range_with_len 0 m)))) lines) (sym none)
      ∙ prints_from lines [] 0 refl
