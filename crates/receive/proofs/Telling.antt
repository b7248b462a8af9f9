-- What a call of a run does, told by the run's own events. Assumes nothing.
use Rattle.std.proofs.Common.{◌≡◌, ℕ, ◌+◌, ◌-◌, ◌*◌, ◌<◌, ◌≤◌, List, [], ◌∷◌, ◌++◌, length, get_or, Some, None, Ok, Err, Option, sym, ap, ◌∙◌, subst, inl, inr, arith}
use Rattle.std.proofs.lemmas.List.{length-append, append_assoc, get_or_append_left}
use Rattle.std.proofs.lemmas.List.FromFn.{get_or-map-range_with_len}
use Rattle.std.proofs.lemmas.Bool.{cases_lt}
use Rattle.kinds.specs.Kind.{Kind}
use Rattle.kinds.proofs.Lists.{map_same}
use Rattle.code.specs.declared.mark.Mark.TheVariants.{Arrived}
use Rattle.code.specs.declared.refusal.SlotRefusal.{SlotRefusal}
use Rattle.code.specs.declared.sheet.Sheet.{Sheet}
use Rattle.code.specs.Sheets.{T}
use Rattle.code.specs.Mending.{History, heard, mark, given, marks_of, row_of}
use Rattle.code.proofs.Windows.{hears_back}
use Rattle.receive.specs.declared.due.Due.{Due}
use Rattle.receive.specs.declared.receiver.Receiver.{Receiver}
use Rattle.receive.specs.Memory.{memory}
use Rattle.receive.specs.Refusing.{unfit, slot_refused, SlotReason}
use Rattle.receive.specs.Handing.{Answer, Reply, Gives, Hands, verdict}
use Rattle.receive.specs.Calls.{Taken, SlotWith, SlotCall}
use Rattle.receive.specs.Runs.{Event, slot}
use Rattle.receive.specs.Law.{slots, taken, history}
use Rattle.receive.proofs.Counts.{slots-taken}
use Rattle.receive.proofs.Agreement.{Agrees, hands_ok, call_at, agrees_slot}
use Rattle.receive.proofs.Reasons.{reason}

ok_err : (a : Answer) (due : Option Due) (e : SlotRefusal) → a ≡ Ok due → a ≡ Err e → ⊥
ok_err a due e p q = let z : ◌≡◌ {A = ℕ} 0 1 = cc in omega arith

module _ {S : Type 0} (K : Kind S) (p : Sheet) where
  -- histories that agree on the slots that row j turns on give the same
  same_gives : (h h' : History S) (j : ℕ) (a : Reply S) → ((s : ℕ) → j + p.burst ≤ s + T p → s ≤ j + T p → h s ≡ h' s) → Gives K p h j a → Gives K p h' j a
  same_gives h h' j a same g =
      let marks-are : marks_of p (heard h) j ≡ marks_of p (heard h') j = map_same (mark p (heard h) j) (mark p (heard h') j) p.row Arrived (λ b l. (hears_back K p h h' j b l same).0) in
      let row_is : row_of K p h j ≡ row_of K p h' j = map_same (given K p h j) (given K p h' j) p.row K.zero (λ b l. (hears_back K p h h' j b l same).1) in
      record {
        answer = g.answer ∙ ap (λ ms. Ok (Some (record { row = j; verdict = verdict ms }))) marks-are;
        row = g.row ∙ row_is;
        marks = g.marks ∙ marks-are;
      }

  -- a row that is named is the one that falls due
  pub gives_named : (h : History S) (t : ℕ) (a : Reply S) (due : Due) → Hands K p h t a → a.answer ≡ Ok (Some due) → (due.row + T p ≡ t) × Gives K p h due.row a
  gives_named h t a due hands is = elim (cases_lt t (T p)) [
    | inl l ↦ let no : Ok None ≡ Ok (Some due) = sym (hands.early l).answer ∙ is in let z : ◌≡◌ {A = ℕ} 0 1 = cc no in absurd (omega arith)
    | inr l ↦
        let j : ℕ = t - T p in
        let at : j + T p ≡ t = omega arith in
        let g = hands.late j at in
        let same : record { row = j; verdict = verdict (marks_of p (heard h) j) } ≡ due = cc (sym g.answer ∙ is) in
        let row_is : j ≡ due.row = ap (λ (d : Due). d.row) same in
        (sym (ap (λ i. i + T p) row_is) ∙ at, subst (λ (i : ℕ). Gives K p h i a) row_is g)
  ]

  module _ (h : History S) (j b : ℕ) (a : Reply S) (g : Gives K p h j a) (below : b < p.row) where
    pub mark_is : get_or a.marks' b Arrived ≡ mark p (heard h) j b
    mark_is = ap (λ ms. get_or ms b Arrived) g.marks ∙ get_or-map-range_with_len (mark p (heard h) j) 0 p.row b b Arrived below (omega arith)

    pub symbol_is : get_or a.row' b K.zero ≡ given K p h j b
    symbol_is = ap (λ xs. get_or xs b K.zero) g.row ∙ get_or-map-range_with_len (given K p h j) 0 p.row b b K.zero below (omega arith)

  module _ (w m : ℕ) (rest : List S) (past later : List (Event S)) (q q' : Receiver S) (came : Option (List S)) (a : Reply S) (agrees : Agrees K p w m rest past q) (call : SlotCall K q q' came a) where
    abbrev first_refusal : Option SlotRefusal
    first_refusal = slot_refused p w (taken past) (unfit p came) (length a.row) (length a.marks)

    refused_with : (d : Option SlotRefusal) (e : SlotRefusal) → SlotWith K d p (taken past) q q' came a → a.answer ≡ Err e → (d ≡ Some e) × (a.row' ≡ a.row) × (a.marks' ≡ a.marks)
    refused_with (Some f) e x is = (cc (sym x.answer ∙ is), x.row, x.marks)
    refused_with None e x is = let ok = hands_ok K p (memory K q') (taken past) a x.hands in absurd (ok_err a.answer ok.0 e ok.1 is)

    taken_with : (d : Option SlotRefusal) (due : Option Due) → SlotWith K d p (taken past) q q' came a → a.answer ≡ Ok due → Taken K p (taken past) q q' came a
    taken_with (Some f) due y is = absurd (ok_err a.answer due f is y.answer)
    taken_with None due y is = y

    pub refused_truly : (e : SlotRefusal) → a.answer ≡ Err e → SlotReason p w (taken past) came (length a.row) (length a.marks) e × (a.row' ≡ a.row) × (a.marks' ≡ a.marks)
    refused_truly e is =
        let r = refused_with first_refusal e (call_at K p w m rest past q q' came a agrees call) is in
        (reason p w (taken past) came (length a.row) (length a.marks) e r.0, r.1, r.2)

    -- what the receiver remembers then is what the run heard
    recalls : (due : Option Due) → a.answer ≡ Ok due → (s : ℕ) → s ≤ taken past → taken past < s + 2 * T p → memory K q' s ≡ history (past ++ (slot came a ∷ later)) s
    recalls due is s l r =
        let upto : slots (past ++ (slot came a ∷ [])) ≡ slots past ++ (came ∷ []) = slots-taken past [] came a due is in
        let whole : slots (past ++ (slot came a ∷ later)) ≡ slots past ++ (came ∷ slots later) = slots-taken past later came a due is in
        let more : taken (past ++ (slot came a ∷ [])) ≡ taken past + 1 = ap length upto ∙ length-append (slots past) (came ∷ []) in
        let again : slots past ++ (came ∷ slots later) ≡ (slots past ++ (came ∷ [])) ++ slots later = sym (append_assoc (slots past) (came ∷ []) (slots later)) in
        let within : s < length (slots past ++ (came ∷ [])) = omega (arith, length-append (slots past) (came ∷ [])) in
        (agrees_slot K p w m rest past q q' came a agrees call).remembers s (omega arith) (omega arith)
        ∙ ap (λ xs. get_or xs s None) upto
        ∙ sym (get_or_append_left (slots past ++ (came ∷ [])) (slots later) None s within)
        ∙ sym (ap (λ xs. get_or xs s None) (whole ∙ again))

    pub hands_truly : (due : Option Due) → a.answer ≡ Ok due → Hands K p (history (past ++ (slot came a ∷ later))) (taken past) a
    hands_truly due is =
        let y = taken_with first_refusal due (call_at K p w m rest past q q' came a agrees call) is in
        record {
          early = y.hands.early;
          late = λ j at. same_gives (memory K q') (history (past ++ (slot came a ∷ later))) j a (λ s low high. recalls due is s (omega arith) (omega (arith, p.bursts.0))) (y.hands.late j at);
        }

    pub one_more : (due : Option Due) → a.answer ≡ Ok due → taken past < taken (past ++ (slot came a ∷ later))
    one_more due is = omega (arith, ap length (slots-taken past later came a due is), length-append (slots past) (came ∷ slots later))
