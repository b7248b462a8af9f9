-- A receiver agrees with the calls that were made on it. Assumes nothing.
use Rattle.std.proofs.Common.{◌≡◌, ℕ, ◌+◌, ◌-◌, ◌*◌, ◌<◌, ◌≤◌, Bool, List, [], ◌∷◌, ◌++◌, length, get_or, Some, None, Ok, Option, sym, ap, ◌∙◌, subst, inl, inr, arith}
use Rattle.std.proofs.lemmas.List.{append-nil, append_assoc, length-append, get_or_push, get_or_append_left}
use Rattle.std.proofs.lemmas.Bool.{cases_lt, cases_eq}
use Rattle.kinds.specs.Kind.{Kind}
use Rattle.code.specs.declared.refusal.SlotRefusal.{SlotRefusal}
use Rattle.code.specs.declared.sheet.Sheet.{Sheet}
use Rattle.code.specs.Sheets.{T}
use Rattle.code.specs.Mending.{History}
use Rattle.line.specs.Line.{beyond}
use Rattle.line.proofs.Staying.{room_stays}
use Rattle.receive.specs.declared.due.Due.{Due}
use Rattle.receive.specs.declared.due.Verdict.{Verdict}
use Rattle.receive.specs.declared.receiver.Receiver.{Receiver}
use Rattle.receive.specs.declared.tally.Tally.{Tally}
use Rattle.receive.specs.Memory.{memory}
use Rattle.receive.specs.Refusing.{unfit, slot_refused}
use Rattle.receive.specs.Handing.{Reply, Hands, one, whole_row, mended_row, lost_row}
use Rattle.receive.specs.Calls.{room, Declined, Taken, SlotWith, SlotAt, SlotCall, TallyCall}
use Rattle.receive.specs.Runs.{Event, slot, tally, Run, stop, slot_call, tally_call}
use Rattle.receive.specs.Law.{slots, taken, history, rows_given}
use Rattle.receive.proofs.Counts.{slots-append, rows_append, slots_refused, slots-taken}

-- A receiver on the sheet p with room for w symbols, `past` lying past the places of its line, after these events.
pub record Agrees {S : Type 0} (K : Kind S) (p : Sheet) (w m : ℕ) (rest : List S) (past : List (Event S)) (q : Receiver S) : Type 0 where
  pub sheet : q.sheet ≡ p
  pub room_is : room q ≡ w
  pub places : q.line.places ≡ m
  pub beyond_is : beyond q.line ≡ rest
  pub slots : q.counters.slots ≡ taken past
  pub whole : q.counters.whole ≡ rows_given whole_row past
  pub mended : q.counters.mended ≡ rows_given mended_row past
  pub lost : q.counters.lost ≡ rows_given lost_row past
  pub remembers : (s : ℕ) → s < taken past → taken past ≤ s + 2 * T p → memory K q s ≡ history past s

module _ {S : Type 0} (K : Kind S) (p : Sheet) where
  -- what hands out is no refusal
  pub hands_ok : (h : History S) (t : ℕ) (a : Reply S) → Hands K p h t a → (due : Option Due) × (a.answer ≡ Ok due)
  hands_ok h t a hands = elim (cases_lt t (T p)) [
    | inl l ↦ (None, (hands.early l).answer)
    | inr l ↦ (_, (hands.late (t - T p) (omega arith)).answer)
  ]

module _ {S : Type 0} (K : Kind S) (p : Sheet) (w m : ℕ) (rest : List S) where
  -- the call as it is after these events
  pub call_at : (past : List (Event S)) (q q' : Receiver S) (came : Option (List S)) (a : Reply S) → Agrees K p w m rest past q → SlotCall K q q' came a → SlotAt K p w (taken past) q q' came a
  call_at past q q' came a agrees call =
      subst (λ (t : ℕ). SlotAt K p w t q q' came a) agrees.slots
      (subst (λ (n : ℕ). SlotAt K p n q.counters.slots q q' came a) agrees.room_is
      (subst (λ (x : Sheet). SlotAt K x (room q) q.counters.slots q q' came a) agrees.sheet call))

  module _ (past : List (Event S)) (q q' : Receiver S) (came : Option (List S)) (a : Reply S) (agrees : Agrees K p w m rest past q) where
    now_taken : Taken K p (taken past) q q' came a → Agrees K p w m rest (past ++ (slot came a ∷ [])) q'
    now_taken call =
        let ok = hands_ok K p (memory K q') (taken past) a call.hands in
        let all : slots (past ++ (slot came a ∷ [])) ≡ slots past ++ (came ∷ []) = slots-taken past [] came a ok.0 ok.1 in
        let more : taken (past ++ (slot came a ∷ [])) ≡ taken past + 1 = ap length all ∙ length-append (slots past) (came ∷ []) in
        record {
          sheet = call.sheet;
          room_is = room_stays q.line q'.line call.stays ∙ agrees.room_is;
          places = call.stays.places ∙ agrees.places;
          beyond_is = call.stays.past ∙ agrees.beyond_is;
          slots = call.slots ∙ sym more;
          whole = omega (arith, call.whole, agrees.whole, rows_append whole_row past (slot came a ∷ []));
          mended = omega (arith, call.mended, agrees.mended, rows_append mended_row past (slot came a ∷ []));
          lost = omega (arith, call.lost, agrees.lost, rows_append lost_row past (slot came a ∷ []));
          remembers = λ s l r. elim (cases_eq s (taken past)) [
            | inl e ↦ ap (memory K q') e ∙ call.latest ∙ sym (get_or_push (slots past) came None s (sym e)) ∙ sym (ap (λ xs. get_or xs s None) all)
            | inr e ↦
                let below : s < taken past = omega arith in
                call.earlier s below (omega arith) ∙ agrees.remembers s below (omega arith)
                ∙ sym (get_or_append_left (slots past) (came ∷ []) None s below) ∙ sym (ap (λ xs. get_or xs s None) all)
          ];
        }

    now_refused : (e : SlotRefusal) → Declined e q q' a → Agrees K p w m rest (past ++ (slot came a ∷ [])) q'
    now_refused e call =
        let all : slots (past ++ (slot came a ∷ [])) ≡ slots past = slots_refused past [] came a e call.answer ∙ append-nil (slots past) in
        let none : (test : Verdict → Bool) → rows_given test (past ++ (slot came a ∷ [])) ≡ rows_given test past = λ test. omega (arith, rows_append test past (slot came a ∷ []), ap (one test) call.answer) in
        let same = call.receiver in
        record {
          sheet = ap (λ (r : Receiver S). r.sheet) same ∙ agrees.sheet;
          room_is = ap (λ (r : Receiver S). room r) same ∙ agrees.room_is;
          places = ap (λ (r : Receiver S). r.line.places) same ∙ agrees.places;
          beyond_is = ap (λ (r : Receiver S). beyond r.line) same ∙ agrees.beyond_is;
          slots = ap (λ (r : Receiver S). r.counters.slots) same ∙ agrees.slots ∙ sym (ap length all);
          whole = ap (λ (r : Receiver S). r.counters.whole) same ∙ agrees.whole ∙ sym (none whole_row);
          mended = ap (λ (r : Receiver S). r.counters.mended) same ∙ agrees.mended ∙ sym (none mended_row);
          lost = ap (λ (r : Receiver S). r.counters.lost) same ∙ agrees.lost ∙ sym (none lost_row);
          remembers = λ s l r.
              let n : taken (past ++ (slot came a ∷ [])) ≡ taken past = ap length all in
              ap (λ (x : Receiver S). memory K x s) same ∙ agrees.remembers s (omega arith) (omega arith) ∙ sym (ap (λ xs. get_or xs s None) all);
        }

    now_with : (d : Option SlotRefusal) → SlotWith K d p (taken past) q q' came a → Agrees K p w m rest (past ++ (slot came a ∷ [])) q'
    now_with (Some e) call = now_refused e call
    now_with None call = now_taken call

    pub agrees_slot : SlotCall K q q' came a → Agrees K p w m rest (past ++ (slot came a ∷ [])) q'
    agrees_slot call = now_with (slot_refused p w (taken past) (unfit p came) (length a.row) (length a.marks)) (call_at past q q' came a agrees call)

  agrees_tally : (past : List (Event S)) (q : Receiver S) (told : Tally) → Agrees K p w m rest past q → Agrees K p w m rest (past ++ (tally told ∷ [])) q
  agrees_tally past q told agrees =
      let all : slots (past ++ (tally told ∷ [])) ≡ slots past = slots-append past (tally told ∷ []) ∙ append-nil (slots past) in
      record {
        sheet = agrees.sheet;
        room_is = agrees.room_is;
        places = agrees.places;
        beyond_is = agrees.beyond_is;
        slots = agrees.slots ∙ sym (ap length all);
        whole = omega (arith, agrees.whole, rows_append whole_row past (tally told ∷ []));
        mended = omega (arith, agrees.mended, rows_append mended_row past (tally told ∷ []));
        lost = omega (arith, agrees.lost, rows_append lost_row past (tally told ∷ []));
        remembers = λ s l r.
            let n : taken (past ++ (tally told ∷ [])) ≡ taken past = ap length all in
            agrees.remembers s (omega arith) (omega arith) ∙ sym (ap (λ xs. get_or xs s None) all);
      }

  pub agrees_run : {r q : Receiver S} {es : List (Event S)} (past : List (Event S)) → Agrees K p w m rest past r → Run K r es q → Agrees K p w m rest (past ++ es) q
  agrees_run {r} past agrees stop = subst (λ (es : List (Event S)). Agrees K p w m rest es r) (sym (append-nil past)) agrees
  agrees_run {r} {q} past agrees (slot_call {s = s} {came = came} {a = a} {es = es} call more) =
      subst (λ (fs : List (Event S)). Agrees K p w m rest fs q) (append_assoc past (slot came a ∷ []) es)
      (agrees_run (past ++ (slot came a ∷ [])) (agrees_slot past r s came a agrees call) more)
  agrees_run {r} {q} past agrees (tally_call {told = told} {es = es} call more) =
      subst (λ (fs : List (Event S)). Agrees K p w m rest fs q) (append_assoc past (tally told ∷ []) es)
      (agrees_run (past ++ (tally told ∷ [])) (agrees_tally past r told agrees) more)

module _ {S : Type 0} (K : Kind S) where
  -- a run is cut in two
  pub split : (es fs : List (Event S)) {r q : Receiver S} → Run K r (es ++ fs) q → (m : Receiver S) × Run K r es m × Run K m fs q
  split [] fs {r} run = (r, stop, run)
  split (slot came a ∷ es) fs (slot_call call more) = let cut = split es fs more in (cut.0, slot_call call cut.1, cut.2)
  split (tally told ∷ es) fs (tally_call call more) = let cut = split es fs more in (cut.0, tally_call call cut.1, cut.2)

  pub first_slot : {r q : Receiver S} {came : Option (List S)} {a : Reply S} {es : List (Event S)} → Run K r (slot came a ∷ es) q → (m : Receiver S) × SlotCall K r m came a
  first_slot (slot_call {s = s} call more) = (s, call)

  pub first_tally : {r q : Receiver S} {told : Tally} {es : List (Event S)} → Run K r (tally told ∷ es) q → TallyCall r told
  first_tally (tally_call call more) = call
