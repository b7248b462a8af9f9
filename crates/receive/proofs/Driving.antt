-- Slot calls that are not refused, one after the other. Assumes nothing.
use Rattle.std.proofs.Common.{◌≡◌, ℕ, ◌+◌, ◌-◌, ◌*◌, ◌<◌, ◌≤◌, Bool, true, false, cond, not, ◌||◌, eqb, ltb, List, [], ◌∷◌, ◌++◌, map, length, get_or, take, drop, is_some, None, Ok, Err, Option, sym, refl, ap, ◌∙◌, subst, ap₂, mul-le-mul_right, add-mul, one-mul, arith}
use borrow.Rule.Slice.PartMut.{put_mid}
use Rattle.std.specs.List.{range_with_len}
use Rattle.std.proofs.lemmas.List.{length-append, length-drop, length-take-le, drop-take, drop-drop, get_or_append_left, get_or_push}
use Rattle.std.proofs.lemmas.Slice.{take-put_mid_below, drop-put_mid, between-put_mid}
use Rattle.std.proofs.lemmas.List.FromFn.{map-range_with_len_more}
use Rattle.std.proofs.lemmas.Bool.{cond-false, le-ltb, lt-leb, ltb-false, eq-eqb, eqb-true, not-false, or_from, or_parts}
use Rattle.kinds.specs.Kind.{Kind}
use Rattle.kinds.proofs.Lists.{map_same}
use Rattle.code.specs.declared.mark.Mark.{Mark}
use Rattle.code.specs.declared.refusal.SlotRefusal.{SlotRefusal}
use Rattle.code.specs.declared.sheet.Sheet.{Sheet}
use Rattle.code.specs.Sheets.{n}
use Rattle.code.specs.Refusals.{top_slots}
use Rattle.receive.specs.declared.due.Due.{Due}
use Rattle.receive.specs.declared.receiver.Receiver.{Receiver}
use Rattle.receive.specs.declared.table.SlotState.{SlotState}
use Rattle.receive.specs.declared.table.SlotState.TheVariants.{Arrived, Missed}
use Rattle.receive.specs.Memory.{need, memory}
use Rattle.receive.specs.Refusing.{unfit, slot_refused, slots_refused}
use Rattle.receive.specs.Handing.{Answer, Reply, replied, count}
use Rattle.receive.specs.Calls.{tally_of, room, Taken, SlotWith, SlotCall}
use Rattle.receive.specs.Runs.{Event, slot, tally, Run, stop, slot_call, tally_call}
use Rattle.receive.specs.Driving.{part, arrival, Slots, slots_of, call, calls}
use Rattle.receive.specs.Law.{slots}
use Rattle.line.proofs.Staying.{room_stays}
use Rattle.receive.proofs.Agreement.{hands_ok}
use Rattle.receive.proofs.Slots.{past}

-- what came fits, where the packet does
arrival_fits : {S : Type 0} (p : Sheet) (state : SlotState) (q : List S) → length q ≡ n p → unfit p (arrival state q) ≡ false
arrival_fits p Arrived q e = ap not (eq-eqb (length q) (n p) e)
arrival_fits p Missed q e = refl

accepts : (p : Sheet) (w t : ℕ) (bad : Bool) (symbols marks : ℕ) → need p ≤ w → t < top_slots → bad ≡ false → symbols ≡ p.row → marks ≡ p.row → slot_refused p w t bad symbols marks ≡ None
accepts p w t bad symbols marks wide few fit rows places =
    cond-false _ _ _ (le-ltb w (need p) wide) ∙ cond-false _ _ _ (lt-leb top_slots t few) ∙ cond-false _ _ _ fit
    ∙ cond-false _ _ _ (or_from _ _ (ap not (eq-eqb symbols p.row rows)) (ap not (eq-eqb marks p.row places)))

module _ {S : Type 0} (K : Kind S) where
  -- one slot call more
  pub run_more : (es : List (Event S)) (came : Option (List S)) (a : Reply S) {r s s' : Receiver S} → Run K r es s → SlotCall K s s' came a → Run K r (es ++ (slot came a ∷ [])) s'
  run_more [] came a stop last = slot_call last stop
  run_more (slot came' a' ∷ es) came a (slot_call first more) last = slot_call first (run_more es came a more last)
  run_more (tally told ∷ es) came a (tally_call first more) last = tally_call first (run_more es came a more last)

-- what holds where many slots are not refused
pub record Enough (p : Sheet) (w t m packets symbols marks : ℕ) : Type 0 where
  pub wide : need p ≤ w
  pub few : m ≤ top_slots - t
  pub all_packets : packets ≡ m * n p
  pub row_places : symbols ≡ m * p.row
  pub mark_places : marks ≡ m * p.row

pub enough : (p : Sheet) (w t m packets symbols marks : ℕ) → slots_refused p w t m packets symbols marks ≡ None → Enough p w t m packets symbols marks
enough p w t m packets symbols marks none =
    let a = past (ltb w (need p)) SlotRefusal.Window _ none in
    let b = past (ltb (top_slots - t) m) SlotRefusal.Slots _ a.1 in
    let c = past (not (eqb packets (m * n p))) SlotRefusal.Packet _ b.1 in
    let d = past (not (eqb symbols (m * p.row)) || not (eqb marks (m * p.row))) SlotRefusal.Place _ c.1 in
    let e = or_parts (not (eqb symbols (m * p.row))) (not (eqb marks (m * p.row))) d.0 in
    record {
      wide = ltb-false w (need p) a.0;
      few = ltb-false (top_slots - t) m b.0;
      all_packets = eqb-true packets (m * n p) (not-false _ c.0);
      row_places = eqb-true symbols (m * p.row) (not-false _ e.0);
      mark_places = eqb-true marks (m * p.row) (not-false _ e.1);
    }

-- part i of m parts ends within them
pub part_ends : (i m size : ℕ) → i < m → i * size + size ≤ m * size
part_ends i m size l = omega (arith, mul-le-mul_right size (let e : i + 1 ≤ m = omega arith in e), add-mul i 1 size, one-mul size)

-- part i, cut from a list ..
abbrev cut : {X : Type 0} (size i : ℕ) → List X → List X
cut size i xs = take (i * size + size - i * size) (drop (i * size) xs)

-- .. and written into one
abbrev written : {X : Type 0} (size i : ℕ) (w ys : List X) → List X
written size i w ys = put_mid (i * size) (i * size + size - i * size) w ys

cut_long : {X : Type 0} (size i : ℕ) (xs : List X) → i * size + size ≤ length xs → length (cut size i xs) ≡ size
cut_long size i xs within =
    length-take-le (i * size + size - i * size) (drop (i * size) xs) (omega (arith, length-drop (i * size) xs)) ∙ (let e : i * size + size - i * size ≡ size = omega arith in e)

module _ {X : Type 0} (size i : ℕ) (w ys : List X) (within : i * size + size ≤ length w) (long : length ys ≡ (i * size + size) - i * size) where
  -- part i was written
  pub part_new : part size (written size i w ys) i ≡ ys
  part_new =
      ap (λ a. take a (drop (i * size) (written size i w ys))) (let e : size ≡ i * size + size - i * size = omega arith in e)
      ∙ between-put_mid (i * size) (i * size + size - i * size) w ys (i * size + size) (omega arith) long

  -- those before it stay
  pub part_kept : (j : ℕ) → j < i → part size (written size i w ys) j ≡ part size w j
  part_kept j l =
      sym (drop-take (j * size) size (written size i w ys))
      ∙ ap (drop (j * size)) (take-put_mid_below (i * size) (i * size + size - i * size) w ys (j * size + size) (omega (arith, part_ends j i size l)) (omega arith))
      ∙ drop-take (j * size) size w

  -- and so do those after it
  pub rest_kept : (old : List X) → drop (i * size) w ≡ drop (i * size) old → drop ((i + 1) * size) (written size i w ys) ≡ drop ((i + 1) * size) old
  rest_kept old same =
      let next : (i + 1) * size ≡ i * size + size = add-mul i 1 size ∙ ap (λ x. i * size + x) (one-mul size) in
      drop-put_mid (i * size) (i * size + size - i * size) w ys ((i + 1) * size) (omega (arith, next)) (omega arith) long
      ∙ ap (λ x. drop x w) next ∙ sym (drop-drop size (i * size) w) ∙ ap (drop size) same ∙ drop-drop size (i * size) old ∙ ap (λ x. drop x old) (sym next)

count_push : {X : Type 0} (test : X → Bool) (xs : List X) (x : X) → count test (xs ++ (x ∷ [])) ≡ count test xs + cond (test x) 1 0
count_push test [] x = omega arith
count_push test (y ∷ xs) x = omega (arith, count_push test xs x)

-- The first i slots of x were taken after the first t: what follows them in the places is as it was.
pub record Taking {S : Type 0} (K : Kind S) (p : Sheet) (t : ℕ) (before : Receiver S) (x : Slots S) (i : ℕ) (now : Receiver S) (handed : ℕ) : Type 0 where
  pub fits : Enough p (room before) t (length x.states) (length x.packets) (length x.rows) (length x.marks)
  pub dues : List (Option Due)
  pub long : length dues ≡ i
  pub run : Run K before (map (call p x dues) (range_with_len 0 i)) now
  pub handed_is : handed ≡ count is_some dues
  pub at_most : handed ≤ i
  pub sheet : now.sheet ≡ p
  pub wide : need p ≤ room now
  pub slots : now.counters.slots ≡ t + i
  pub rows : drop (i * p.row) x.rows' ≡ drop (i * p.row) x.rows
  pub marks : drop (i * p.row) x.marks' ≡ drop (i * p.row) x.marks

one_at_most : (b : Bool) → cond b 1 0 ≤ 1
one_at_most true = omega arith
one_at_most false = omega arith

pub taking_none : {S : Type 0} (K : Kind S) (before : Receiver S) (states : List SlotState) (packets rows : List S) (marks : List Mark) →
    slots_refused before.sheet (room before) before.counters.slots (length states) (length packets) (length rows) (length marks) ≡ None → Taking K before.sheet before.counters.slots before (slots_of states packets rows rows marks marks) 0 before 0
taking_none K before states packets rows marks none = let fits = enough _ _ _ _ _ _ _ none in record {
  fits = fits;
  dues = [];
  long = refl;
  run = stop;
  handed_is = refl;
  at_most = omega arith;
  sheet = refl;
  wide = fits.wide;
  slots = omega arith;
  rows = refl;
  marks = refl;
}

module _ {S : Type 0} {K : Kind S} {p : Sheet} {t : ℕ} {before now : Receiver S} {states : List SlotState} {packets rows rows' : List S} {marks marks' : List Mark} {i handed : ℕ}
    (so_far : Taking K p t before (slots_of states packets rows rows' marks marks') i now handed) (within : i < length states) (rows_long : length rows' ≡ length rows) (marks-long : length marks' ≡ length marks) where
  -- the next slot
  module _ (size : ℕ) (its_size : size ≡ n p) (now' : Receiver S) (row : List S) (new : List Mark) where
    abbrev state : SlotState
    state = get_or states i Arrived

    begins : i * size ≡ i * n p
    begins = ap (λ x. i * x) its_size

    abbrev q : List S
    q = cut size i packets

    abbrev reply : Answer → Reply S
    reply answer = replied (cut p.row i rows') row (cut p.row i marks') new answer

    rows_end : i * p.row + p.row ≤ length rows'
    rows_end = omega (arith, part_ends i (length states) p.row within, so_far.fits.row_places)

    marks_end : i * p.row + p.row ≤ length marks'
    marks_end = omega (arith, part_ends i (length states) p.row within, so_far.fits.mark_places)

    packet_long : length (cut size i packets) ≡ n p
    packet_long = cut_long size i packets (omega (arith, begins, its_size, part_ends i (length states) (n p) within, so_far.fits.all_packets)) ∙ its_size

    row_long : length (cut p.row i rows') ≡ p.row
    row_long = cut_long p.row i rows' (omega (arith, rows_end))

    mark_long : length (cut p.row i marks') ≡ p.row
    mark_long = cut_long p.row i marks' (omega (arith, marks_end))

    pub now_wide : need now.sheet ≤ room now
    now_wide = subst (λ (x : Sheet). need x ≤ room now) (sym so_far.sheet) so_far.wide

    pub now_few : now.counters.slots < top_slots
    now_few = omega (arith, so_far.slots, so_far.fits.few)

    its_sheet : (m : Sheet → ℕ) (l : ℕ) → l ≡ m p → l ≡ m now.sheet
    its_sheet m l e = e ∙ sym (ap m so_far.sheet)

    -- is not refused
    taken : (answer : Answer) → SlotCall K now now' (arrival state q) (reply answer) → Taken K now.sheet now.counters.slots now now' (arrival state q) (reply answer)
    taken answer =
        subst (λ (d : Option SlotRefusal). SlotWith K d now.sheet now.counters.slots now now' (arrival state q) (reply answer))
        (accepts now.sheet (room now) now.counters.slots (unfit now.sheet (arrival state q)) _ _ now_wide now_few (arrival_fits now.sheet state q (its_sheet n _ packet_long)) (its_sheet (λ x. x.row) _ row_long) (its_sheet (λ x. x.row) _ mark_long))

    pub taking_never : (e : SlotRefusal) → SlotCall K now now' (arrival state q) (reply (Err e)) → ⊥
    taking_never e called =
        let ok = hands_ok K now.sheet (memory K now') now.counters.slots (reply (Err e)) (taken (Err e) called).hands in
        let both : ◌≡◌ {A = Answer} (Err e) (Ok ok.0) = ok.1 in
        cc both

    pub taking_more : (due : Option Due) (handed' : ℕ) → length row ≡ length (cut p.row i rows') → length new ≡ length (cut p.row i marks') → SlotCall K now now' (arrival state q) (reply (Ok due)) → handed' ≡ handed + cond (is_some due) 1 0 →
        Taking K p t before (slots_of states packets rows (written p.row i rows' row) marks (written p.row i marks' new)) (i + 1) now' handed'
    taking_more due handed' row_fits new-fits called counts =
        let x : Slots S = slots_of states packets rows rows' marks marks' in
        let y : Slots S = slots_of states packets rows (written p.row i rows' row) marks (written p.row i marks' new) in
        let dues : List (Option Due) = so_far.dues ++ (due ∷ []) in
        let done = taken (Ok due) called in
        let wrote : length row ≡ i * p.row + p.row - i * p.row = omega (arith, row_long) in
        let noted : length new ≡ i * p.row + p.row - i * p.row = omega (arith, mark_long) in
        let width : i * p.row + p.row - i * p.row ≡ p.row = omega arith in
        let earlier : map (call p (slots_of states packets rows rows' marks marks') so_far.dues) (range_with_len 0 i) ≡ map (call p (slots_of states packets rows (written p.row i rows' row) marks (written p.row i marks' new)) (so_far.dues ++ (due ∷ []))) (range_with_len 0 i) =
        map_same _ _ i (tally (tally_of 0 0 0 0)) (λ j l. λ k.
        slot (arrival (get_or states j Arrived) (part (n p) packets j))
        (replied (part p.row rows j) (sym (part_kept p.row i rows' row rows_end wrote j l) k)
        (part p.row marks j) (sym (part_kept p.row i marks' new marks_end noted j l) k)
        (Ok (sym (get_or_append_left so_far.dues (due ∷ []) None j (omega (arith, so_far.long))) k)))) in
        let latest : slot (arrival state q) (reply (Ok due)) ≡ call p (slots_of states packets rows (written p.row i rows' row) marks (written p.row i marks' new)) (so_far.dues ++ (due ∷ [])) i =
        λ k. slot (arrival state (take (packet_width k) (drop (begins k) packets)))
        (replied (old_rows width k) (sym (part_new p.row i rows' row rows_end wrote) k)
        (old_marks width k) (sym (part_new p.row i marks' new marks_end noted) k)
        (Ok (sym (get_or_push so_far.dues due None i so_far.long) k))) in
        let one = one_at_most (is_some due) in
        record {
          fits = so_far.fits;
          dues = so_far.dues ++ (due ∷ []);
          long = length-append so_far.dues (due ∷ []) ∙ ap (λ m. m + 1) so_far.long;
          run = subst (λ (es : List (Event S)). Run K before es now')
              (ap₂ (λ es e. es ++ (e ∷ [])) earlier latest ∙ sym (map-range_with_len_more (call p y dues) 0 i i (omega arith)))
              (run_more K (map (call p x so_far.dues) (range_with_len 0 i)) (arrival state q) (reply (Ok due)) so_far.run called);
          handed_is = counts ∙ ap (λ m. m + cond (is_some due) 1 0) so_far.handed_is ∙ sym (count_push is_some so_far.dues due);
          at_most = omega (arith, so_far.at_most);
          sheet = done.sheet ∙ so_far.sheet;
          wide = omega (arith, so_far.wide, room_stays now.line now'.line done.stays);
          slots = omega (arith, done.slots, so_far.slots);
          rows = rest_kept p.row i rows' row rows_end wrote rows so_far.rows;
          marks = rest_kept p.row i marks' new marks_end noted marks so_far.marks;
        }
      where
        packet_width : i * size + size - i * size ≡ n p
        packet_width = omega arith

        old_rows : i * p.row + p.row - i * p.row ≡ p.row → cut p.row i rows' ≡ part p.row rows i
        old_rows width = ap (λ a. take a (drop (i * p.row) rows')) width ∙ ap (take p.row) so_far.rows

        old_marks : i * p.row + p.row - i * p.row ≡ p.row → cut p.row i marks' ≡ part p.row marks i
        old_marks width = ap (λ a. take a (drop (i * p.row) marks')) width ∙ ap (take p.row) so_far.marks

module _ {S : Type 0} (p : Sheet) (x : Slots S) (dues : List (Option Due)) where
  abbrev came_at : ℕ → Option (List S)
  came_at i = arrival (get_or x.states i Arrived) (part (n p) x.packets i)

  slots_called : (is : List ℕ) → slots (map (call p x dues) is) ≡ map came_at is
  slots_called [] = refl
  slots_called (i ∷ is) = ap (λ xs. came_at i ∷ xs) (slots_called is)

  -- the slots of such a run are those that were handed in
  pub slots_driven : slots (calls p x dues) ≡ map came_at (range_with_len 0 (length x.states))
  slots_driven = slots_called (range_with_len 0 (length x.states))
