-- A slot call that stores a slot and then hands out what falls due. Assumes nothing.
use Rattle.std.proofs.Common.{◌≡◌, ℕ, ◌+◌, ◌%◌, ◌<◌, ◌≤◌, Bool, false, cond, not, ◌||◌, eqb, ltb, leb, List, length, set, Some, None, Ok, Option, sym, ap, ◌∙◌, subst, ap₂, inl, inr, arith}
use Rattle.std.proofs.lemmas.List.{length-set}
use Rattle.std.proofs.lemmas.Bool.{cases_Bool, cond-true, cond-false, ltb-false, leb-false, eqb-true, not-false, or_parts}
use Rattle.kinds.specs.Kind.{Kind}
use Rattle.code.specs.declared.mark.Mark.{Mark}
use Rattle.code.specs.declared.refusal.SlotRefusal.{SlotRefusal}
use Rattle.code.specs.declared.sheet.Sheet.{Sheet}
use Rattle.code.specs.Sheets.{n}
use Rattle.code.specs.Refusals.{top_slots}
use Rattle.code.specs.Mending.{History}
use Rattle.line.specs.Ring.{entered}
use Rattle.line.specs.Line.{contents, Stays}
use Rattle.receive.specs.declared.due.Due.{Due}
use Rattle.receive.specs.declared.receiver.Receiver.{Receiver}
use Rattle.receive.specs.declared.table.SlotState.{SlotState}
use Rattle.receive.specs.Memory.{need, recalled, memory}
use Rattle.receive.specs.Refusing.{unfit, slot_refused}
use Rattle.receive.specs.Handing.{replied, Hands, one, whole_row, mended_row, lost_row}
use Rattle.receive.specs.Calls.{room, Taken, SlotWith, SlotCall, HandsOut}
use Rattle.receive.proofs.Memories.{state_of, StandsFor, recall_latest, recall_earlier}

-- a chain of refusals that gives none
pub past : (test : Bool) (e : SlotRefusal) (rest : Option SlotRefusal) → cond test (Some e) rest ≡ None → (test ≡ false) × (rest ≡ None)
past test e rest none = elim (cases_Bool test) [
  | inl a ↦ let no : Some e ≡ None = sym (cond-true test (Some e) rest a) ∙ none in let z : ◌≡◌ {A = ℕ} 0 1 = cc no in absurd (omega arith)
  | inr a ↦ (a, sym (cond-false test (Some e) rest a) ∙ none)
]

-- what holds where a slot call is not refused
pub record Accepted (p : Sheet) (w t : ℕ) (bad : Bool) (symbols marks : ℕ) : Type 0 where
  pub wide : need p ≤ w
  pub few : t < top_slots
  pub fit : bad ≡ false
  pub row_place : symbols ≡ p.row
  pub mark_place : marks ≡ p.row

pub accepted : (p : Sheet) (w t : ℕ) (bad : Bool) (symbols marks : ℕ) → slot_refused p w t bad symbols marks ≡ None → Accepted p w t bad symbols marks
accepted p w t bad symbols marks none =
    let a = past (ltb w (need p)) SlotRefusal.Window _ none in
    let b = past (leb top_slots t) SlotRefusal.Slots _ a.1 in
    let c = past bad SlotRefusal.Packet _ b.1 in
    let d = past (not (eqb symbols p.row) || not (eqb marks p.row)) SlotRefusal.Place _ c.1 in
    let e = or_parts (not (eqb symbols p.row)) (not (eqb marks p.row)) d.0 in
    record {
      wide = ltb-false w (need p) a.0;
      few = leb-false top_slots t b.0;
      fit = c.0;
      row_place = eqb-true symbols p.row (not-false _ e.0);
      mark_place = eqb-true marks p.row (not-false _ e.1);
    }

memory_is : {S : Type 0} (K : Kind S) (r : Receiver S) (p : Sheet) (t : ℕ) (states : List SlotState) (held : List S) → r.sheet ≡ p → r.counters.slots ≡ t → r.table.states ≡ states → contents r.line ≡ held → memory K r ≡ recalled K p t states held
memory_is K r p t states held a b c d =
    ap (λ (x : Sheet). recalled K x r.counters.slots r.table.states (contents r.line)) a
    ∙ ap (λ (x : ℕ). recalled K p x r.table.states (contents r.line)) b
    ∙ ap₂ (λ x y. recalled K p t x y) c d

-- a slot goes into the table and the line, and then what falls due is handed out
module _ {S : Type 0} {K : Kind S} (before : Receiver S) {mid after : Receiver S} (came : Option (List S)) (q : List S) {row row' : List S} {marks marks' : List Mark} {due : Option Due}
    (none : slot_refused before.sheet (room before) before.counters.slots (unfit before.sheet came) (length row) (length marks) ≡ None) (fits : length q ≡ n before.sheet) (is : StandsFor came q)
    (sheet : mid.sheet ≡ before.sheet) (counters : mid.counters ≡ before.counters) (table : mid.table.states ≡ set before.table.states (before.counters.slots % 512) (state_of came)) (whole : length mid.table.states ≡ 512)
    (line : contents mid.line ≡ entered q (contents before.line)) (stays : Stays before.line mid.line) (out : HandsOut K mid after row row' marks marks' due) where
  pub slot_call : SlotCall K before after came (replied row row' marks marks' (Ok due))
  slot_call =
      let p : Sheet = before.sheet in
      let t : ℕ = before.counters.slots in
      let states : List SlotState = before.table.states in
      let held : List S = contents before.line in
      let roomy : need p ≤ length held = (accepted p (room before) t (unfit p came) (length row) (length marks) none).wide in
      let slots-are : mid.counters.slots ≡ before.counters.slots = ap (λ x. x.slots) counters in
      let full : length states ≡ 512 = sym (length-set states (t % 512) (state_of came)) ∙ sym (ap length table) ∙ whole in
      let line-is : contents after.line ≡ entered q held = ap contents out.line ∙ line in
      let now-is : memory K after ≡ recalled K p (t + 1) (set states (t % 512) (state_of came)) (entered q held) = memory_is K after p (t + 1) _ _ (out.sheet ∙ sheet) (out.slots ∙ ap (λ i. i + 1) slots-are) (out.table ∙ table) line-is in
      let done : Taken K p t before after came (replied row row' marks marks' (Ok due)) = record {
        sheet = out.sheet ∙ sheet;
        slots = out.slots ∙ ap (λ i. i + 1) slots-are;
        latest = ap (λ (h : History S). h t) now-is ∙ recall_latest K p t states held q full roomy fits came is;
        earlier = λ s low high. ap (λ (h : History S). h s) now-is ∙ recall_earlier K p t states held q full roomy fits (state_of came) s low high;
        hands = subst (λ (x : Sheet). Hands K x (memory K after) t (replied row row' marks marks' (Ok due))) sheet (subst (λ (i : ℕ). Hands K mid.sheet (memory K after) i (replied row row' marks marks' (Ok due))) slots-are out.hands);
        whole = out.whole ∙ ap (λ x. x.whole + one whole_row (Ok due)) counters;
        mended = out.mended ∙ ap (λ x. x.mended + one mended_row (Ok due)) counters;
        lost = out.lost ∙ ap (λ x. x.lost + one lost_row (Ok due)) counters;
        stays = subst (λ (l : _). Stays before.line l) (sym out.line) stays;
      } in
      subst (λ (d : Option SlotRefusal). SlotWith K d p t before after came (replied row row' marks marks' (Ok due))) (sym none) done
