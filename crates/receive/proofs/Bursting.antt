-- Misses that form bursts in a run. Assumes nothing.
use Rattle.std.proofs.Common.{◌≡◌, ℕ, ◌/◌, ◌<◌, Bool, true, false, cond, List, length, get_or, is_some, None, sym, refl, ap, ◌∙◌, arith}
use Rattle.std.proofs.lemmas.List.FromFn.{length-map-range_with_len, get_or-map-range_with_len}
use Rattle.code.specs.declared.sheet.Sheet.{Sheet}
use Rattle.code.specs.Sheets.{n}
use Rattle.code.specs.Mending.{heard}
use Rattle.code.specs.Bursts.{Missed, Bursts}
use Rattle.code.specs.Worked.{Q, two_bursts}
use Rattle.code.proofs.Cases.{worked}
use Rattle.receive.specs.declared.table.SlotState.{SlotState}
use Rattle.receive.specs.Memory.{came_in}
use Rattle.receive.specs.Law.{taken, history, MissedIn}
use Rattle.receive.specs.Driving.{part, arrival, calls}
use Rattle.receive.specs.Bursting.{FormBursts}
use Rattle.receive.proofs.Driving.{slots_driven}

-- the same misses form the same bursts
same_bursts : (p : Sheet) (missed missed' : ℕ → Type 0) (group : ℕ → ℕ) → ((s : ℕ) → missed s → missed' s) → ((s : ℕ) → missed' s → missed s) → Bursts p missed group → Bursts p missed' group
same_bursts p missed missed' group to from b = record {
  short = λ x y mx my e. b.short x y (from x mx) (from y my) e;
  clear = λ x y l s mx my apart less last low high ms.
      b.clear x y l s (from x mx) (from y my) apart less
      (record { miss = from l last.miss; is_of = last.is_of; none_later = λ u mu e. last.none_later u (to u mu) e }) low high (from s ms);
}

arrival_some : {S : Type 0} (state : SlotState) (q : List S) → is_some (arrival state q) ≡ came_in state
arrival_some SlotState.Arrived q = refl
arrival_some SlotState.Missed q = refl

state_back : (b : Bool) → came_in (cond b SlotState.Arrived SlotState.Missed) ≡ b
state_back true = refl
state_back false = refl

pub form_bursts : (S : Type 0) → FormBursts S
form_bursts S x dues is =
    let es = calls Q x dues in
    let many : length x.states ≡ 18 = ap length is ∙ length-map-range_with_len (λ s. cond (two_bursts s) SlotState.Arrived SlotState.Missed) 0 18 in
    let long : taken (calls Q x dues) ≡ 18 = ap length (slots_driven Q x dues) ∙ length-map-range_with_len _ 0 (length x.states) ∙ many in
    let same : (s : ℕ) → s < 18 → heard (history (calls Q x dues)) s ≡ two_bursts s = λ s l.
    ap (λ xs. is_some (get_or xs s None)) (slots_driven Q x dues)
    ∙ ap is_some (get_or-map-range_with_len (λ i. arrival (get_or x.states i SlotState.Arrived) (part (n Q) x.packets i)) 0 (length x.states) s s None (omega arith) (omega arith))
    ∙ arrival_some (get_or x.states s SlotState.Arrived) (part (n Q) x.packets s)
    ∙ ap (λ ys. came_in (get_or ys s SlotState.Arrived)) is
    ∙ ap came_in (get_or-map-range_with_len (λ i. cond (two_bursts i) SlotState.Arrived SlotState.Missed) 0 18 s s SlotState.Arrived l (omega arith))
    ∙ state_back (two_bursts s) in
    same_bursts Q (Missed two_bursts 18) (MissedIn (calls Q x dues) (taken (calls Q x dues))) (λ s. s / 9)
    (λ s m. record { taken = omega (arith, m.taken, long); miss = same s m.taken ∙ m.miss })
    (λ s m. let l : s < 18 = omega (arith, m.taken, long) in record { taken = l; miss = sym (same s l) ∙ m.miss })
    worked.bursts
