-- What a line and a table hold after one more slot is what is remembered then. Assumes nothing.
use Rattle.std.proofs.Common.{◌≡◌, ℕ, ◌+◌, ◌-◌, ◌*◌, ◌%◌, ◌<◌, ◌≤◌, true, cond, ◌&&◌, ◌≢◌, List, length, get_or, set, Some, None, Option, unwrap_or, sym, ap, ◌∙◌, ap₂, mul-le-mul_right, add-mul, one-mul, arith}
use Rattle.std.proofs.lemmas.List.{get_or-set_same, get_or-set_other}
use Rattle.std.proofs.lemmas.List.FromFn.{fill_by_all}
use Rattle.std.proofs.lemmas.Bool.{and_from, and_right, lt-ltb, le-leb, cond-true, cond-false}
use Rattle.kinds.specs.Kind.{Kind}
use Rattle.kinds.proofs.Lists.{map_same}
use Rattle.code.specs.declared.sheet.Sheet.{Sheet}
use Rattle.code.specs.Sheets.{T, n}
use Rattle.code.proofs.Numbers.{lag_below, lag_some}
use Rattle.line.specs.Ring.{entered, look, symbol_back, stretch}
use Rattle.line.proofs.Rings.{look-latest, look-earlier}
use Rattle.receive.specs.declared.table.SlotState.{SlotState}
use Rattle.receive.specs.declared.table.SlotState.TheVariants.{Arrived, Missed}
use Rattle.receive.specs.Memory.{need, came_in, remembered, recalled}

abbrev pub state_of : {S : Type 0} → Option (List S) → SlotState
state_of (Some q) = Arrived
state_of None = Missed

-- the packet that came, or what goes into the line in its stead
abbrev pub StandsFor : {S : Type 0} → Option (List S) → List S → Type 0
StandsFor (Some x) q = x ≡ q
StandsFor None q = Unit {0}

some_wait : (p : Sheet) → 1 ≤ T p
some_wait p = omega (arith, lag_some p 0, lag_below p 0 p.rows.0, p.bursts.0)

module _ {S : Type 0} (K : Kind S) (p : Sheet) (t : ℕ) (states : List SlotState) (held q : List S) (full : length states ≡ 512) (room : need p ≤ length held) (fits : length q ≡ n p) where
  abbrev z : S
  z = K.zero

  kept_in : (s m : ℕ) → s < m → m ≤ s + 2 * T p → remembered p m s ≡ true
  kept_in s m l h = and_from _ _ (lt-ltb s m l) (le-leb m (s + 2 * T p) h)

  one_slot : n p ≤ need p
  one_slot = let x : 1 ≤ 2 * T p = omega (arith, some_wait p) in omega (arith, mul-le-mul_right (n p) x, one-mul (n p))

  here : (state : SlotState) → get_or (set states (t % 512) state) (t % 512) Arrived ≡ state
  here state = get_or-set_same states (t % 512) state Arrived (omega arith)

  latest_in : remembered p (t + 1) t ≡ true
  latest_in = kept_in t (t + 1) (omega arith) (omega (arith, some_wait p))

  latest_packet : q ≡ stretch K.zero (entered q held) ((t + 1 - t) * n p) (n p)
  latest_packet =
      let once : (t + 1 - t) * n p ≡ n p = ap (λ x. x * n p) (let e : t + 1 - t ≡ 1 = omega arith in e) ∙ one-mul (n p) in
      fill_by_all (λ i. symbol_back K.zero (entered q held) ((t + 1 - t) * n p - i)) q (n p) z fits (λ i l.
      sym (ap (λ o. unwrap_or o z) (look-latest q held ((t + 1 - t) * n p - i) z (omega (arith, once)) (omega (arith, once)) (omega (arith, once, one_slot)))
      ∙ ap (λ k. get_or q k z) (let e : length q - ((t + 1 - t) * n p - i) ≡ i = omega (arith, once) in e)))

  pub recall_latest : (came : Option (List S)) → StandsFor came q → recalled K p (t + 1) (set states (t % 512) (state_of came)) (entered q held) t ≡ came
  recall_latest (Some x) is =
      cond-true _ _ _ (and_from _ _ latest_in (ap came_in (here Arrived))) ∙ ap Some (sym latest_packet ∙ sym is)
  recall_latest None is = cond-false _ _ _ (and_right (remembered p (t + 1) t) _ (ap came_in (here Missed)))

  earlier_packet : (s : ℕ) → s < t → t < s + 2 * T p → stretch K.zero (entered q held) ((t + 1 - s) * n p) (n p) ≡ stretch K.zero held ((t - s) * n p) (n p)
  earlier_packet s low high =
      let more : (t + 1 - s) * n p ≡ (t - s) * n p + n p = ap (λ x. x * n p) (let e : t + 1 - s ≡ (t - s) + 1 = omega arith in e) ∙ add-mul (t - s) 1 (n p) ∙ ap (λ x. (t - s) * n p + x) (one-mul (n p)) in
      let near : (t + 1 - s) * n p ≤ need p = mul-le-mul_right (n p) (let e : t + 1 - s ≤ 2 * T p = omega arith in e) in
      let some : n p ≤ (t - s) * n p = omega (arith, mul-le-mul_right (n p) (let e : 1 ≤ t - s = omega arith in e), one-mul (n p)) in
      map_same _ _ (n p) z (λ i l. ap (λ o. unwrap_or o z)
      (look-earlier q held ((t + 1 - s) * n p - i) (omega arith) (omega arith)
      ∙ ap (look held) (let e : ((t + 1 - s) * n p - i) - length q ≡ (t - s) * n p - i = omega arith in e)))

  pub recall_earlier : (state : SlotState) (s : ℕ) → s < t → t < s + 2 * T p → recalled K p (t + 1) (set states (t % 512) state) (entered q held) s ≡ recalled K p t states held s
  recall_earlier state s low high =
      let two : 2 * T p ≤ 512 = omega (arith, p.few) in
      let apart : s % 512 ≢ t % 512 = λ e. omega arith in
      let tests : (remembered p (t + 1) s && came_in (get_or (set states (t % 512) state) (s % 512) Arrived)) ≡ (remembered p t s && came_in (get_or states (s % 512) Arrived)) =
      ap₂ (λ x y. x && came_in y)
      (kept_in s (t + 1) (omega arith) (omega arith) ∙ sym (kept_in s t low (omega arith)))
      (get_or-set_other states (t % 512) (s % 512) state Arrived apart) in
      ap₂ (λ b x. cond b (Some x) None) tests (earlier_packet s low high)
