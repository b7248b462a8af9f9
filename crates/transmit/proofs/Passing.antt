-- A slot passes: its packet is written, and its row goes into the line. Assumes nothing.
use Rattle.std.proofs.Common.{◌≡◌, ℕ, ◌+◌, ◌-◌, ◌*◌, ◌<◌, ◌≤◌, ltb, leb, List, ◌++◌, length, get_or, None, Option, unwrap_or, sym, refl, ap, ◌∙◌, subst, ap₂, mul-le-mul_right, add-mul, one-mul, arith}
use Rattle.std.proofs.lemmas.List.FromFn.{fill_by_all}
use Rattle.std.proofs.lemmas.Bool.{cond-true, cond-false, and_from, eq-eqb, ne_eqb, le-leb, lt-ltb}
use Rattle.kinds.specs.Kind.{Kind}
use Rattle.kinds.proofs.Lists.{map_same}
use Rattle.code.specs.declared.refusal.PutRefusal.{PutRefusal}
use Rattle.code.specs.declared.refusal.TailRefusal.{TailRefusal}
use Rattle.code.specs.declared.sheet.Sheet.{Sheet}
use Rattle.code.specs.Sheets.{T, lag}
use Rattle.code.specs.Packets.{packet, parity, in_column}
use Rattle.code.proofs.Numbers.{lag_below, lag_some}
use Rattle.code.proofs.Carrying.{gathered_same}
use Rattle.code.proofs.Windows.{brought_same}
use Rattle.line.specs.declared.line.SymbolLine.{SymbolLine}
use Rattle.line.specs.Ring.{symbol_back, entered}
use Rattle.line.specs.Line.{contents, Stays}
use Rattle.line.proofs.Rings.{look-latest, look-earlier}
use Rattle.transmit.specs.Keeping.{need, kept, with_row, sums}
use Rattle.transmit.specs.declared.sender.Sender.{Sender}
use Rattle.transmit.specs.declared.sender.WindingSender.{WindingSender}
use Rattle.transmit.specs.Refusing.{put_refused, tail_refused}
use Rattle.transmit.specs.Calls.{room, Passes, Put, Drawn, PutDone, PutWith, PutCall, TailDone, TailWith, TailCall}

-- the delay is at least one slot
pub some_delay : (p : Sheet) → 1 ≤ T p
some_delay p = omega (arith, lag_some p 0, lag_below p 0 p.rows.0, p.bursts.0)

module _ {S : Type 0} (K : Kind S) (p : Sheet) (t : ℕ) (before after : SymbolLine S) (pushed row : List S) where
  abbrev old : ℕ → ℕ → S
  old = kept K p t before

  module _ (long : length pushed ≡ p.row) (same : (b : ℕ) → b < p.row → get_or pushed b K.zero ≡ get_or row b K.zero) where
    -- the packet is the row and then the sums
    written : pushed ++ sums K p old t p.row ≡ packet K p (with_row K old t row) t
    written =
        ap₂ ◌++◌ (fill_by_all (with_row K old t row t) pushed p.row K.zero long (λ b l. same b l ∙ sym (cond-true _ _ _ (eq-eqb t t refl))))
        (map_same _ (parity K p (with_row K old t row) t) p.parity K.zero (λ c _.
        gathered_same K p old (with_row K old t row) t (in_column p c) p.row (λ b _ _.
        brought_same K p old (with_row K old t row) t b (λ l. sym (cond-false _ _ _ (ne_eqb (t - lag p b) t (λ e. omega (arith, lag_some p b, p.bursts.0))))))))

    module _ (fits : need p ≤ room before) (holds : contents after ≡ entered pushed (contents before)) where
      enough : p.row ≤ room before
      enough = omega (arith, mul-le-mul_right p.row (some_delay p), one-mul p.row)

      latest : (b : ℕ) → b < p.row → kept K p (t + 1) after t b ≡ get_or row b K.zero
      latest b l =
          let steps : ((t + 1) - t) * p.row - b ≡ p.row - b = ap (λ i. i * p.row - b) (let e : (t + 1) - t ≡ 1 = omega arith in e) ∙ ap (λ i. i - b) (one-mul p.row) in
          let place : length pushed - (p.row - b) ≡ b = omega (arith, long) in
          cond-true _ _ _ (and_from (ltb t (t + 1)) (leb (t + 1) (t + T p)) (lt-ltb t (t + 1) (omega arith)) (le-leb (t + 1) (t + T p) (omega (arith, some_delay p))))
          ∙ ap₂ (symbol_back K.zero) holds steps
          ∙ ap (λ o. unwrap_or o K.zero) (look-latest pushed (contents before) (p.row - b) K.zero (omega arith) (omega (arith, long)) (omega (arith, enough)))
          ∙ ap (λ i. get_or pushed i K.zero) place ∙ same b l

      earlier : (j b : ℕ) → b < p.row → j < t → t < j + T p → kept K p (t + 1) after j b ≡ kept K p t before j b
      earlier j b l young recent =
          let k : ℕ = p.row in
          let more : ((t + 1) - j) * p.row ≡ (t - j) * p.row + p.row = ap (λ i. i * p.row) (let e : (t + 1) - j ≡ (t - j) + 1 = omega arith in e) ∙ add-mul (t - j) 1 p.row ∙ ap (λ i. (t - j) * p.row + i) (one-mul p.row) in
          let some : p.row ≤ (t - j) * p.row = omega (arith, mul-le-mul_right p.row (let e : 1 ≤ t - j = omega arith in e), one-mul p.row) in
          let few : ((t + 1) - j) * p.row ≤ T p * p.row = mul-le-mul_right p.row (omega arith) in
          let back : (((t + 1) - j) * p.row - b) - length pushed ≡ (t - j) * p.row - b = omega (arith, long, more, some) in
          cond-true _ _ _ (and_from (ltb j (t + 1)) (leb (t + 1) (j + T p)) (lt-ltb j (t + 1) (omega arith)) (le-leb (t + 1) (j + T p) (omega arith)))
          ∙ ap (λ xs. symbol_back K.zero xs (((t + 1) - j) * p.row - b)) holds
          ∙ ap (λ o. unwrap_or o K.zero) (look-earlier pushed (contents before) (((t + 1) - j) * p.row - b) (omega (arith, long, more, some)) (omega (arith, few)))
          ∙ ap (symbol_back K.zero (contents before)) back
          ∙ sym (cond-true _ _ _ (and_from (ltb j t) (leb t (j + T p)) (lt-ltb j t young) (le-leb t (j + T p) (omega arith))))

      pub passes : (place' : List S) → place' ≡ pushed ++ sums K p old t p.row → Stays before after → Passes K p t before after row place'
      passes place' is stays = record { written = is ∙ written; latest = latest; earlier = earlier; stays = stays }

-- a call that is not refused is done
module _ {S : Type 0} (K : Kind S) where
  pub put_done : (s s' : Sender S) (c : Put S) → put_refused s.sheet (room s.line) s.count.rows (length c.row) (length c.place) ≡ None →
      PutDone K s.sheet s.count.rows s s' c → PutCall K s s' c
  put_done s s' c is done = subst (λ (o : Option PutRefusal). PutWith K o s.sheet s.count.rows s s' c) (sym is) done

  pub tail_done : (v v' : WindingSender S) (c : Drawn S) → tail_refused v.sheet (room v.line) (v.count.rows + v.count.tails) v.count.tails (length c.place) ≡ None →
      TailDone K v.sheet v.count.rows v.count.tails v v' c → TailCall K v v' c
  tail_done v v' c is done = subst (λ (o : Option TailRefusal). TailWith K o v.sheet v.count.rows v.count.tails v v' c) (sym is) done
