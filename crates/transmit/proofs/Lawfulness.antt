-- The law over sending runs holds. Assumes nothing.
use Rattle.std.proofs.Common.{◌≡◌, ℕ, ◌<◌, leb, List, [], ◌∷◌, ◌++◌, length, drop, Some, None, Ok, Err, Option, Result, sym, refl, ap, ◌∙◌, subst, inl, inr, arith}
use Rattle.std.proofs.lemmas.Bool.{cases_Bool, cond-true, leb-false}
use Rattle.kinds.specs.Kind.{Kind}
use Rattle.code.specs.declared.refusal.PutRefusal.{PutRefusal}
use Rattle.code.specs.declared.refusal.TailRefusal.{TailRefusal}
use Rattle.code.specs.declared.sheet.Sheet.{Sheet}
use Rattle.line.specs.Line.{fitting}
use Rattle.transmit.specs.declared.sender.Sender.{Sender}
use Rattle.transmit.specs.declared.sender.WindingSender.{WindingSender}
use Rattle.transmit.specs.declared.sender.Sent.{Sent}
use Rattle.transmit.specs.Keeping.{need}
use Rattle.transmit.specs.Refusing.{put_refused, tail_refused, PutReason, TailReason}
use Rattle.transmit.specs.Calls.{SenderMade, Put, Drawn, PutWith, PutAt, PutCall, TailWith, TailAt, TailCall, EndCall}
use Rattle.transmit.specs.Runs.{Standing, taking, winding, ended, Event, put, wind, tail, end, Run, stop, put_call, wind_call, tail_call, end_call}
use Rattle.transmit.specs.Law.{rows_put, tails_given, used, list_of, packet_of, Law, Lawful}
use Rattle.transmit.proofs.Allowing.{put_reason, tail_reason}
use Rattle.transmit.proofs.Agreement.{Takes, Winds, Agrees, packet_is, put_at, tail_at, agrees_run, own_put, own_tail, no_rows}

-- a line that has too few places lies over a window that is too short
fitting_short : (need w : ℕ) → fitting need w < need → w < need
fitting_short need w l = elim (cases_Bool (leb need w)) [
  | inl e ↦ let is : fitting need w ≡ need = cond-true _ _ _ e in absurd (omega arith)
  | inr e ↦ leb-false need w e
]

put_reason_is : (p : Sheet) (w t row place : ℕ) (e : PutRefusal) → PutReason p (fitting (need p) w) t row place e → PutReason p w t row place e
put_reason_is p w t row place PutRefusal.Window h = fitting_short (need p) w h
put_reason_is p w t row place PutRefusal.Slots h = h
put_reason_is p w t row place PutRefusal.Row h = h
put_reason_is p w t row place PutRefusal.Place h = h

tail_reason_is : (p : Sheet) (w t i place : ℕ) (e : TailRefusal) → TailReason p (fitting (need p) w) t i place e → TailReason p w t i place e
tail_reason_is p w t i place TailRefusal.Window h = fitting_short (need p) w h
tail_reason_is p w t i place TailRefusal.Slots h = h
tail_reason_is p w t i place TailRefusal.Place h = h
tail_reason_is p w t i place TailRefusal.Tail h = h

ok_err : {E : Type 0} (a : Result (Unit {0}) E) (e : E) → a ≡ Ok tt → a ≡ Err e → ⊥
ok_err a e p q = let z : ◌≡◌ {A = ℕ} 0 1 = cc in omega arith

module _ {S : Type 0} (K : Kind S) where
  split : (es fs : List (Event S)) {s q : Standing S} → Run K s (es ++ fs) q → (m : Standing S) × Run K s es m × Run K m fs q
  split [] fs {s} run = (s, stop, run)
  split (put c ∷ es) fs (put_call call more) = let rest = split es fs more in (rest.0, put_call call rest.1, rest.2)
  split (wind ∷ es) fs (wind_call call more) = let rest = split es fs more in (rest.0, wind_call call rest.1, rest.2)
  split (tail c ∷ es) fs (tail_call call more) = let rest = split es fs more in (rest.0, tail_call call rest.1, rest.2)
  split (end t ∷ []) [] (end_call call) = (ended, end_call call, stop)
  split (end t ∷ []) (_ ∷ _) {s = s} {q = q} run = elim run [ ]
  split (end t ∷ (_ ∷ _)) fs {s = s} {q = q} run = elim run [ ]

  first_put : {m q : Standing S} {c : Put S} {es : List (Event S)} → Run K m (put c ∷ es) q → (s : Sender S) × (s' : Sender S) × (m ≡ taking s) × PutCall K s s' c
  first_put (put_call {s = s} {s' = s'} call more) = (s, s', refl, call)

  first_tail : {m q : Standing S} {c : Drawn S} {es : List (Event S)} → Run K m (tail c ∷ es) q → (v : WindingSender S) × (v' : WindingSender S) × (m ≡ winding v) × TailCall K v v' c
  first_tail (tail_call {v = v} {v' = v'} call more) = (v, v', refl, call)

  first_end : {m q : Standing S} {t : Sent S} {es : List (Event S)} → Run K m (end t ∷ es) q → (v : WindingSender S) × (m ≡ winding v) × EndCall v t
  first_end (end_call {v = v} call) = (v, refl, call)

  module _ (p : Sheet) (lent : List S) (s : Sender S) (made : SenderMade p lent s) (es : List (Event S)) (q : Standing S) (run : Run K (taking s) es q) where
    abbrev these : ℕ → ℕ → S
    these = list_of K (rows_put es)

    start : Takes K p lent these [] s
    start = record {
      sheet = made.sheet;
      count = made.rows;
      no_tails = refl;
      line = record {
        runs = made.places;
        long = made.long;
        past = ap (λ m. drop m s.line.window.now) (sym made.places) ∙ made.past;
        recalls = λ j b l low high. absurd (omega arith);
      };
    }

    -- where the sender stands before an event of the run
    before : (past : List (Event S)) (e : Event S) (later : List (Event S)) → es ≡ past ++ (e ∷ later) → (m : Standing S) × Run K m (e ∷ later) q × Agrees K p lent these past m
    before past e later is =
        let parts = split past (e ∷ later) (subst (λ (fs : List (Event S)). Run K (taking s) fs q) is run) in
        (parts.0, parts.2, agrees_run K p lent es [] (e ∷ later) is parts.2 start parts.1)

    put_written : (past later : List (Event S)) (c : Put S) → es ≡ past ++ (put c ∷ later) → c.answer ≡ Ok tt → (a b : Sender S) (d : Option PutRefusal) → Takes K p lent these past a → PutWith K d p (used past) a b c → c.place' ≡ packet_of K p es (used past)
    put_written past later c is ok a b (Some e) t x = absurd (ok_err c.answer e ok x.answer)
    put_written past later c is ok a b None t x = packet_is K p lent these (used past) a.line b.line c.row c.place' t.line (own_put K p lent es past later a c is t ok) x.passes

    tail_written : (past later : List (Event S)) (c : Drawn S) → es ≡ past ++ (tail c ∷ later) → rows_put (tail c ∷ later) ≡ [] → c.answer ≡ Ok tt → (a b : WindingSender S) (d : Option TailRefusal) → Winds K p lent these past a → TailWith K d p (length (rows_put past)) (length (tails_given past)) a b c → c.place' ≡ packet_of K p es (used past)
    tail_written past later c is none ok a b (Some e) t x = absurd (ok_err c.answer e ok x.answer)
    tail_written past later c is none ok a b None t x = packet_is K p lent these (used past) a.line b.line [] c.place' t.line (own_tail K p lent es past (tail c ∷ later) is none) x.passes

    put_declined : (t : ℕ) (c : Put S) (e : PutRefusal) (a b : Sender S) (d : Option PutRefusal) → c.answer ≡ Err e → PutWith K d p t a b c → (d ≡ Some e) × (c.place' ≡ c.place)
    put_declined t c e a b (Some f) is x = (cc (sym x.answer ∙ is), x.place)
    put_declined t c e a b None is x = absurd (ok_err c.answer e x.answer is)

    tail_declined : (m i : ℕ) (c : Drawn S) (e : TailRefusal) (a b : WindingSender S) (d : Option TailRefusal) → c.answer ≡ Err e → TailWith K d p m i a b c → (d ≡ Some e) × (c.place' ≡ c.place)
    tail_declined m i c e a b (Some f) is x = (cc (sym x.answer ∙ is), x.place)
    tail_declined m i c e a b None is x = absurd (ok_err c.answer e x.answer is)

    abbrev w : ℕ
    w = fitting (need p) (length lent)

    put_met : (past later : List (Event S)) (c : Put S) → es ≡ past ++ (put c ∷ later) → (a : Sender S) × (b : Sender S) × Takes K p lent these past a × PutAt K p w (used past) a b c
    put_met past later c is =
        let m = before past (put c) later is in
        let f = first_put m.1 in
        let t : Takes K p lent these past f.0 = subst (λ (x : Standing S). Agrees K p lent these past x) f.2 m.2 in
        (f.0, f.1, t, put_at K p lent these past f.0 f.1 c t f.3)

    tail_met : (past later : List (Event S)) (c : Drawn S) → es ≡ past ++ (tail c ∷ later) → (a : WindingSender S) × (b : WindingSender S) × Winds K p lent these past a × TailAt K p w (length (rows_put past)) (length (tails_given past)) a b c × (rows_put (tail c ∷ later) ≡ [])
    tail_met past later c is =
        let m = before past (tail c) later is in
        let f = first_tail m.1 in
        let t : Winds K p lent these past f.0 = subst (λ (x : Standing S). Agrees K p lent these past x) f.2 m.2 in
        (f.0, f.1, t, tail_at K p lent these past f.0 f.1 c t f.3, no_rows K (subst (λ (x : Standing S). Run K x (tail c ∷ later) q) f.2 m.1))

    pub law : Law K p lent es
    law = record {
      rows = λ past later c is ok. let m = put_met past later c is in put_written past later c is ok m.0 m.1 (put_refused p w (used past) (length c.row) (length c.place)) m.2 m.3;
      tails = λ past later c is ok. let m = tail_met past later c is in tail_written past later c is m.4 ok m.0 m.1 (tail_refused p w (used past) (length (tails_given past)) (length c.place)) m.2 m.3;
      put_refusals = λ past later c e is err.
          let m = put_met past later c is in
          let x = put_declined (used past) c e m.0 m.1 (put_refused p w (used past) (length c.row) (length c.place)) err m.3 in
          (put_reason_is p (length lent) (used past) (length c.row) (length c.place) e (put_reason p w (used past) (length c.row) (length c.place) e x.0), x.1);
      tail_refusals = λ past later c e is err.
          let m = tail_met past later c is in
          let x = tail_declined (length (rows_put past)) (length (tails_given past)) c e m.0 m.1 (tail_refused p w (used past) (length (tails_given past)) (length c.place)) err m.3 in
          (tail_reason_is p (length lent) (used past) (length (tails_given past)) (length c.place) e (tail_reason p w (used past) (length (tails_given past)) (length c.place) e x.0), x.1);
      told = λ past later t is.
          let m = before past (end t) later is in
          let f = first_end m.1 in
          let a : Winds K p lent these past f.0 = subst (λ (x : Standing S). Agrees K p lent these past x) f.1 m.2 in
          (f.2.rows ∙ a.rows_are, f.2.tails ∙ a.tails_are, ap (drop w) f.2.window ∙ a.line.past);
    }

  -- A sender that has just been made sends lawfully.
  pub lawful : (p : Sheet) (lent : List S) (s : Sender S) → SenderMade p lent s → Lawful K p lent s
  lawful p lent s made es q run = law p lent s made es q run
