-- A tail packet after the other. Assumes nothing.
use Rattle.std.proofs.Common.{◌≡◌, ℕ, suc, ◌+◌, ◌-◌, ◌<◌, ◌≤◌, ltb, leb, List, [], ◌++◌, length, Some, None, Ok, Err, Option, Result, sym, refl, ap, ◌∙◌, subst, inl, inr, arith}
use Rattle.std.proofs.lemmas.List.{append-nil, append_assoc}
use Rattle.std.proofs.lemmas.Bool.{cases_eq, cond-true, cond-false, eq-eqb, ne_eqb, le-ltb, and_left}
use Rattle.kinds.specs.Kind.{Kind}
use Rattle.kinds.specs.Form.{Form}
use Rattle.code.specs.declared.refusal.TailRefusal.{TailRefusal}
use Rattle.code.specs.declared.sheet.Sheet.{Sheet}
use Rattle.code.specs.Sheets.{T}
use Rattle.code.specs.Packets.{Rows, packet}
use Rattle.code.proofs.Windows.{whole}
use Rattle.line.specs.declared.line.SymbolLine.{SymbolLine}
use Rattle.line.proofs.Staying.{room_stays}
use Rattle.transmit.specs.declared.sender.WindingSender.{WindingSender}
use Rattle.transmit.specs.Keeping.{kept, with_row}
use Rattle.transmit.specs.Refusing.{tail_refused}
use Rattle.transmit.specs.Calls.{room, Drawn, drawing, TailCall, TailAt, TailWith}
use Rattle.transmit.proofs.Allowing.{tail_allowed}
use Rattle.lines.specs.Lines.{ended, packet_line}
use Rattle.lines.specs.Writing.{fault_refused}
use Rattle.text.specs.declared.fault.RunFault.TheVariants as run
use Rattle.text.specs.Faults.{run_number}
use Rattle.runs.specs.Whole.{fault_text, unless}
use Rattle.runs.proofs.Positions.{tail_printed}
use Rattle.sending.specs.Printing.{packet_text, slot_text, after_tail, tail_stop, tail_text, tail_fault}
use Rattle.sending.specs.Tailing.{Wound}
use Rattle.sending.proofs.Alike.{Alike, alike_passed, packet_alike}
use Rattle.sending.proofs.Taking.{packet_printed}

err_same : (f e : TailRefusal) → ◌≡◌ {A = Result (Unit {0}) TailRefusal} (Err f) (Err e) → f ≡ e
err_same f e same = cc

module _ {S : Type 0} (K : Kind S) (p : Sheet) where
  -- no row is kept beyond those that were put
  pub none_beyond : (t j b : ℕ) (line : SymbolLine S) → t ≤ j → kept K p t line j b ≡ K.zero
  none_beyond t j b line l = cond-false _ _ _ (and_left (ltb j t) (leb t (j + T p)) (le-ltb j t l))

  -- a row of zeros changes nothing
  pub zeros_alike : (m t : ℕ) (first now : SymbolLine S) → m ≤ t → Alike K p t (kept K p t now) (kept K p m first) →
      Alike K p t (with_row K (kept K p t now) t []) (kept K p m first)
  zeros_alike m t first now l same j b k low = elim (cases_eq j t) [
    | inl e ↦ cond-true _ _ _ (eq-eqb j t e) ∙ sym (none_beyond m j b first (omega arith))
    | inr e ↦ cond-false _ _ _ (ne_eqb j t e) ∙ same j b k low
  ]

module _ {S : Type 0} (K : Kind S) (F : Form S) (p : Sheet) (m : ℕ) (first : WindingSender S) (len : ℕ) (out₀ : List ℕ) where
  abbrev window : ℕ
  window = room first.line

  abbrev rows : Rows S
  rows = kept K p m first.line

  -- i tail packets were printed
  pub record Drawing (v : WindingSender S) (out : List ℕ) (i : ℕ) : Type 0 where
    pub sheet : v.sheet ≡ p
    pub rows_are : v.count.rows ≡ m
    pub tails_are : v.count.tails ≡ i
    pub room_is : room v.line ≡ room first.line
    pub same : Alike K p (m + i) (kept K p (m + i) v.line) rows
    pub prints : out ++ tail_text K F p window len rows m i (T p - i) ≡ out₀ ++ tail_text K F p window len rows m 0 (T p)
    pub faults : tail_fault K F p window len m i (T p - i) ≡ tail_fault K F p window len m 0 (T p)

  abbrev pub Draws : WindingSender S → List ℕ → ℕ → Type 0
  Draws v out i = Wound K F p m first → Drawing v out i

  pub begins : Draws first out₀ 0
  begins w = record {
    sheet = w.sheet;
    rows_are = w.rows;
    tails_are = w.tails;
    room_is = refl;
    same = subst (λ (t : ℕ). Alike K p t (kept K p t first.line) rows) (let e : m ≡ m + 0 = omega arith in e) (λ j b l low. refl);
    prints = ap (λ k. out₀ ++ tail_text K F p window len rows m 0 k) (let e : T p - 0 ≡ T p = omega arith in e);
    faults = ap (tail_fault K F p window len m 0) (let e : T p - 0 ≡ T p = omega arith in e);
  }

  module _ (v v' : WindingSender S) (i : ℕ) (out out' : List ℕ) (place place' : List S) (answer : Result (Unit {0}) TailRefusal)
      (left : i < T p) (long : length place ≡ len) (call : TailCall K v v' (drawing place place' answer)) (d : Drawing v out i)
    where
      abbrev refusal : Option TailRefusal
      refusal = tail_refused p window (m + i) i len

      abbrev c : Drawn S
      c = drawing place place' answer

      call_at : TailWith K refusal p m i v v' c
      call_at =
          subst (λ (k : ℕ). TailWith K (tail_refused p window (m + i) i k) p m i v v' c) long
          (subst (λ (w : ℕ). TailAt K p w m i v v' c) d.room_is
          (subst (λ (k : ℕ). TailAt K p (room v.line) m k v v' c) d.tails_are
          (subst (λ (k : ℕ). TailAt K p (room v.line) k v.count.tails v v' c) d.rows_are
          (subst (λ (x : Sheet). TailAt K x (room v.line) v.count.rows v.count.tails v v' c) d.sheet call))))

      one_more : T p - i ≡ suc (T p - (i + 1))
      one_more = omega arith

      text_is : (o : Option TailRefusal) → refusal ≡ o →
          tail_text K F p window len rows m i (T p - i) ≡ after_tail m o (slot_text K F p rows (m + i) ++ tail_text K F p window len rows m (i + 1) (T p - (i + 1)))
      text_is o is =
          ap (tail_text K F p window len rows m i) one_more
          ∙ ap (λ x. after_tail m x (slot_text K F p rows (m + i) ++ tail_text K F p window len rows m (i + 1) (T p - (i + 1)))) is

      fault_is : (o : Option TailRefusal) → refusal ≡ o → tail_fault K F p window len m i (T p - i) ≡ tail_stop m o (tail_fault K F p window len m (i + 1) (T p - (i + 1)))
      fault_is o is = ap (tail_fault K F p window len m i) one_more ∙ ap (λ x. tail_stop m x (tail_fault K F p window len m (i + 1) (T p - (i + 1)))) is

      module _ (done : answer ≡ Ok tt) (printed : out' ≡ out ++ packet_text F p (m + i) place') where
        given : (o : Option TailRefusal) → refusal ≡ o → Drawing v' out' (i + 1)
        given (Some e) is =
            let x = subst (λ (o : Option TailRefusal). TailWith K o p m i v v' c) is call_at in
            let same : ◌≡◌ {A = Result (Unit {0}) TailRefusal} (Ok tt) (Err e) = sym done ∙ x.answer in
            let z : ◌≡◌ {A = ℕ} 0 1 = cc in absurd (omega arith)
        given None is =
            let x = subst (λ (o : Option TailRefusal). TailWith K o p m i v v' c) is call_at in
            let ok = tail_allowed p window (m + i) i len is in
            let zeros : Alike K p (m + i) (with_row K (kept K p (m + i) v.line) (m + i) []) rows = zeros_alike K p m (m + i) first.line v.line (omega arith) d.same in
            let written : place' ≡ packet K p rows (m + i) = x.passes.written ∙ packet_alike K p (m + i) (m + i) _ rows zeros (omega arith) in
            let passed : Alike K p ((m + i) + 1) (kept K p ((m + i) + 1) v'.line) rows =
            λ j b l low. alike_passed K p (m + i) v.line v'.line [] place' x.passes j b l low ∙ zeros j b l (omega arith) in
            record {
              sheet = x.sheet;
              rows_are = x.rows;
              tails_are = x.tails;
              room_is = room_stays v.line v'.line x.passes.stays ∙ d.room_is;
              same = subst (λ (t : ℕ). Alike K p t (kept K p t v'.line) rows) (let e : (m + i) + 1 ≡ m + (i + 1) = omega arith in e) passed;
              prints =
                  ap (λ x. x ++ tail_text K F p window len rows m (i + 1) (T p - (i + 1)))
                  (printed ∙ ap (λ x. out ++ x) (packet_printed F p (m + i) place' ok.1 (ap length written ∙ whole K p rows (m + i)) ∙ ap (λ q. ended (packet_line F (m + i) q)) written))
                  ∙ append_assoc out (slot_text K F p rows (m + i)) (tail_text K F p window len rows m (i + 1) (T p - (i + 1)))
                  ∙ sym (ap (λ x. out ++ x) (text_is None is))
                  ∙ d.prints;
              faults = sym (fault_is None is) ∙ d.faults;
            }

        pub drawn : Drawing v' out' (i + 1)
        drawn = given refusal refl

      module _ (few : m ≤ 1000000) (e : TailRefusal) (refused : answer ≡ Err e)
          (printed : out' ≡ out ++ unless (fault_refused (m + 2) (run_number (run.Tail (m + 2) e)) 0 18) (fault_text (run.Tail (m + 2) e)))
        where
          ends_by : (o : Option TailRefusal) → refusal ≡ o →
              (out' ≡ out₀ ++ tail_text K F p window len rows m 0 (T p)) × (Some (run.Tail (m + 2) e) ≡ tail_fault K F p window len m 0 (T p))
          ends_by (Some f) is =
              let x = subst (λ (o : Option TailRefusal). TailWith K o p m i v v' c) is call_at in
              let same : f ≡ e = err_same f e (sym x.answer ∙ refused) in (
                printed ∙ ap (λ x. out ++ x) (tail_printed (m + 2) e (omega arith) ∙ ap (λ x. fault_text (run.Tail (m + 2) x)) (sym same)) ∙ sym (ap (λ x. out ++ x) (text_is (Some f) is)) ∙ d.prints,
                ap (λ x. Some (run.Tail (m + 2) x)) (sym same) ∙ sym (fault_is (Some f) is) ∙ d.faults,
              )
          ends_by None is =
              let x = subst (λ (o : Option TailRefusal). TailWith K o p m i v v' c) is call_at in
              let same : ◌≡◌ {A = Result (Unit {0}) TailRefusal} (Ok tt) (Err e) = sym x.answer ∙ refused in
              let z : ◌≡◌ {A = ℕ} 0 1 = cc in absurd (omega arith)

          pub stops : (out' ≡ out₀ ++ tail_text K F p window len rows m 0 (T p)) × (Some (run.Tail (m + 2) e) ≡ tail_fault K F p window len m 0 (T p))
          stops = ends_by refusal refl

  -- all are given
  pub all_drawn : (v : WindingSender S) (out : List ℕ) (i : ℕ) → T p ≤ i → Drawing v out i →
      (out ≡ out₀ ++ tail_text K F p window len rows m 0 (T p)) × (None ≡ tail_fault K F p window len m 0 (T p))
  all_drawn v out i l d =
      let none : T p - i ≡ 0 = omega arith in (
        sym (append-nil out) ∙ ap (λ k. out ++ tail_text K F p window len rows m i k) (sym none) ∙ d.prints,
        ap (tail_fault K F p window len m i) (sym none) ∙ d.faults,
      )
