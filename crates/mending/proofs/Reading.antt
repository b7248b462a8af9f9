-- What the line of a slot reads as. Assumes nothing.
use Rattle.std.proofs.Common.{◌≡◌, ℕ, ◌+◌, Bool, true, false, cond, not, eqb, List, [], ◌∷◌, length, drop, Some, None, Ok, Err, Option, Result, sym, refl, ap, ◌∙◌, inl, inr, arith}
use Rattle.std.proofs.lemmas.Bool.{cases_Bool, cond-true, cond-false, eq-eqb, eqb-true, ne_eqb}
use Rattle.kinds.specs.Form.{Form}
use Rattle.kinds.specs.Kind.{Kind}
use Rattle.code.specs.declared.refusal.SlotRefusal.TheVariants as slot
use Rattle.code.specs.declared.sheet.Sheet.{Sheet}
use Rattle.code.specs.Sheets.{n}
use Rattle.lines.specs.declared.header.Header.{Header}
use Rattle.receive.specs.Refusing.{unfit}
use Rattle.text.specs.declared.fault.LineFault.{LineFault}
use Rattle.text.specs.declared.fault.LineFault.TheVariants as fault
use Rattle.text.specs.declared.fault.RunFault.{RunFault}
use Rattle.text.specs.Reading.{and_then, begins, fitting, packet_into, packet_read, missed_read}
use Rattle.text.proofs.Inverses.{no_ok, then_ok, cond_ok, symbols_parts}
use Rattle.text.proofs.Symbols.{length_read}
use Rattle.runs.specs.declared.standing.Standing.TheVariants.{InRun}
use Rattle.runs.specs.declared.standing.MendLine.{MendLine}
use Rattle.runs.specs.declared.standing.MendLine.TheVariants as mend
use Rattle.runs.specs.Runs.{numbered_as, answer_of, Given, mend_read}
use Rattle.runs.proofs.Positions.{Within, then_within, packet_within, missed_within}
use Rattle.mending.specs.Printing.{Lent, slot_into}

-- what a reader answers to the line of slot t
abbrev pub line_of : {S : Type 0} → ℕ → Option (List S) → MendLine
line_of t (Some packet) = mend.Arrived t
line_of t None = mend.Missed t

-- what that line gives to a reader in the run
abbrev pub given_slot : {S : Type 0} → Header → ℕ → Result (Option (List S)) LineFault → Result (Given MendLine) RunFault
given_slot header t read = numbered_as (t + 2) (and_then read (λ came. Ok (line_of t came, InRun header (t + 1))))

then_then : {X Y Z E : Type 0} (r : Result X E) (f : X → Y) (g : Y → Result Z E) →
    and_then (and_then r (λ x. Ok (f x))) g ≡ and_then r (λ x. g (f x))
then_then (Ok x) f g = refl
then_then (Err e) f g = refl

module _ {S : Type 0} (K : Kind S) (F : Form S) (lent : Lent) (header : Header) (t : ℕ) where
  abbrev goes : Option (List S) → Result (Given MendLine) LineFault
  goes came = Ok (line_of t came, InRun header (t + 1))

  -- the lines of a packet, of a missed slot, and of any other letter
  module _ (c : ℕ) (cs : List ℕ) where
    abbrev packet_there : Result (List S) LineFault
    packet_there = packet_into F header.sheet t lent.packet (c ∷ cs)

    abbrev missed_there : Result (Unit {0}) LineFault
    missed_there = missed_read t (c ∷ cs)

    abbrev by_letters : Bool → Bool → Result (Given MendLine) LineFault
    by_letters a m =
        cond a (and_then packet_there (λ packet. Ok (mend.Arrived t, InRun header (t + 1))))
        (cond m (and_then missed_there (λ _. Ok (mend.Missed t, InRun header (t + 1)))) (Err fault.Letter))

    abbrev by_read : Bool → Result (Given MendLine) LineFault
    by_read m = and_then (cond m (and_then missed_there (λ _. Ok None)) (and_then packet_there (λ packet. Ok (Some packet)))) goes

    packet_so : by_letters true false ≡ by_read false
    packet_so = sym (then_then packet_there Some goes)

    missed_so : by_letters false true ≡ by_read true
    missed_so = sym (then_then missed_there (λ _. None) goes)

    other_so : eqb c 65 ≡ false → by_letters false false ≡ by_read false
    other_so e =
        sym (ap (λ (r : Result (List S) LineFault). and_then (and_then (fitting (fault.Slot slot.Place) lent.packet r) (λ packet. Ok (Some packet))) goes)
        (cond-false _ _ _ e))

    letters : by_letters (eqb c 65) (eqb c 77) ≡ by_read (eqb c 77)
    letters = elim (cases_Bool (eqb c 65)) [
      | inl a ↦
          let m : eqb c 77 ≡ false = ne_eqb c 77 (λ e. omega (arith, eqb-true c 65 a)) in
          ap (λ x. by_letters x (eqb c 77)) a ∙ ap (by_letters true) m ∙ packet_so ∙ sym (ap by_read m)
      | inr a ↦ elim (cases_Bool (eqb c 77)) [
        | inl m ↦ ap (λ x. by_letters x (eqb c 77)) a ∙ ap (by_letters false) m ∙ missed_so ∙ sym (ap by_read m)
        | inr m ↦ ap (λ x. by_letters x (eqb c 77)) a ∙ ap (by_letters false) m ∙ other_so a ∙ sym (ap by_read m)
      ]
    ]

  pub reads_slot : (line : List ℕ) → mend_read F (InRun header t) lent.packet line ≡ given_slot header t (slot_into K F header.sheet lent t line)
  reads_slot [] = refl
  reads_slot (c ∷ cs) = ap (numbered_as (t + 2)) (letters c cs)

module _ {S : Type 0} (header : Header) (t : ℕ) where
  -- a packet that was read
  pub read_packet : (number : ℕ) (read : Result (Option (List S)) LineFault) → Ok (mend.Arrived number) ≡ answer_of (given_slot header t read) →
      (packet : List S) × (read ≡ Ok (Some packet))
  read_packet number (Ok (Some packet)) is = (packet, refl)
  read_packet number (Ok None) is = let z : ◌≡◌ {A = ℕ} 0 1 = cc in absurd (omega arith)
  read_packet number (Err e) is = let z : ◌≡◌ {A = ℕ} 0 1 = cc in absurd (omega arith)

  -- a missed slot that was read
  pub read_missed : (number : ℕ) (read : Result (Option (List S)) LineFault) → Ok (mend.Missed number) ≡ answer_of (given_slot header t read) →
      read ≡ Ok None
  read_missed number (Ok (Some packet)) is = let z : ◌≡◌ {A = ℕ} 0 1 = cc in absurd (omega arith)
  read_missed number (Ok None) is = refl
  read_missed number (Err e) is = let z : ◌≡◌ {A = ℕ} 0 1 = cc in absurd (omega arith)

module _ {S : Type 0} (K : Kind S) (F : Form S) (p : Sheet) (lent : Lent) (t : ℕ) (line : List ℕ) where
  -- a packet that was read is that of the line ..
  pub packet_of : (packet : List S) → slot_into K F p lent t line ≡ Ok (Some packet) → packet_into F p t lent.packet line ≡ Ok packet
  packet_of packet is = elim (cases_Bool (begins 77 line)) [
    | inl m ↦
        let a = then_ok (missed_read t line) _ (Some packet) (sym (cond-true _ _ _ m) ∙ is) in
        let no : Ok None ≡ Ok (Some packet) = a.2 in
        let z : ◌≡◌ {A = ℕ} 0 1 = cc no in absurd (omega arith)
    | inr m ↦
        let a = then_ok (packet_into F p t lent.packet line) _ (Some packet) (sym (cond-false _ _ _ m) ∙ is) in
        let same : a.0 ≡ packet = cc a.2 in
        a.1 ∙ ap Ok same
  ]

  -- .. and has the sheet's length
  pub packet_long : (packet : List S) → packet_into F p t lent.packet line ≡ Ok packet → length packet ≡ n p
  packet_long packet is =
      let a = then_ok (packet_read F p t line) _ packet is in
      let b = cond_ok (eqb lent.packet (length a.0)) (Ok a.0) _ packet a.2 in
      let same : a.0 ≡ packet = cc b.1 in
      sym (ap length same) ∙ length_read F (n p) 10 (drop 9 line) a.0 (symbols_parts F 65 (n p) t line a.0 a.1).1

  cond_near : {X : Type 0} (b : Bool) (r s : Result X LineFault) → Within 9999 r → Within 9999 s → Within 9999 (cond b r s)
  cond_near true r s x y = x
  cond_near false r s x y = y

  -- the faults of the line are not far right
  pub slot_within : Within 9999 (slot_into K F p lent t line)
  slot_within =
      cond_near (begins 77 line) _ _
      (then_within 9999 (missed_read t line) _ (missed_within t line) (λ _ e is. no_ok (sym is)))
      (then_within 9999 (packet_into F p t lent.packet line) _ (packet_within F p t lent.packet line) (λ packet e is. no_ok (sym is)))

-- such a packet is fit
pub fits : {S : Type 0} (p : Sheet) (packet : List S) → length packet ≡ n p → unfit p (Some packet) ≡ false
fits p packet long = ap not (eq-eqb (length packet) (n p) long)
