-- A mending run takes a line. Assumes nothing.
use Rattle.std.proofs.Common.{◌≡◌, ℕ, ◌+◌, ◌≤◌, false, List, ◌++◌, length, Some, None, Ok, Err, vec_items, Option, Result, sym, refl, ap, ◌∙◌, subst, ap₂, arith}
use Rattle.std.proofs.lemmas.List.{append_assoc}
use Rattle.kinds.specs.Kind.{Kind}
use Rattle.kinds.specs.Form.{Form}
use Rattle.code.specs.declared.refusal.SlotRefusal.{SlotRefusal}
use Rattle.code.specs.declared.sheet.Sheet.{Sheet}
use Rattle.code.specs.Mending.{History}
use Rattle.line.proofs.Staying.{room_stays}
use Rattle.receive.specs.declared.receiver.Receiver.{Receiver}
use Rattle.receive.specs.declared.tally.Tally.{Tally}
use Rattle.receive.specs.Memory.{memory}
use Rattle.receive.specs.Refusing.{unfit, slot_refused}
use Rattle.receive.specs.Handing.{Answer, Reply, replied}
use Rattle.receive.specs.Calls.{room, SlotWith, SlotAt}
use Rattle.receive.specs.Calls as calls
use Rattle.receive.proofs.Slots.{accepted}
use Rattle.lines.specs.declared.header.Header.{Header}
use Rattle.text.specs.declared.fault.LineFault.{LineFault}
use Rattle.text.specs.declared.fault.LineFault.TheVariants as fault
use Rattle.text.specs.declared.fault.RunFault.{RunFault}
use Rattle.text.specs.Reading.{and_then, packet_into, symbols_or}
use Rattle.stream.specs.Running.{Taken, Took}
use Rattle.opening.proofs.Taking.{Heard, Running, fault_printed, took_in, took_fault, declined, goes_on}
use Rattle.runs.specs.declared.standing.Standing.TheVariants.{InRun}
use Rattle.runs.specs.declared.standing.MendLine.{MendLine}
use Rattle.runs.specs.declared.standing.MendLine.TheVariants as mend
use Rattle.runs.specs.Runs.{answer_of, standing_of, mend_read, mend_place}
use Rattle.mending.specs.declared.run.MendRun.{MendRun}
use Rattle.mending.specs.Printing.{Lent, slot_or, with_slot, slot_text, counted, slot_into, slot_taken, slots_text}
use Rattle.mending.specs.Running.{stopped_at, stopped, told_by, lent_to, SoundAt, Sound, rest_at, rest_of, PrintedBy, SlotTaken}
use Rattle.mending.proofs.Handed.{Handed, handed}
use Rattle.mending.proofs.Alike.{Alike, alike_taken, follows, follows_alike}
use Rattle.mending.proofs.Reading.{line_of, given_slot, reads_slot, read_packet, read_missed, packet_of, packet_long, slot_within, fits}

abbrev lengths : (window packet row marks : ℕ) → Lent
lengths window packet row marks = record { window = window; packet = packet; row = row; marks = marks }

pub lent_path : (a b : Lent) → a.window ≡ b.window → a.packet ≡ b.packet → a.row ≡ b.row → a.marks ≡ b.marks → a ≡ b
lent_path a b e f g h =
    ap (λ x. lengths x a.packet a.row a.marks) e ∙ ap (λ x. lengths b.window x a.row a.marks) f
    ∙ ap (λ x. lengths b.window b.packet x a.marks) g ∙ ap (λ x. lengths b.window b.packet b.row x) h

module _ {S : Type 0} (K : Kind S) (F : Form S) where
  -- a slot's line, as it is read, taken and printed
  abbrev slot_of_line : MendRun S → ℕ → List ℕ → Result (Option (List S)) LineFault
  slot_of_line r t line = slot_into K F r.sheet (lent_to r) t line

  abbrev slot_took : MendRun S → ℕ → Option (List S) → Result (Option (List S)) LineFault
  slot_took r t came = slot_or (slot_refused r.sheet (lent_to r).window t false (lent_to r).row (lent_to r).marks) came

  abbrev slot_follows : MendRun S → ℕ → List (List ℕ) → Option (List S) → List ℕ
  slot_follows r t lines came = follows K F r.sheet (lent_to r) (with_slot (memory K r.receiver) t came) t (told_by r.receiver) lines

  pub running : Running (λ (r : MendRun S). r.reader.standing) (rest_at K F) SoundAt stopped_at slot_of_line slot_took slot_follows
  running = record { waits = refl; stops = λ f. refl; sound = λ f r. tt; goes = λ header t. refl; unbegun = λ r lines. refl; silent = λ f r lines. refl; prints = λ header t r line lines. refl }

module _ {S : Type 0} (K : Kind S) (F : Form S) (before mid after : MendRun S) (line out out' : List ℕ) (answer : Result MendLine RunFault)
    (sheet-is : mid.sheet ≡ before.sheet) (receiver-is : mid.receiver ≡ before.receiver)
    (row_is : vec_items mid.row ≡ vec_items before.row) (marks-is : vec_items mid.marks ≡ vec_items before.marks)
    (was : Heard (mend_read F) (mend_place F) before.reader.standing mid.reader.standing line answer (vec_items before.packet) (vec_items mid.packet))
  where
    abbrev p : Sheet
    p = before.sheet

    abbrev lent : Lent
    lent = lent_to before

    -- the line as it was read, where the run stands after its header
    module _ (header : Header) (t : ℕ) (is : before.reader.standing ≡ InRun header t) (sound : SoundAt (InRun header t) before) (few : t ≤ 1000000) where
      abbrev read : Result (Option (List S)) LineFault
      read = slot_into K F p lent t line

      abbrev told : Tally
      told = told_by before.receiver

      abbrev refusal : Option SlotRefusal
      refusal = slot_refused p lent.window t false lent.row lent.marks

      read_is : mend_read F before.reader.standing lent.packet line ≡ given_slot header t read
      read_is =
          ap (λ s. mend_read F s lent.packet line) is ∙ reads_slot K F lent header t line
          ∙ ap (λ x. given_slot header t (slot_into K F x lent t line)) sound.0

      module _ (came : Option (List S)) (taken : SlotTaken K F mid after came out out') (read-ok-is : read ≡ Ok came) (fit : unfit p came ≡ false) where
        now_in : mid.reader.standing ≡ InRun header (t + 1)
        now_in = was.reads ∙ ap standing_of (read_is ∙ ap (given_slot header t) read-ok-is)

        abbrev a : Reply S
        a = replied (vec_items mid.row) (vec_items after.row) (vec_items mid.marks) (vec_items after.marks) taken.answer

        mid_slots : mid.receiver.counters.slots ≡ t
        mid_slots = ap (λ (r : Receiver S). r.counters.slots) receiver-is ∙ sound.2

        mid_sheet : mid.receiver.sheet ≡ p
        mid_sheet = ap (λ (r : Receiver S). r.sheet) receiver-is ∙ sound.1

        call_at : SlotAt K p (room mid.receiver) t mid.receiver after.receiver came a
        call_at =
            subst (λ (i : ℕ). SlotAt K p (room mid.receiver) i mid.receiver after.receiver came a) mid_slots
            (subst (λ (x : Sheet). SlotAt K x (room mid.receiver) mid.receiver.counters.slots mid.receiver after.receiver came a) mid_sheet
            taken.call)

        abbrev refusal_there : Option SlotRefusal
        refusal_there = slot_refused p (room mid.receiver) t (unfit p came) (length (vec_items mid.row)) (length (vec_items mid.marks))

        refusal_is : refusal ≡ refusal_there
        refusal_is =
            ap₂ (λ (r : Receiver S) b. slot_refused p (room r) t b lent.row lent.marks) (sym receiver-is) (sym fit)
            ∙ ap₂ (λ x y. slot_refused p (room mid.receiver) t (unfit p came) x y) (ap length (sym row_is)) (ap length (sym marks-is))

        taken_is : slot_taken K F p lent t line ≡ slot_or refusal_there came
        taken_is = ap (λ r. and_then r (slot_or refusal)) read-ok-is ∙ ap (λ r. slot_or r came) refusal_is

        module _ (none : refusal_there ≡ None) where
          abbrev h : History S
          h = memory K after.receiver

          abbrev g : History S
          g = with_slot (memory K before.receiver) t came

          x : calls.Taken K p t mid.receiver after.receiver came a
          x = subst (λ (r : Option SlotRefusal). SlotWith K r p t mid.receiver after.receiver came a) none call_at

          gave : Handed K F p t mid.receiver after.receiver a mid.reader.standing after.reader.standing out out'
          gave = handed K F p t mid after came taken.answer out out' sheet-is mid_slots taken.printed x (accepted p (room mid.receiver) t (unfit p came) (length (vec_items mid.row)) (length (vec_items mid.marks)) none)

          alike : Alike p (t + 1) h g
          alike = subst (λ (r : Receiver S). Alike p (t + 1) h (with_slot (memory K r) t came)) receiver-is (alike_taken K p t mid.receiver after.receiver came a x mid_slots)

          lent_is : lent_to after ≡ lent
          lent_is =
              lent_path (lent_to after) lent (room_stays mid.receiver.line after.receiver.line x.stays ∙ ap (λ (r : Receiver S). room r) receiver-is)
              (ap length taken.packet ∙ was.long) (gave.row ∙ ap length row_is) (gave.marks ∙ ap length marks-is)

          sheet_stays : after.sheet ≡ p
          sheet_stays = taken.sheet ∙ sheet-is

          told_is : told_by after.receiver ≡ counted K F p h t told
          told_is = gave.told ∙ ap (λ (r : Receiver S). counted K F p h t (told_by r)) receiver-is

          done : Taken (rest_of K F) Sound stopped before after line out out'
          done =
              goes_on (running K F) before after line out out' header t is few came (taken_is ∙ ap (λ r. slot_or r came) none) (gave.stands ∙ now_in)
              (sound.0 ∙ sym sheet_stays, x.sheet ∙ sym sheet_stays, x.slots) (λ lines.
              ap₂ (λ i l. out' ++ slots_text K F i l h (t + 1) (told_by after.receiver) lines) sheet_stays lent_is
              ∙ ap₂ (λ text c. text ++ slots_text K F p lent h (t + 1) c lines) gave.text told_is
              ∙ append_assoc out (slot_text K F p h t) (slots_text K F p lent h (t + 1) (counted K F p h t told) lines)
              ∙ ap (λ text. out ++ text) (follows_alike K F p lent lines t h g told alike))

        by_refusal : (r : Option SlotRefusal) → refusal_there ≡ r → Taken (rest_of K F) Sound stopped before after line out out'
        by_refusal (Some e) some =
            let x = subst (λ (r : Option SlotRefusal). SlotWith K r p t mid.receiver after.receiver came a) some call_at in
            let said = subst (λ (r : Answer). PrintedBy F mid after out out' r) x.answer taken.printed in
            declined (running K F) before after line out out' header t is few mid (fault.Slot e) now_in (taken_is ∙ ap (λ r. slot_or r came) some) (omega arith) said
        by_refusal None r-is = done r-is

    pub packet_took : (number : ℕ) → Ok (mend.Arrived number) ≡ answer → SlotTaken K F mid after (Some (vec_items mid.packet)) out out' →
        Took (rest_of K F) Sound stopped before after line out out'
    packet_took number answered taken = took_in (running K F) before after line out out' before.reader.counted (λ header t is sound few.
        let x = read_packet header t number (read header t is sound few) (answered ∙ was.answers ∙ ap answer_of (read_is header t is sound few)) in
        let into = packet_of K F p lent t line x.0 x.1 in
        let there : vec_items mid.packet ≡ x.0 =
        was.holds ∙ ap (λ s. mend_place F s line (vec_items before.packet)) is
        ∙ ap (λ i. symbols_or (vec_items before.packet) (packet_into F i t lent.packet line)) sound.0
        ∙ ap (symbols_or (vec_items before.packet)) into in
        by_refusal header t is sound few (Some (vec_items mid.packet)) taken (x.1 ∙ ap (λ q. Ok (Some q)) (sym there))
        (fits p (vec_items mid.packet) (ap length there ∙ packet_long K F p lent t line x.0 into)) _ refl)

    pub missed_took : (number : ℕ) → Ok (mend.Missed number) ≡ answer → SlotTaken K F mid after None out out' →
        Took (rest_of K F) Sound stopped before after line out out'
    missed_took number answered taken = took_in (running K F) before after line out out' before.reader.counted (λ header t is sound few.
        by_refusal header t is sound few None taken
        (read_missed header t number (read header t is sound few) (answered ∙ was.answers ∙ ap answer_of (read_is header t is sound few))) refl _ refl)

    pub fault_took : (f : RunFault) → Err f ≡ answer → after ≡ mid → out' ≡ out ++ fault_printed f → Took (rest_of K F) Sound stopped before after line out out'
    fault_took f answered same printed = took_in (running K F) before after line out out' before.reader.counted (λ header t is sound few.
        took_fault (running K F) before after line out out' header t is few (λ came. (line_of t came, InRun header (t + 1))) (mend_read F before.reader.standing lent.packet line) f
        (read_is header t is sound few) (answered ∙ was.answers) (ap (λ (r : MendRun S). r.reader.standing) same ∙ was.reads) (slot_within K F p lent t line) printed)
