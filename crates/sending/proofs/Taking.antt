-- A sending run takes a line. Assumes nothing.
use Rattle.std.proofs.Common.{◌≡◌, ℕ, ◌+◌, ◌*◌, ◌<◌, ◌≤◌, eqb, List, [], ◌∷◌, ◌++◌, length, Some, None, Ok, Err, vec_items, Option, Result, sym, refl, ap, ◌∙◌, subst, ap₂, inl, inr, arith}
use Rattle.std.proofs.lemmas.List.{append_assoc}
use Rattle.std.proofs.lemmas.Bool.{cases_Bool, cond-true, cond-false, le-ltb}
use Rattle.kinds.specs.Kind.{Kind}
use Rattle.kinds.specs.Form.{Form}
use Rattle.code.specs.declared.refusal.PutRefusal.{PutRefusal}
use Rattle.code.specs.declared.refusal.PutRefusal.TheVariants as put
use Rattle.code.specs.declared.sheet.Sheet.{Sheet}
use Rattle.lines.specs.declared.header.Header.{Header}
use Rattle.transmit.specs.declared.sender.Sender.{Sender}
use Rattle.transmit.specs.Keeping.{kept, with_row}
use Rattle.transmit.specs.Refusing.{put_refused}
use Rattle.transmit.specs.Calls.{PutCall, PutAt, PutWith, Put, putting}
use Rattle.transmit.proofs.Allowing.{put_allowed}
use Rattle.line.proofs.Staying.{room_stays}
use Rattle.code.specs.Sheets.{n}
use Rattle.code.specs.Packets.{packet}
use Rattle.code.proofs.Windows.{whole}
use Rattle.lines.specs.Lines.{ended, packet_line}
use Rattle.lines.proofs.Written.{right, no_refusal}
use Rattle.stream.specs.Running.{Taken, Took}
use Rattle.opening.proofs.Taking.{Heard, Running, fault_printed, took_in, took_fault, declined, goes_on}
use Rattle.text.specs.declared.fault.LineFault.{LineFault}
use Rattle.text.specs.declared.fault.LineFault.TheVariants as fault
use Rattle.text.specs.declared.fault.RunFault.{RunFault}
use Rattle.text.specs.Reading.{and_then, fitting, row_into, symbols_or}
use Rattle.runs.specs.declared.standing.Standing.TheVariants.{InRun}
use Rattle.runs.specs.declared.standing.SendLine.{SendLine}
use Rattle.runs.specs.declared.standing.SendLine.TheVariants as send
use Rattle.runs.specs.Whole.{unless}
use Rattle.runs.proofs.Positions.{row_within}
use Rattle.runs.specs.Runs.{numbered_as, answer_of, standing_of, Given, send_read, send_place}
use Rattle.sending.specs.declared.run.SendRun.{SendRun}
use Rattle.sending.specs.Printing.{Lent, put_or, packet_text, slot_text, row_taken, rows_text}
use Rattle.sending.specs.Running.{stopped_at, stopped, lent_to, SoundAt, Sound, rest_at, rest_of, RowPut, PutPrinted}
use Rattle.sending.proofs.Alike.{Alike, alike_passed, rows_alike}

abbrev lengths : (window row packet : ℕ) → Lent
lengths window row packet = record { window = window; row = row; packet = packet }

pub lent_path : (a b : Lent) → a.window ≡ b.window → a.row ≡ b.row → a.packet ≡ b.packet → a ≡ b
lent_path a b e f g =
    ap (λ x. lengths x a.row a.packet) e ∙ ap (λ x. lengths b.window x a.packet) f ∙ ap (λ x. lengths b.window b.row x) g

module _ {S : Type 0} (F : Form S) where
  -- what a row's line gives to a reader in the run
  abbrev pub given_row : Header → ℕ → Result (List S) LineFault → Result (Given SendLine) RunFault
  given_row header t read = numbered_as (t + 2) (and_then read (λ row. Ok (send.Row t, InRun header (t + 1))))

  pub reads_row : (header : Header) (t place : ℕ) (line : List ℕ) →
      send_read F (InRun header t) place line ≡ given_row header t (row_into F header.sheet t place line)
  reads_row header t place [] = refl
  reads_row header t place (c ∷ cs) = elim (cases_Bool (eqb c 82)) [
    | inl e ↦ ap (numbered_as (t + 2)) (cond-true _ _ _ e)
    | inr e ↦
        ap (numbered_as (t + 2)) (cond-false _ _ _ e)
        ∙ sym (ap (λ (r : Result (List S) LineFault). numbered_as (t + 2) (and_then (fitting (fault.Put put.Place) place r) (λ row. Ok (send.Row t, InRun header (t + 1))))) (cond-false _ _ _ e))
  ]

  -- a row that was read
  pub read_ok : (header : Header) (t number : ℕ) (read : Result (List S) LineFault) → Ok (send.Row number) ≡ answer_of (given_row header t read) →
      (row : List S) × (read ≡ Ok row) × (number ≡ t)
  read_ok header t number (Ok row) is = (row, refl, cc)
  read_ok header t number (Err e) is = let z : ◌≡◌ {A = ℕ} 0 1 = cc in absurd (omega arith)

module _ {S : Type 0} (F : Form S) (p : Sheet) where
  -- a packet of the sheet's length is printed
  pub packet_printed : (slot : ℕ) (packet : List S) → slot < 1000000 → length packet ≡ n p → packet_text F p slot packet ≡ ended (packet_line F slot packet)
  packet_printed slot packet few long =
      ap (λ r. unless r (ended (packet_line F slot packet)))
      (no_refusal _ _ _ (le-ltb 999999 slot (omega arith)) (right (n p) (length packet) long) (right (10 + n p * F.layout.width) (10 + n p * F.layout.width) refl))

module _ {S : Type 0} (K : Kind S) (F : Form S) where
  -- a row's line, as it is read, put and printed
  abbrev row_of_line : SendRun S → ℕ → List ℕ → Result (List S) LineFault
  row_of_line r t line = row_into F r.sheet t (lent_to r).row line

  abbrev row_put : SendRun S → ℕ → List S → Result (List S) LineFault
  row_put r t row = put_or (put_refused r.sheet (lent_to r).window t (length row) (lent_to r).packet) row

  abbrev row_follows : SendRun S → ℕ → List (List ℕ) → List S → List ℕ
  row_follows r t lines row =
      let rows = with_row K (kept K r.sheet t r.sender.line) t row in
      slot_text K F r.sheet rows t ++ rows_text K F r.sheet (lent_to r) rows (t + 1) lines

  pub running : Running (λ (r : SendRun S). r.reader.standing) (rest_at K F) SoundAt stopped_at row_of_line row_put row_follows
  running = record { waits = refl; stops = λ f. refl; sound = λ f r. tt; goes = λ header t. refl; unbegun = λ r lines. refl; silent = λ f r lines. refl; prints = λ header t r line lines. refl }

module _ {S : Type 0} (K : Kind S) (F : Form S) (before mid after : SendRun S) (line out out' : List ℕ) (answer : Result SendLine RunFault)
    (sheet-is : mid.sheet ≡ before.sheet) (sender-is : mid.sender ≡ before.sender) (packet_is : vec_items mid.packet ≡ vec_items before.packet)
    (was : Heard (send_read F) (send_place F) before.reader.standing mid.reader.standing line answer (vec_items before.row) (vec_items mid.row))
  where
    abbrev p : Sheet
    p = before.sheet

    abbrev lent : Lent
    lent = lent_to before

    -- the line as it was read, where the run stands after its header
    module _ (header : Header) (t : ℕ) (is : before.reader.standing ≡ InRun header t) (sound : SoundAt (InRun header t) before) (counted : t ≤ 1000000) where
      abbrev read : Result (List S) LineFault
      read = row_into F p t lent.row line

      read_is : send_read F before.reader.standing lent.row line ≡ given_row F header t read
      read_is =
          ap (λ s. send_read F s lent.row line) is ∙ reads_row F header t lent.row line
          ∙ ap (λ x. given_row F header t (row_into F x t lent.row line)) sound.0

      module _ (number : ℕ) (put : RowPut K F mid after number out out') (row : List S) (read-ok-is : read ≡ Ok row) (number_is : number ≡ t) where
        row_is : vec_items mid.row ≡ row
        row_is =
            was.holds ∙ ap (λ s. send_place F s line (vec_items before.row)) is
            ∙ ap (λ x. symbols_or (vec_items before.row) (row_into F x t lent.row line)) sound.0
            ∙ ap (symbols_or (vec_items before.row)) read-ok-is

        now_in : mid.reader.standing ≡ InRun header (t + 1)
        now_in = was.reads ∙ ap standing_of (read_is ∙ ap (given_row F header t) read-ok-is)

        abbrev c : Put S
        c = putting (vec_items mid.row) (vec_items mid.packet) (vec_items after.packet) put.answer

        call_at : PutAt K p lent.window t before.sender after.sender c
        call_at =
            subst (λ (i : ℕ). PutAt K p lent.window i before.sender after.sender c) sound.2
            (subst (λ (x : Sheet). PutAt K x lent.window before.sender.count.rows before.sender after.sender c) sound.1
            (subst (λ (x : Sender S). PutCall K x after.sender c) sender-is put.call))

        abbrev refusal : Option PutRefusal
        refusal = put_refused p lent.window t (length (vec_items mid.row)) (length (vec_items mid.packet))

        refusal_is : put_refused p lent.window t (length row) lent.packet ≡ refusal
        refusal_is = ap₂ (λ a b. put_refused p lent.window t a b) (ap length (sym row_is)) (ap length (sym packet_is))

        taken_is : row_taken K F p lent t line ≡ put_or refusal row
        taken_is = ap (λ r. and_then r (λ x. put_or (put_refused p lent.window t (length x) lent.packet) x)) read-ok-is ∙ ap (λ r. put_or r row) refusal_is

        by_refusal : (r : Option PutRefusal) → refusal ≡ r → Taken (rest_of K F) Sound stopped before after line out out'
        by_refusal (Some e) some =
            let x = subst (λ (r : Option PutRefusal). PutWith K r p t before.sender after.sender c) some call_at in
            let told = subst (λ (a : Result (Unit {0}) PutRefusal). PutPrinted K F mid after number out out' a) x.answer put.printed in
            declined (running K F) before after line out out' header t is counted mid (fault.Put e) now_in (taken_is ∙ ap (λ r. put_or r row) some) (omega arith) told
        by_refusal None none =
            let x = subst (λ (r : Option PutRefusal). PutWith K r p t before.sender after.sender c) none call_at in
            let told = subst (λ (a : Result (Unit {0}) PutRefusal). PutPrinted K F mid after number out out' a) x.answer put.printed in
            let ok = put_allowed p lent.window t (length (vec_items mid.row)) (length (vec_items mid.packet)) none in
            let written : vec_items after.packet ≡ packet K p (with_row K (kept K p t before.sender.line) t row) t =
            x.passes.written ∙ ap (λ r. packet K p (with_row K (kept K p t before.sender.line) t r) t) row_is in
            let whole-packet : length (vec_items after.packet) ≡ n p = ap length written ∙ whole K p (with_row K (kept K p t before.sender.line) t row) t in
            let sheet = put.sheet ∙ sheet-is in
            let lent_is : lent_to after ≡ lent =
            lent_path (lent_to after) lent (room_stays before.sender.line after.sender.line x.passes.stays) (ap length put.row ∙ was.long)
            (whole-packet ∙ sym (sym (ap length packet_is) ∙ ok.3)) in
            let text : out' ≡ out ++ slot_text K F p (with_row K (kept K p t before.sender.line) t row) t =
            told.1 ∙ ap (λ text. out ++ text)
            (ap₂ (λ a b. packet_text F a b (vec_items after.packet)) sheet-is number_is
            ∙ packet_printed F p t (vec_items after.packet) ok.1 whole-packet
            ∙ ap (λ q. ended (packet_line F t q)) written) in
            goes_on (running K F) before after line out out' header t is counted row (taken_is ∙ ap (λ r. put_or r row) none) (told.0 ∙ now_in)
            (sound.0 ∙ sym sheet, x.sheet ∙ sym sheet, x.rows) (λ lines.
            ap₂ (λ a b. out' ++ rows_text K F a b (kept K a (t + 1) after.sender.line) (t + 1) lines) sheet lent_is
            ∙ ap (λ text. out' ++ text) (rows_alike K F p lent lines (t + 1) (kept K p (t + 1) after.sender.line) (with_row K (kept K p t before.sender.line) t row)
            (subst (λ (r : List S). Alike K p (t + 1) (kept K p (t + 1) after.sender.line) (with_row K (kept K p t before.sender.line) t r)) row_is
            (alike_passed K p t before.sender.line after.sender.line (vec_items mid.row) (vec_items after.packet) x.passes)))
            ∙ ap (λ text. text ++ rows_text K F p lent (with_row K (kept K p t before.sender.line) t row) (t + 1) lines) text
            ∙ append_assoc out _ _)

    pub row_took : (number : ℕ) → Ok (send.Row number) ≡ answer → RowPut K F mid after number out out' → Took (rest_of K F) Sound stopped before after line out out'
    row_took number answered put = took_in (running K F) before after line out out' before.reader.counted (λ header t is sound counted.
        let x = read_ok F header t number (read header t is sound counted) (answered ∙ was.answers ∙ ap answer_of (read_is header t is sound counted)) in
        by_refusal header t is sound counted number put x.0 x.1 x.2 _ refl)

    pub fault_took : (f : RunFault) → Err f ≡ answer → after ≡ mid → out' ≡ out ++ fault_printed f → Took (rest_of K F) Sound stopped before after line out out'
    fault_took f answered same printed = took_in (running K F) before after line out out' before.reader.counted (λ header t is sound counted.
        took_fault (running K F) before after line out out' header t is counted (λ row. (send.Row t, InRun header (t + 1))) (send_read F before.reader.standing lent.row line) f
        (read_is header t is sound counted) (answered ∙ was.answers) (ap (λ (r : SendRun S). r.reader.standing) same ∙ was.reads) (row_within F p t lent.row line) printed)
