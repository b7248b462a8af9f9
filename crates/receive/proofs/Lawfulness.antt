-- The law over runs. Assumes nothing.
use Rattle.std.proofs.Common.{◌≡◌, ℕ, ◌+◌, ◌<◌, ◌≢◌, List, [], ◌∷◌, ◌++◌, length, get_or, drop, Some, Ok, Option, sym, ap, ◌∙◌, subst, inl, inr, arith}
use Rattle.std.proofs.lemmas.Bool.{cases_lt, cases_Bool}
use Rattle.kinds.specs.Kind.{Kind}
use Rattle.code.specs.declared.mark.Mark.TheVariants.{Arrived, Lost}
use Rattle.code.specs.declared.sheet.Sheet.{Sheet}
use Rattle.code.specs.Sheets.{T}
use Rattle.code.specs.Packets.{Rows}
use Rattle.code.specs.Mending.{heard, mark}
use Rattle.code.specs.Bursts.{Bursts}
use Rattle.code.specs.Theory.{Holds}
use Rattle.code.proofs.Soundness.{given_sound}
use Rattle.code.proofs.Soundness as soundness
use Rattle.code.proofs.Lossy as lossy
use Rattle.code.proofs.Grouping.{bursts_mended}
use Rattle.line.specs.Line.{fitting}
use Rattle.receive.specs.declared.due.Due.{Due}
use Rattle.receive.specs.declared.receiver.Receiver.{Receiver}
use Rattle.receive.specs.declared.tally.Tally.{Tally}
use Rattle.receive.specs.Memory.{need}
use Rattle.receive.specs.Handing.{Reply, Gives, Hands, whole_row, mended_row, lost_row}
use Rattle.receive.specs.Calls.{tally_of, SlotCall, ReceiverMade}
use Rattle.receive.specs.Runs.{Event, slot, tally, Run}
use Rattle.receive.specs.Law.{taken, history, MissedIn, rows_given, Sent, Undetermined, Determined, Law, Lawful}
use Rattle.receive.proofs.Agreement.{Agrees, agrees_run, split, first_slot, first_tally}
use Rattle.receive.proofs.Telling.{gives_named, mark_is, symbol_is, refused_truly, hands_truly, one_more}
use Rattle.receive.proofs.Reasons.{not_fitting}

module _ {S : Type 0} (K : Kind S) (p : Sheet) (lent : List S) (r q : Receiver S) where
  abbrev places : ℕ
  places = fitting (need p) (length lent)

  -- a receiver after these events of a run that began with r
  abbrev After : List (Event S) → Receiver S → Type 0
  After past x = Agrees K p places places (drop places lent) past x

  -- the receiver at a call of the run
  pub record At (past : List (Event S)) (came : Option (List S)) (a : Reply S) : Type 0 where
    pub before : Receiver S
    pub after : Receiver S
    pub agrees : After past before
    pub call : SlotCall K before after came a

  module _ (made : After [] r) (es : List (Event S)) (run : Run K r es q) where
    at : (past later : List (Event S)) (came : Option (List S)) (a : Reply S) → es ≡ past ++ (slot came a ∷ later) → At past came a
    at past later came a is =
        let parts = split K past (slot came a ∷ later) (subst (λ (x : List (Event S)). Run K r x q) is run) in
        let first = first_slot K parts.2 in
        record {
          before = parts.0;
          after = first.0;
          agrees = agrees_run K p places places (drop places lent) [] made parts.1;
          call = first.1;
        }

    tells : (past later : List (Event S)) (told : Tally) → es ≡ past ++ (tally told ∷ later) → told ≡ tally_of (taken past) (rows_given whole_row past) (rows_given mended_row past) (rows_given lost_row past)
    tells past later told is =
        let parts = split K past (tally told ∷ later) (subst (λ (x : List (Event S)). Run K r x q) is run) in
        let b = agrees_run K p places places (drop places lent) [] made parts.1 in
        first_tally K parts.2 ∙ (λ i. tally_of (b.slots i) (b.whole i) (b.mended i) (b.lost i))

    module _ (past later : List (Event S)) (came : Option (List S)) (a : Reply S) (is : es ≡ past ++ (slot came a ∷ later)) where
      hands : (due : Option Due) → a.answer ≡ Ok due → Hands K p (history es) (taken past) a
      hands due ok =
          let x = at past later came a is in
          subst (λ (fs : List (Event S)). Hands K p (history fs) (taken past) a) (sym is)
          (hands_truly K p places places (drop places lent) past later x.before x.after came a x.agrees x.call due ok)

      within : (due : Option Due) → a.answer ≡ Ok due → taken past < taken es
      within due ok =
          let x = at past later came a is in
          subst (λ (fs : List (Event S)). taken past < taken fs) (sym is)
          (one_more K p places places (drop places lent) past later x.before x.after came a x.agrees x.call due ok)

      module _ (due : Due) (b : ℕ) (ok : a.answer ≡ Ok (Some due)) (below : b < p.row) where
        when : due.row + T p ≡ taken past
        when = (gives_named K p (history es) (taken past) a due (hands (Some due) ok) ok).0

        gives : Gives K p (history es) due.row a
        gives = (gives_named K p (history es) (taken past) a due (hands (Some due) ok) ok).1

        marked : get_or a.marks' b Arrived ≡ mark p (heard (history es)) due.row b
        marked = mark_is K p (history es) due.row b a gives below

        own_symbol : (rows : Rows S) → Sent K p rows es → get_or a.marks' b Arrived ≢ Lost → (get_or a.row' b K.zero ≡ rows due.row b) × (taken past ≡ due.row + T p)
        own_symbol rows sent n = (
          symbol_is K p (history es) due.row b a gives below
              ∙ given_sound K p rows (history es) due.row b below (λ s x _ e. sent s x e) (λ e. n (marked ∙ e)),
          sym when,
        )

        left_open : (rows : Rows S) → get_or a.marks' b Arrived ≡ Lost → Undetermined K p rows es (taken past) due.row b
        left_open rows e =
            let other = lossy.undetermined K p rows (heard (history es)) due.row b below (sym marked ∙ e) in (
              other.0,
              other.1,
              λ s not-missed. other.2 s (elim (cases_lt (taken past) s) [
                | inl l ↦ inl (omega (arith, when))
                | inr l ↦ elim (cases_Bool (heard (history es) s)) [
                  | inl x ↦ inr x
                  | inr x ↦ absurd (not-missed (record { taken = omega arith; miss = x }))
                ]
              ]),
            )

        settled : get_or a.marks' b Arrived ≢ Lost → Determined K p es (taken past) due.row b
        settled n rows rows' fits fits' =
            soundness.determined K p rows rows' (history es) due.row b below
            (subst (λ (t : ℕ). Holds K p rows (history es) t) (sym when) fits)
            (subst (λ (t : ℕ). Holds K p rows' (history es) t) (sym when) fits')
            (λ e. n (marked ∙ e))

        not_lost : (group : ℕ → ℕ) → Bursts p (MissedIn es (taken es)) group → get_or a.marks' b Arrived ≢ Lost
        not_lost group bursts e =
            bursts_mended p (heard (history es)) (taken es) due.row b group below (omega (arith, when, within (Some due) ok)) bursts (sym marked ∙ e)

    law : Law K p lent es q
    law = record {
      refusals = λ past later came a is e err.
          let x = at past later came a is in
          let y = refused_truly K p places places (drop places lent) past later x.before x.after came a x.agrees x.call e err in
          (not_fitting p (length lent) (taken past) came (length a.row) (length a.marks) e y.0, y.1, y.2);
      due = λ past later came a is due ok. hands past later came a is due ok;
      tallies = λ past later told is. tells past later told is;
      own = λ rows sent past later came a is due b ok below n. own_symbol past later came a is due b ok below rows sent n;
      undetermined = λ rows sent past later came a is due b ok below e. left_open past later came a is due b ok below rows e;
      determined = λ past later came a is due b ok below n. settled past later came a is due b ok below n;
      bursts = λ group bursts past later came a is due b ok below. not_lost past later came a is due b ok below group bursts;
      past =
          let end = agrees_run K p places places (drop places lent) [] made run in
          ap (λ m. drop m q.line.window.now) (sym end.places) ∙ end.beyond_is;
    }

-- a receiver as it is made is lawful
pub lawful : {S : Type 0} (K : Kind S) (p : Sheet) (lent : List S) (r : Receiver S) → ReceiverMade p lent r → Lawful K p lent r
lawful K p lent r made es q run =
    law K p lent r q (record {
      sheet = made.sheet;
      room_is = made.room_is;
      places = made.places;
      beyond_is = made.past;
      slots = made.slots;
      whole = made.whole;
      mended = made.mended;
      lost = made.lost;
      remembers = λ s l _. absurd (omega arith);
    }) es run
