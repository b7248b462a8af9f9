-- The slots and rows of a run, counted from its events. Assumes nothing.
use Rattle.std.proofs.Common.{◌≡◌, ◌+◌, Bool, List, [], ◌∷◌, ◌++◌, Ok, Err, Option, refl, ap, ◌∙◌, arith}
use Rattle.code.specs.declared.refusal.SlotRefusal.{SlotRefusal}
use Rattle.receive.specs.declared.due.Due.{Due}
use Rattle.receive.specs.declared.due.Verdict.{Verdict}
use Rattle.receive.specs.Handing.{Answer, Reply}
use Rattle.receive.specs.Runs.{Event, slot, tally}
use Rattle.receive.specs.Law.{take_if, slots, rows_given}

module _ {S : Type 0} where
  take-append : (a : Answer) (x : Option (List S)) (xs ys : List (Option (List S))) → take_if a x (xs ++ ys) ≡ take_if a x xs ++ ys
  take-append (Ok d) x xs ys = refl
  take-append (Err e) x xs ys = refl

  pub slots-append : (es fs : List (Event S)) → slots (es ++ fs) ≡ slots es ++ slots fs
  slots-append [] fs = refl
  slots-append (slot came a ∷ es) fs = ap (take_if a.answer came) (slots-append es fs) ∙ take-append a.answer came (slots es) (slots fs)
  slots-append (tally told ∷ es) fs = slots-append es fs

  pub rows_append : (test : Verdict → Bool) (es fs : List (Event S)) → rows_given test (es ++ fs) ≡ rows_given test es + rows_given test fs
  rows_append test [] fs = omega arith
  rows_append test (slot came a ∷ es) fs = omega (arith, rows_append test es fs)
  rows_append test (tally told ∷ es) fs = rows_append test es fs

  -- a call that was refused takes no slot ..
  pub slots_refused : (past later : List (Event S)) (came : Option (List S)) (a : Reply S) (e : SlotRefusal) → a.answer ≡ Err e → slots (past ++ (slot came a ∷ later)) ≡ slots past ++ slots later
  slots_refused past later came a e is = slots-append past (slot came a ∷ later) ∙ ap (λ x. slots past ++ take_if x came (slots later)) is

  -- .. and any other takes one
  pub slots-taken : (past later : List (Event S)) (came : Option (List S)) (a : Reply S) (due : Option Due) → a.answer ≡ Ok due → slots (past ++ (slot came a ∷ later)) ≡ slots past ++ (came ∷ slots later)
  slots-taken past later came a due is = slots-append past (slot came a ∷ later) ∙ ap (λ x. slots past ++ take_if x came (slots later)) is
