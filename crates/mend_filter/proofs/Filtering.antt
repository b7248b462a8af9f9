-- A whole text goes through a mending run. Assumes nothing.
use Rattle.std.proofs.Common.{◌≡◌, ℕ, List, None, ap, ◌∙◌, arith}
use Rattle.std.proofs.lemmas.Bool.{cond-true, le-leb}
use Rattle.kinds.specs.Kind.{Kind}
use Rattle.kinds.specs.Form.{Form}
use Rattle.code.specs.declared.sheet.Sheet.{Sheet}
use Rattle.code.specs.Sheets.{n}
use Rattle.line.specs.Line.{fitting}
use Rattle.receive.specs.Memory.{need}
use Rattle.receive.specs.Calls.{tally_of}
use Rattle.runs.specs.Whole.{reading, slot_read}
use Rattle.mending.specs.declared.run.MendRun.{MendRun}
use Rattle.mending.specs.Printing.{fit, slots_text}
use Rattle.mending.specs.Running.{rest_of, NewRun}
use Rattle.mending.specs.Text.{list_text}
use Rattle.mending.proofs.Taking.{lent_path}
use Rattle.mending.proofs.Whole.{prints_whole}

module _ {S : Type 0} (K : Kind S) (F : Form S) where
  -- a new run, with what its sheet needs lent to it
  pub new_prints : (p : Sheet) (window packet row marks : ℕ) (r : MendRun S) → window ≡ need p → packet ≡ n p → row ≡ p.row → marks ≡ p.row →
      NewRun K F p window packet row marks r → (lines : List (List ℕ)) → rest_of K F r lines ≡ list_text K F p (reading (slot_read F p) 0 lines)
  new_prints p window packet row marks r e f g h made lines =
      made.prints lines
      ∙ ap (λ l. slots_text K F p l (λ _. None) 0 (tally_of 0 0 0 0) lines)
      (lent_path (record { window = fitting (need p) window; packet = packet; row = row; marks = marks }) (fit p)
      (ap (fitting (need p)) e ∙ cond-true _ _ _ (le-leb (need p) (need p) (omega arith))) f g h)
      ∙ prints_whole K F p lines
