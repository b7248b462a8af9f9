-- A whole text goes through a sending run. Assumes nothing.
use Rattle.std.proofs.Common.{◌≡◌, ℕ, List, [], ap, ◌∙◌, arith}
use Rattle.std.proofs.lemmas.Bool.{cond-true, le-leb}
use Rattle.kinds.specs.Kind.{Kind}
use Rattle.kinds.specs.Form.{Form}
use Rattle.code.specs.declared.sheet.Sheet.{Sheet}
use Rattle.code.specs.Sheets.{n}
use Rattle.line.specs.Line.{fitting}
use Rattle.transmit.specs.Keeping.{need}
use Rattle.text.specs.Reading.{row_read}
use Rattle.runs.specs.Whole.{reading}
use Rattle.transmit.specs.Law.{list_of}
use Rattle.sending.specs.declared.run.SendRun.{SendRun}
use Rattle.sending.specs.Printing.{fit, rows_text}
use Rattle.sending.specs.Running.{rest_of, NewRun}
use Rattle.sending.specs.Text.{list_text}
use Rattle.sending.proofs.Taking.{lent_path}
use Rattle.sending.proofs.Whole.{whole_run}

module _ {S : Type 0} (K : Kind S) (F : Form S) where
  -- a run over memory that fits prints the text of the rows
  pub new_prints : (p : Sheet) (window row packet : ℕ) (r : SendRun S) → window ≡ need p → row ≡ p.row → packet ≡ n p →
      NewRun K F p window row packet r → (lines : List (List ℕ)) → rest_of K F r lines ≡ list_text K F p (reading (row_read F p) 0 lines)
  new_prints p window row packet r w k m new lines =
      new.prints lines
      ∙ ap (λ lent. rows_text K F p lent (list_of K []) 0 lines)
      (lent_path (record { window = fitting (need p) window; row = row; packet = packet }) (fit p)
      (cond-true _ _ _ (le-leb (need p) window (omega arith))) k m)
      ∙ whole_run K F p lines
