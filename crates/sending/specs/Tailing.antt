-- The tail as it is printed. Assumes nothing.
use Rattle.std.specs.Prelude.{◌≡◌, ℕ, List, ◌++◌, Option}
use Rattle.kinds.specs.Kind.{Kind}
use Rattle.kinds.specs.Form.{Form}
use Rattle.code.specs.declared.sheet.Sheet.{Sheet}
use Rattle.code.specs.Sheets.{T}
use Rattle.transmit.specs.declared.sender.WindingSender.{WindingSender}
use Rattle.transmit.specs.Keeping.{kept}
use Rattle.transmit.specs.Calls.{room}
use Rattle.text.specs.declared.fault.RunFault.{RunFault}
use Rattle.sending.specs.Printing.{tail_text, tail_fault}

module _ {S : Type 0} (K : Kind S) (F : Form S) (p : Sheet) (m : ℕ) where
  -- a sender on this sheet that was wound down after m rows
  pub record Wound (v : WindingSender S) : Type 0 where
    pub sheet : v.sheet ≡ p
    pub rows : v.count.rows ≡ m
    pub tails : v.count.tails ≡ 0

  -- its tail is printed, and the refusal is told that ends it early
  abbrev pub TailPrinted : WindingSender S → ℕ → (out out' : List ℕ) → Option RunFault → Type 0
  TailPrinted v packet out out' fault = Wound v →
      (out' ≡ out ++ tail_text K F p (room v.line) packet (kept K p m v.line) m 0 (T p))
      × (fault ≡ tail_fault K F p (room v.line) packet m 0 (T p))
