use Rattle.std.proofs.Common.{Ok, Err, arith}
use Rattle.std.proofs.lemmas.Grind.{common_steps}
use Rattle.text.proofs.SheetPaths.{sheet_made}
use Rattle.text.proofs.read.read_header.Goals as goal

pub returns-in_err-sheet-in-72-clause-value : goal.returns-in_err-sheet-in-72-clause-value
returns-in_err-sheet-in-72-clause-value c =
    let burst = c.in_ok-burst-in-72.burst in
    let row = c.in_ok-row-in-72.row in
    let parity = c.in_ok-parity-in-72.parity in
    let s = sheet_made burst row parity (Err c.in_err-sheet-in-72.field-0.0) c.in_err-sheet-in-72.ensures in
    grind (arith, common_steps)

pub returns-in_ok-sheet-in-72-clause-value : goal.returns-in_ok-sheet-in-72-clause-value
returns-in_ok-sheet-in-72-clause-value c =
    let burst = c.in_ok-burst-in-72.burst in
    let row = c.in_ok-row-in-72.row in
    let parity = c.in_ok-parity-in-72.parity in
    let s = sheet_made burst row parity (Ok c.in_ok-sheet-in-72.sheet) c.in_ok-sheet-in-72.ensures in
    grind (arith, common_steps)
