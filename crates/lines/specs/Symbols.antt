-- A symbol in a field. Assumes nothing.
use Rattle.std.specs.Prelude.{ℕ, cond, List, Some, None, Ok, Err, Option, Result, nat_le}
use Rattle.kinds.specs.Form.{Form}
use Rattle.lines.specs.declared.field.FieldFault.{FieldFault}
use Rattle.lines.specs.declared.field.FieldFault.TheVariants.{NotANumber, AboveTop}
use Rattle.lines.specs.Fields.{number_in}

-- the answer of reading a symbol's field that begins at the byte `at` of its line
abbrev pub symbol_under : {S : Type 0} → Form S → ℕ → Option ℕ → Result S FieldFault
symbol_under F at None = Err (NotANumber at)
symbol_under F at (Some number) = cond (nat_le number F.layout.top) (Ok (F.symbol number)) (Err (AboveTop at))

abbrev pub symbol_read : {S : Type 0} → Form S → ℕ → List ℕ → Result S FieldFault
symbol_read F at part = symbol_under F at (number_in part)
