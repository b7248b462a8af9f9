-- No line that is written holds byte 10, so that the lines of a text are those that it was made of.
use Rattle.std.proofs.Common.{◌≡◌, ℕ, zero, suc, ◌+◌, ◌-◌, false, eqb, List, [], ◌∷◌, ◌++◌, map, length, replicate, refl, ap, ◌∙◌, arith}
use Rattle.std.specs.Option.{option_map}
use Rattle.std.specs.List.{AllByRecursion}
use Rattle.std.proofs.lemmas.List.{append_assoc}
use Rattle.std.proofs.lemmas.Bool.{cond-false, ne_eqb}
use Rattle.kinds.specs.Form.{Form}
use Rattle.code.specs.declared.sheet.Sheet.{Sheet}
use Rattle.lines.specs.declared.header.SymbolKind.{SymbolKind}
use Rattle.lines.specs.declared.header.SymbolKind.TheVariants.{Bytes, Digits}
use Rattle.lines.specs.Fields.{digits, digit_byte, field}
use Rattle.lines.specs.Lines.{kind_letter, header_line, symbol_field, symbol_fields, symbols_line, missed_line}
use Rattle.stream.specs.Lines.{lines_of, Unended}
use Rattle.stream.proofs.Cutting.{both_unended, ends_line}
use Rattle.relay.specs.Relaying.{text_of, row_lines}

-- a byte that is not 10, before others
one_more : (c : ℕ) (cs : List ℕ) → eqb c 10 ≡ false → Unended cs → Unended (c ∷ cs)
one_more c cs ne u = cond-false (eqb c 10) _ _ ne ∙ ap (option_map (λ n. n + 1)) u

blanks : (k : ℕ) → Unended (replicate k 32)
blanks zero = refl
blanks (suc k) = one_more 32 (replicate k 32) refl (blanks k)

digit-bytes : (ds : List ℕ) → Unended (map digit_byte ds)
digit-bytes [] = refl
digit-bytes (d ∷ ds) = one_more (48 + d) (map digit_byte ds) (ne_eqb (48 + d) 10 (λ e. omega arith)) (digit-bytes ds)

pub of_field : (width n : ℕ) → Unended (field width n)
unfolding field
of_field width n =
    both_unended (replicate (width - length (digits n)) 32) (map digit_byte (digits n))
    (blanks (width - length (digits n))) (digit-bytes (digits n))

kind_letters : (kind : SymbolKind) → eqb (kind_letter kind) 10 ≡ false
kind_letters Bytes = refl
kind_letters Digits = refl

pub of_header : (kind : SymbolKind) (p : Sheet) → Unended (header_line kind p)
of_header kind p =
    let numbers = field 4 p.burst ++ (field 4 p.row ++ field 4 p.parity) in
    one_more 72 (kind_letter kind ∷ numbers) refl (one_more (kind_letter kind) numbers (kind_letters kind)
    (both_unended (field 4 p.burst) (field 4 p.row ++ field 4 p.parity) (of_field 4 p.burst)
    (both_unended (field 4 p.row) (field 4 p.parity) (of_field 4 p.row) (of_field 4 p.parity))))

pub of_missed : (t : ℕ) → Unended (missed_line t)
of_missed t = one_more 77 (field 8 t) refl (of_field 8 t)

module _ {S : Type 0} (F : Form S) where
  of_symbols : (xs : List S) → Unended (symbol_fields F xs)
  of_symbols [] = refl
  of_symbols (x ∷ xs) =
      both_unended (symbol_field F x) (symbol_fields F xs) (of_field F.layout.width (F.number x)) (of_symbols xs)

  pub of_symbols_line : (letter number : ℕ) (xs : List S) → eqb letter 10 ≡ false → Unended (symbols_line F letter number xs)
  of_symbols_line letter number xs ne =
      one_more letter (field 8 number ++ symbol_fields F xs) ne
      (both_unended (field 8 number) (symbol_fields F xs) (of_field 8 number) (of_symbols xs))

  pub of_rows : (t : ℕ) (rows : List (List S)) → AllByRecursion Unended (row_lines F t rows)
  of_rows t [] = tt
  of_rows t (row ∷ rows) = (of_symbols_line 82 t row refl, of_rows (t + 1) rows)

-- the lines of a text that was made of lines
pub lines_back : (lines : List (List ℕ)) → AllByRecursion Unended lines → lines_of (text_of lines) ≡ lines
lines_back [] u = refl
lines_back (line ∷ lines) u =
    ap lines_of (append_assoc line (10 ∷ []) (text_of lines))
    ∙ (ends_line line [] (text_of lines) u.0 ∙ ap (λ x. line ∷ x) (lines_back lines u.1))
