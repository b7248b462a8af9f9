-- How long the lines are.
use Rattle.std.proofs.Common.{◌≡◌, ℕ, ◌+◌, ◌*◌, ◌≤◌, Bool, true, false, cond, List, [], ◌∷◌, ◌++◌, length, Some, sym, refl, ap, ◌∙◌, suc-mul, zero-mul, arith, length-append}
use Rattle.std.proofs.lemmas.List.{length-replicate}
use Rattle.kinds.specs.Form.{Form}
use Rattle.kinds.specs.Kind.{Kind}
use Rattle.code.specs.Sheets.{n}
use Rattle.code.specs.declared.mark.Mark.{Mark}
use Rattle.code.specs.declared.mark.Mark.TheVariants.{Arrived, Mended, Lost}
use Rattle.code.specs.declared.sheet.Sheet.{Sheet}
use Rattle.lines.specs.declared.header.SymbolKind.{SymbolKind}
use Rattle.lines.specs.Fields.{field}
use Rattle.lines.specs.Lines.{ended, header_line, lost_field, has_mark, due_letter, symbol_fields, due_field, due_fields, tally_line, fault_line, line_length}
use Rattle.lines.specs.Lengths.{Lengths}
use Rattle.lines.proofs.Widths.{length-symbol, length_symbols}
use Rattle.lines.proofs.Numbers.{length-field}
use Rattle.lines.proofs.Rooms.{wide}

-- a line of a letter and 8 columns, with what follows
after_number : (letter number k : ℕ) (rest : List ℕ) → number ≤ 999999 → length rest ≡ k →
    length (ended (letter ∷ (field 8 number ++ rest))) ≡ 10 + k
after_number letter number k rest h e =
    let f : length (field 8 number) ≡ 8 = length-field 8 number (omega arith) (omega arith) in
    simp length-append (omega arith)

module _ {S : Type 0} (K : Kind S) (F : Form S) where
  abbrev w : ℕ
  w = F.layout.width

  length-lost : length (lost_field F.layout.width) ≡ F.layout.width
  length-lost =
      let h = wide K F in
      simp (length-append, length-replicate) (omega arith)

  length-due : (m : Mark) (s : S) → length (due_field F m s) ≡ F.layout.width
  length-due Arrived s = length-symbol K F s
  length-due Mended s = length-symbol K F s
  length-due Lost s = length-lost

  length_dues : (row : List S) (marks : List Mark) → length marks ≡ length row →
      length (due_fields F row marks) ≡ length row * F.layout.width
  length_dues [] marks e = sym (zero-mul w)
  length_dues (s ∷ row) [] e = absurd (omega arith)
  length_dues (s ∷ row) (m ∷ marks) e =
      let r = length_dues row marks (omega arith) in
      let d = length-due m s in
      let t = suc-mul (length row) w in
      simp length-append (omega arith)

  module _ (p : Sheet) where
    -- the three letters of a due row have one length
    by_marks : (a b : Bool) → line_length F.layout p (cond a 76 (cond b 78 87)) ≡ Some (10 + p.row * F.layout.width)
    by_marks true b = refl
    by_marks false true = refl
    by_marks false false = refl

    header_long : (kind : SymbolKind) → length (ended (header_line kind p)) ≡ 15
    header_long kind =
        let b1 = p.bursts.1 in
        let k1 = p.rows.1 in
        let r1 = p.parities.1 in
        let b : length (field 4 p.burst) ≡ 4 = length-field 4 p.burst (omega arith) (omega arith) in
        let k : length (field 4 p.row) ≡ 4 = length-field 4 p.row (omega arith) (omega arith) in
        let r : length (field 4 p.parity) ≡ 4 = length-field 4 p.parity (omega arith) (omega arith) in
        simp length-append (omega arith)

    tally_long : (a b c d : ℕ) → a ≤ 1000000 → b ≤ 1000000 → c ≤ 1000000 → d ≤ 1000000 → length (ended (tally_line a b c d)) ≡ 34
    tally_long a b c d ha hb hc hd =
        let la : length (field 8 a) ≡ 8 = length-field 8 a (omega arith) (omega arith) in
        let lb : length (field 8 b) ≡ 8 = length-field 8 b (omega arith) (omega arith) in
        let lc : length (field 8 c) ≡ 8 = length-field 8 c (omega arith) (omega arith) in
        let ld : length (field 8 d) ≡ 8 = length-field 8 d (omega arith) (omega arith) in
        simp length-append (omega arith)

    fault_long : (a b c : ℕ) → a ≤ 99999999 → b ≤ 9999 → c ≤ 9999 → length (ended (fault_line a b c)) ≡ 18
    fault_long a b c ha hb hc =
        let la : length (field 8 a) ≡ 8 = length-field 8 a (omega arith) (omega arith) in
        let lb : length (field 4 b) ≡ 4 = length-field 4 b (omega arith) (omega arith) in
        let lc : length (field 4 c) ≡ 4 = length-field 4 c (omega arith) (omega arith) in
        simp length-append (omega arith)

    missed_long : (number : ℕ) → number ≤ 999999 → length (ended (77 ∷ field 8 number)) ≡ 10
    missed_long number h =
        let f : length (field 8 number) ≡ 8 = length-field 8 number (omega arith) (omega arith) in
        simp length-append (omega arith)

    pub lengths : Lengths F p
    lengths = record {
      header = λ kind. ap Some (sym (header_long kind));
      row = λ number symbols h e.
          ap Some (sym (after_number 82 number (p.row * w) (symbol_fields F symbols) h (length_symbols K F symbols ∙ ap (λ x. x * w) e)));
      packet = λ number symbols h e.
          ap Some (sym (after_number 65 number (n p * w) (symbol_fields F symbols) h (length_symbols K F symbols ∙ ap (λ x. x * w) e)));
      missed = λ number h. ap Some (sym (missed_long number h));
      due = λ number symbols marks h e m.
          by_marks (has_mark Lost marks) (has_mark Mended marks)
          ∙ ap Some (sym (after_number (due_letter marks) number (p.row * w) (due_fields F symbols marks) h
          (length_dues symbols marks (m ∙ sym e) ∙ ap (λ x. x * w) e)));
      tally = λ a b c d ha hb hc hd. ap Some (sym (tally_long a b c d ha hb hc hd));
      fault = λ a b c ha hb hc. ap Some (sym (fault_long a b c ha hb hc));
    }
