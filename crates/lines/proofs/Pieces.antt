-- The pieces of a line, put one after another.
use Rattle.std.proofs.Common.{◌≡◌, ℕ, ◌+◌, ◌-◌, ◌<◌, ◌≤◌, List, [], ◌∷◌, ◌++◌, length, get_or, take, set, replicate, sym, ap, ◌∙◌, arith}
use Rattle.std.proofs.lemmas.List.{append-nil, append_assoc, take_more, set_at, length-take-le, length-replicate}
use Rattle.kinds.specs.Form.{Form}
use Rattle.code.specs.declared.mark.Mark.{Mark}
use Rattle.lines.specs.declared.pen.LinePen.{LinePen}
use Rattle.lines.specs.Fields.{field}
use Rattle.lines.specs.Lines.{lost_field, due_field, due_fields}
use Rattle.lines.specs.Pen.{written, Puts}

pub lost_put : (part : List ℕ) (width : ℕ) → 1 ≤ width → part ≡ field width 0 → length part ≡ width →
    set part (length part - 1) 63 ≡ lost_field width
unfolding field
lost_put part width p wrote l =
    ap (λ x. set part (x - 1) 63) l ∙ (ap (λ x. set x (width - 1) 63) wrote
    ∙ set_at (replicate (width - 1) 32) 48 [] 63 (width - 1) (length-replicate (width - 1) 32))

-- one piece after another
pub puts_more : (before middle after : LinePen) (w v u : ℕ) (text piece whole : List ℕ) →
    Puts before middle w text → Puts middle after v piece → u ≡ w + v → whole ≡ text ++ piece → Puts before after u whole
puts_more before middle after w v u text piece whole p q e f = record {
  puts = q.puts ∙ (ap (λ x. x ++ piece) p.puts
      ∙ (append_assoc (written before) text piece ∙ ap (λ x. written before ++ x) (sym f)));
  at = omega arith;
  long = q.long ∙ p.long;
  same = q.same ∙ p.same;
}

module _ {S : Type 0} (F : Form S) where
  due_push : (row : List S) (marks : List Mark) (s : S) (m : Mark) → length row ≡ length marks →
      due_fields F (row ++ (s ∷ [])) (marks ++ (m ∷ [])) ≡ due_fields F row marks ++ due_field F m s
  due_push [] [] s m e = append-nil (due_field F m s)
  due_push [] (y ∷ ys) s m e = absurd (omega arith)
  due_push (x ∷ xs) [] s m e = absurd (omega arith)
  due_push (x ∷ xs) (y ∷ ys) s m e =
      ap (λ z. due_field F y x ++ z) (due_push xs ys s m (omega arith))
      ∙ sym (append_assoc (due_field F y x) (due_fields F xs ys) (due_field F m s))

  -- the field of one symbol more, with its mark
  pub due_more : (row : List S) (marks : List Mark) (i : ℕ) (s : S) (m : Mark) → i < length row → length marks ≡ length row →
      s ≡ get_or row i s → m ≡ get_or marks i m →
      due_fields F (take (i + 1) row) (take (i + 1) marks) ≡ due_fields F (take i row) (take i marks) ++ due_field F m s
  due_more row marks i s m h same is ms =
      let k : i < length marks = omega arith in
      let t : take (i + 1) row ≡ take i row ++ (s ∷ []) = take_more row i s h ∙ ap (λ x. take i row ++ (x ∷ [])) (sym is) in
      let u : take (i + 1) marks ≡ take i marks ++ (m ∷ []) = take_more marks i m k ∙ ap (λ x. take i marks ++ (x ∷ [])) (sym ms) in
      let l : length (take i row) ≡ length (take i marks) =
      length-take-le i row (omega arith) ∙ sym (length-take-le i marks (omega arith)) in
      ap (λ x. due_fields F x (take (i + 1) marks)) t
      ∙ (ap (λ x. due_fields F (take i row ++ (s ∷ [])) x) u ∙ due_push (take i row) (take i marks) s m l)
