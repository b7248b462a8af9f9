use Rattle.std.proofs.Common.{◌≡◌, ◌||◌, eqb, List, [], ◌∷◌, refl, ap, ◌∙◌}
use Rattle.std.specs.List.{list_any}
use Rattle.code.specs.Marks.{mark_number}
use Rattle.code.specs.contracts.mark.MarkPartialEq.TheImpl.{ghosts}
use Rattle.code.specs.declared.mark.Mark.{Mark}
use Rattle.code.specs.declared.mark.Mark.TheVariants.{Arrived, Mended, Lost}
use Rattle.lines.specs.Lines.{has_mark}
use Rattle.lines.proofs.writer.any.Goals as goal

-- equal marks are those of one number
by_number : (m mark : Mark) → ghosts.eq m mark ≡ eqb (mark_number m) (mark_number mark)
by_number Arrived Arrived = refl
by_number Arrived Mended = refl
by_number Arrived Lost = refl
by_number Mended Arrived = refl
by_number Mended Mended = refl
by_number Mended Lost = refl
by_number Lost Arrived = refl
by_number Lost Mended = refl
by_number Lost Lost = refl

any_is : (mark : Mark) (marks : List Mark) → list_any (λ m. ghosts.eq m mark) marks ≡ has_mark mark marks
any_is mark [] = refl
any_is mark (m ∷ ms) =
    ap (λ x. x || list_any (λ y. ghosts.eq y mark) ms) (by_number m mark)
    ∙ ap (λ x. eqb (mark_number m) (mark_number mark) || x) (any_is mark ms)

pub returns : goal.returns
returns c = c.contains.ensures.value ∙ any_is c.args.mark c.args.marks.now
