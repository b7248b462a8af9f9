use Rattle.std.proofs.Common.{◌++◌, vec_items, sym, ap, ◌∙◌}
use Rattle.stream.specs.Lines.{lines_of}
use Rattle.mending.specs.Text.{body_text}
use Rattle.mend_filter.proofs.filter.MendingProgram.print_body.Goals as goal

pub returns-in_ok-mend_slots-in-Bytes : goal.returns-in_ok-mend_slots-in-Bytes
returns-in_ok-mend_slots-in-Bytes c =
    c.in_ok-mend_slots-in-Bytes.ensures
    ∙ ap (λ kind. vec_items c.args.out.now ++ body_text kind c.args.header.sheet (lines_of c.args.text.now)) (sym c.in-Bytes.is)

pub returns-in_ok-mend_slots-in-Digits : goal.returns-in_ok-mend_slots-in-Digits
returns-in_ok-mend_slots-in-Digits c =
    c.in_ok-mend_slots-in-Digits.ensures
    ∙ ap (λ kind. vec_items c.args.out.now ++ body_text kind c.args.header.sheet (lines_of c.args.text.now)) (sym c.in-Digits.is)
