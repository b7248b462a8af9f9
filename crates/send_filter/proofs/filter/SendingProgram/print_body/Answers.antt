use Rattle.std.proofs.Common.{◌++◌, vec_items, sym, ap, ◌∙◌}
use Rattle.stream.specs.Lines.{lines_of}
use Rattle.sending.specs.Text.{body_text}
use Rattle.send_filter.proofs.filter.SendingProgram.print_body.Goals as goal

pub returns-in_ok-send_rows-in-Bytes : goal.returns-in_ok-send_rows-in-Bytes
returns-in_ok-send_rows-in-Bytes c =
    c.in_ok-send_rows-in-Bytes.ensures
    ∙ ap (λ kind. vec_items c.args.out.now ++ body_text kind c.args.header.sheet (lines_of c.args.text.now)) (sym c.in-Bytes.is)

pub returns-in_ok-send_rows-in-Digits : goal.returns-in_ok-send_rows-in-Digits
returns-in_ok-send_rows-in-Digits c =
    c.in_ok-send_rows-in-Digits.ensures
    ∙ ap (λ kind. vec_items c.args.out.now ++ body_text kind c.args.header.sheet (lines_of c.args.text.now)) (sym c.in-Digits.is)
