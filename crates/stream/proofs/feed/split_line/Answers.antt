use Rattle.std.proofs.Common.{◌+◌, ◌∷◌, ◌++◌, take, drop, sym, ap, add-one, ◌∙◌}
use Rattle.std.proofs.lemmas.List.{take_rest}
use Rattle.stream.proofs.Cutting.{cut}
use Rattle.stream.proofs.feed.split_line.Goals as goal

pub returns : goal.returns
returns c =
    let text = c.args.text.now in
    let len = c.in_ok-len.len in
    let cut_at = cut text len (sym c.in_ok-len.ensures.value) in (
      cut_at.unended,
      cut_at.is ∙ ap (λ l. take len text ++ (10 ∷ l)) (ap (λ i. drop i text) (sym (add-one len)) ∙ sym (take_rest text (len + 1))),
    )
