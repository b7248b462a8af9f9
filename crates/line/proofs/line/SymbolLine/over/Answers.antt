use Rattle.std.proofs.Common.{ℕ, ◌≤◌, ◌≡◌, ◌++◌, length, drop, replicate, sym, ap, ◌∙◌, subst, rules}
use Rattle.std.proofs.lemmas.List.{take_at}
use Rattle.line.proofs.Rings.{held_zeros, fitting_within}
use Rattle.line.proofs.line.SymbolLine.over.Goals as goal

pub returns-clause-held : goal.returns-clause-held
returns-clause-held g c =
    let w = c.args.window.now in
    let z = g.S.Symbol.kind.zero in
    let places = c.fit-places.result in
    let fits : places ≤ length w = subst (λ (n : ℕ). n ≤ length w) (sym c.fit-places.ensures) (fitting_within c.args.places (length w)) in
    let long : length c.clear.new.ring ≡ places = search rules in
    held_zeros w (c.clear.new.ring ++ drop places w) places z fits (take_at c.clear.new.ring (drop places w) places long ∙ c.clear.ensures) ∙ ap (λ n. replicate n z) c.fit-places.ensures
