use Rattle.std.proofs.Common.{◌≡◌, ◌<◌, ◌∷◌, length, vec_items, ap, ◌∙◌, arith, rules}
use Rattle.std.proofs.lemmas.List.{length-append, nil_from_length}
use Rattle.relay.specs.Halls.{listed}
use Rattle.relay.proofs.Relayed.{relays}
use Rattle.relay.proofs.Turns.{line_passed, last_passed, all_done}
use Rattle.relay.proofs.passing.hall.Goals as goal
use Rattle.relay.proofs.passing.hall.Goals.{then-not-is_empty+in_ok-pass_line-2, else-not-is_empty}

pub loop-line-preserved : goal.loop-line-preserved
loop-line-preserved c =
    let parts = c.in-Some.ensures in (
      line_passed (listed c.args.missed.now) _ _ _ _ _ _ _ parts.0 parts.1 c.in_ok-pass_line.ensures c.loop-line.invariant.0,
      omega (arith, ap length parts.1, length-append c.in-Some.line.now (10 ∷ c.in-Some.more.now)),
    )

pub returns-clause-turns : goal.returns-clause-turns
returns-clause-turns c = elim c.if-not-is_empty.branch [
  | then-not-is_empty+in_ok-pass_line-2 w ↦
      let some : 0 < length c.loop-line.rest.now = search rules in
      ap vec_items w.out-is
      ∙ last_passed (listed c.args.missed.now) _ _ _ _ _ c.in_default.ensures some w.in_ok-pass_line-2.ensures c.loop-line.invariant.0
  | else-not-is_empty w ↦
      let none : length c.loop-line.rest.now ≡ 0 = search rules in
      ap vec_items w.out-is
      ∙ all_done (listed c.args.missed.now) _ _ _ _ (nil_from_length _ none) c.loop-line.invariant.0
]

pub returns-clause-relays : goal.returns-clause-relays
returns-clause-relays c = relays

pub returns-in_err-pass_line-clause-relays : goal.returns-in_err-pass_line-clause-relays
returns-in_err-pass_line-clause-relays c = relays

pub returns-in_err-pass_line-2-clause-relays : goal.returns-in_err-pass_line-2-clause-relays
returns-in_err-pass_line-2-clause-relays c = relays
