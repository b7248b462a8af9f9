use Rattle.std.proofs.Common.{ℕ, ◌<◌, List, length, vec_items, vec_len, sym, subst, arith}
use Rattle.std.proofs.lemmas.Bool.{eqb-false}
use Rattle.stream.specs.Running.{Took, Refused}
use Rattle.stream.proofs.Turning.{refused}
use Rattle.stream.proofs.feed.LineFeed.hold.Goals as goal

pub returns-in_ok-take_line : goal.returns-in_ok-take_line
returns-in_ok-take_line g c =
    let all = c.in_ok-extend_from_slice.ensures.items in
    let one = c.as_slice.ensures.value in
    let two = c.as_slice-then-refuses.ensures.value in
    let ne = eqb-false (vec_len c.extend_from_slice.new.self) 0 (sym c.if-not-is_empty.ensures) in
    let long = c.extend_from_slice.new.self.ok.0 in
    let some : 0 < length (vec_items c.extend_from_slice.new.self) = omega (arith, ne, long) in
    refused g.R.LineRun.rest g.R.LineRun.sound g.R.LineRun.paused c.args.run.now c.take_line.new.self (vec_items c.args.self.now.held) c.args.piece.now
    (vec_items c.extend_from_slice.new.self) (vec_items c.args.out.now) (vec_items c.take_line.new.out) (vec_items c.clear.new.self)
    all some c.clear.ensures.items
    (subst (λ (b : List ℕ). Refused g.R.LineRun.rest g.R.LineRun.sound g.R.LineRun.paused c.args.run.now b) one (c.refuses.ensures.alike c.if-refuses.true))
    (subst (λ (b : List ℕ). Took g.R.LineRun.rest g.R.LineRun.sound g.R.LineRun.paused c.args.run.now c.take_line.new.self b (vec_items c.args.out.now) (vec_items c.take_line.new.out)) two c.in_ok-take_line.ensures)
