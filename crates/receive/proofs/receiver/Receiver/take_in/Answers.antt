use Rattle.std.proofs.Common.{◌+◌, ◌-◌, sym, refl, ◌∙◌, inl, inr, arith}
use Rattle.receive.specs.Memory.{memory}
use Rattle.receive.proofs.Reading.{got_none, read_back}
use Rattle.receive.proofs.Beside.{own_sums, own_known, early_sums, early_known, heard_sums, heard_known, missed_sums, missed_known}
use Rattle.receive.proofs.receiver.Receiver.take_in.Goals as goal

pub returns-then-other-block : goal.returns-then-other-block
returns-then-other-block g c =
    let K = g.S.Symbol.kind in
    let h = memory K c.args.self.now in
    let s = c.args.carrier in
    elim c.then-other-block.either [
      | inl e ↦ record {
        sums = c.requires.sums ∙ own_sums K h s c.args.block c.args.other c.requires.sheets e;
        outlooks = c.requires.outlooks ∙ own_known K h s c.args.block c.args.other c.requires.sheets e;
      }
      | inr e ↦ record {
        sums = c.requires.sums ∙ early_sums K h s c.args.block c.args.other c.requires.sheets e.0 e.1;
        outlooks = c.requires.outlooks ∙ early_known K h s c.args.block c.args.other c.requires.sheets e.0 e.1;
      }
    ]

pub returns-then-heard : goal.returns-then-heard
returns-then-heard g c =
    let K = g.S.Symbol.kind in
    let r = c.args.self.now in
    let s = c.args.carrier in
    let o = c.args.other in
    let came = sym c.if-heard.ensures in
    record {
      sums = heard_sums K (memory K r) s c.args.block o c.requires.sheets c.if-other-block.false c.if-carrier-other.false _ _ c.min-end.ensures c.max.ensures
          c.args.sums.now c.add_back.new.place _ c.requires.sums
          (λ i l. read_back K r (s - o.lag) o.first c.steps_to-steps.result i (o.first + i) came c.steps_to-steps.ensures refl (omega arith))
          c.add_back.ensures;
      outlooks = c.requires.outlooks ∙ heard_known K (memory K r) s c.args.block o c.requires.sheets c.if-other-block.false c.if-carrier-other.false came;
    }

pub returns-else-heard : goal.returns-else-heard
returns-else-heard g c =
    let K = g.S.Symbol.kind in
    let h = memory K c.args.self.now in
    let s = c.args.carrier in
    let o = c.args.other in
    let missed = sym c.if-heard.ensures in
    record {
      sums = c.requires.sums ∙ missed_sums K h s c.args.block o c.requires.sheets c.if-other-block.false c.if-carrier-other.false
          (λ i. got_none K h (s - o.lag) (o.first + i) missed);
      outlooks = missed_known K h s c.args.block o c.requires.sheets c.if-other-block.false c.if-carrier-other.false _ _ c.min-end.ensures c.max.ensures
          c.args.outlooks.now c.mark_all.new.places c.requires.outlooks missed c.mark_all.ensures;
    }
