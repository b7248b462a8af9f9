use Rattle.std.proofs.Common.{sym, refl, ap, ◌∙◌, subst}
use Rattle.code.specs.declared.block.Blocks.{Blocks}
use Rattle.code.specs.declared.mark.Mark.{Mark}
use Rattle.code.specs.Blocks.{BlocksFrom}
use Rattle.code.specs.Mending.{heard}
use Rattle.code.proofs.Walking.{block_on, rest_on, here, there, from_first, past_last}
use Rattle.receive.specs.Memory.{memory}
use Rattle.receive.specs.Blocks.{sums_beside, known_beside}
use Rattle.receive.proofs.Settling.{filled_with}
use Rattle.receive.proofs.receiver.Receiver.gather.Goals as goal

pub loop-other-init : goal.loop-other-init
loop-other-init g c =
    let K = g.S.Symbol.kind in
    let p = c.args.self.now.sheet in
    let h = memory K c.args.self.now in
    let from : BlocksFrom p 0 c.into_iter-other-iterator.result =
    subst (λ (s : Blocks). BlocksFrom p 0 s) (sym c.into_iter-other-iterator.ensures.into_iter_gives) c.blocks-other-items.ensures in (
      from.sheet,
      c.clear.ensures ∙ filled_with _ K.zero _ _ c.requires.symbols (λ i l. refl) ∙ sym (from_first (sums_beside K p h c.args.carrier c.args.block.first) from),
      c.mark_all.ensures ∙ filled_with _ Mark.Mended _ _ c.requires.marks (λ i l. refl) ∙ sym (from_first (known_beside p (heard h) c.args.carrier c.args.block.first) from),
    )

pub take_in-requires : goal.take_in-requires
take_in-requires g c =
    let K = g.S.Symbol.kind in
    let p = c.args.self.now.sheet in
    let h = memory K c.args.self.now in
    let v = c.loop-other.invariant in
    let at = c.in-Some.ensures.steps in
    record {
      sheets = (c.requires.sheet, block_on v.0 at);
      taken = c.requires.taken;
      sums = v.1 ∙ ap (sums_beside K p h c.args.carrier c.args.block.first) (here v.0 at);
      outlooks = v.2 ∙ ap (known_beside p (heard h) c.args.carrier c.args.block.first) (here v.0 at);
    }

pub loop-other-preserved : goal.loop-other-preserved
loop-other-preserved g c =
    let K = g.S.Symbol.kind in
    let p = c.args.self.now.sheet in
    let h = memory K c.args.self.now in
    let v = c.loop-other.invariant in
    let at = c.in-Some.ensures.steps in (
      rest_on v.0 at,
      c.take_in.ensures.sums ∙ ap (sums_beside K p h c.args.carrier c.args.block.first) (there v.0 at),
      c.take_in.ensures.outlooks ∙ ap (known_beside p (heard h) c.args.carrier c.args.block.first) (there v.0 at),
    )

pub returns : goal.returns
returns g c =
    let K = g.S.Symbol.kind in
    let p = c.args.self.now.sheet in
    let h = memory K c.args.self.now in
    let v = c.loop-other.invariant in
    let none = c.in-None.ensures.steps in
    record {
      sums = v.1 ∙ past_last (sums_beside K p h c.args.carrier c.args.block.first) v.0 none;
      outlooks = v.2 ∙ past_last (known_beside p (heard h) c.args.carrier c.args.block.first) v.0 none;
    }
