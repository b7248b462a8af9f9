use Rattle.std.proofs.Common.{sym, ◌∙◌, subst, arith}
use Rattle.code.specs.declared.block.Blocks.{Blocks}
use Rattle.code.specs.declared.mark.Mark.{Mark}
use Rattle.code.specs.Blocks.{BlocksFrom}
use Rattle.code.proofs.Walking.{block_on, rest_on}
use Rattle.receive.proofs.Stepping.{lag_within, none_filled, block_cut, block_more, blocks_written}
use Rattle.receive.proofs.receiver.Receiver.mend.Goals as goal

pub loop-block-init : goal.loop-block-init
loop-block-init g c =
    let from : BlocksFrom c.args.self.now.sheet 0 c.into_iter-block-iterator.result =
    subst (λ (s : Blocks). BlocksFrom c.args.self.now.sheet 0 s) (sym c.into_iter-block-iterator.ensures.into_iter_gives) c.blocks-block-items.ensures in
    (from.sheet, none_filled _ c.args.symbols.now from, none_filled _ c.args.marks.now from)

pub mend_block-requires : goal.mend_block-requires
mend_block-requires g c =
    let on = c.loop-block.invariant.0 in
    let at = c.in-Some.ensures.steps in
    record {
      sheet = block_on on at;
      taken = omega (arith, c.requires.taken, lag_within c.in-Some.block c.args.self.now.sheet (block_on on at));
      missed = c.requires.missed;
      symbols = block_cut on at c.len.ensures _ (c.loop-block.auto.symbols ∙ c.requires.symbols);
      marks = block_cut on at c.len.ensures _ (c.loop-block.auto.marks ∙ c.requires.marks);
    }

pub loop-block-preserved : goal.loop-block-preserved
loop-block-preserved g c =
    let v = c.loop-block.invariant in
    let at = c.in-Some.ensures.steps in (
      rest_on v.0 at,
      block_more v.0 at c.len.ensures _ (c.loop-block.auto.symbols ∙ c.requires.symbols) _ g.S.Symbol.kind.zero _ v.1 c.mend_block.ensures.symbols,
      block_more v.0 at c.len.ensures _ (c.loop-block.auto.marks ∙ c.requires.marks) _ Mark.Arrived _ v.2 c.mend_block.ensures.marks,
    )

pub returns : goal.returns
returns g c =
    let v = c.loop-block.invariant in
    let none = c.in-None.ensures.steps in
    record {
      symbols = blocks_written _ c.loop-block.symbols v.0 none (c.loop-block.auto.symbols ∙ c.requires.symbols) v.1;
      marks = blocks_written _ c.loop-block.marks v.0 none (c.loop-block.auto.marks ∙ c.requires.marks) v.2;
    }
