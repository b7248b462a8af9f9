use Rattle.std.proofs.Common.{ℕ, List, length, replicate, sym, ap, ◌∙◌, subst}
use Rattle.std.proofs.lemmas.List.FromFn.{length-map-range_with_len}
use Rattle.code.specs.declared.block.Blocks.{Blocks}
use Rattle.code.specs.declared.sheet.Sheet.{Sheet}
use Rattle.code.specs.Blocks.{BlocksFrom}
use Rattle.code.proofs.Walking.{block_on, rest_on, to_block, past_block, from_first, past_last}
use Rattle.transmit.specs.Keeping.{kept, sums}
use Rattle.transmit.proofs.Adding.{no_sums}
use Rattle.transmit.proofs.parities.write_parities.Goals as goal

pub loop-block-init : goal.loop-block-init
loop-block-init g c =
    let K = g.S.Symbol.kind in
    let p = c.args.sheet in
    let from : BlocksFrom p 0 c.into_iter-block-iterator.result =
    subst (λ (s : Blocks). BlocksFrom p 0 s) (sym c.into_iter-block-iterator.ensures.into_iter_gives) c.blocks-block-items.ensures in (
      from.sheet,
      no_sums K p (kept K p c.args.slots c.args.line.now) c.args.slots _ c.clear.new.ring (c.clear.ensures ∙ ap (λ m. replicate m K.zero) c.requires)
          (from_first (λ (m : ℕ). m) from),
    )

pub add_block-requires : goal.add_block-requires
add_block-requires g c =
    ap length c.loop-block.invariant.1 ∙ length-map-range_with_len _ 0 _
    ∙ sym (ap (λ (q : Sheet). q.parity) (block_on c.loop-block.invariant.0 c.in-Some.ensures.steps))

pub loop-block-preserved : goal.loop-block-preserved
loop-block-preserved g c =
    let K = g.S.Symbol.kind in
    let t = c.args.slots in
    let f : Sheet → ℕ → List _ = λ q m. sums K q (kept K q t c.args.line.now) t m in
    let v = c.loop-block.invariant in
    let at = c.in-Some.ensures.steps in
    (rest_on v.0 at, c.add_block.ensures (v.1 ∙ to_block v.0 at f) ∙ past_block v.0 at f)

pub returns : goal.returns
returns g c =
    let K = g.S.Symbol.kind in
    let p = c.args.sheet in
    c.loop-block.invariant.1
    ∙ past_last (sums K p (kept K p c.args.slots c.args.line.now) c.args.slots) c.loop-block.invariant.0 c.in-None.ensures.steps
