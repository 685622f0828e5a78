-- `blocks`: no b stands from `from` up to i, which is its contract's record.
use mathlib.Core.Path.{ap, ◌∙◌}
use mathlib.Core.List.{List}
use Prim.Native.Nat.{ℕ}
use lib.ListN.{get_or}
use Rattle.slices.proofs.PieceLaws.{rest}
use Rattle.search.proofs.BlockLaws.{blocks_more}
use Rattle.search.proofs.blocks.Goals as goal

pub loop-block-preserved : goal.loop-block-preserved
loop-block-preserved g c =
    let s = c.args.s.now in
    let j = c.loop-block.block-index in
    let x = c.block-item.result in
    let at = c.block-item.is ∙ ap (λ (l : List (List ℕ)). get_or l j x) c.as_chunks.ensures.front in
    let below = rw c.as_chunks.ensures.front_len at c.loop-block-test.true in
    blocks_more c.loop-block.invariant.0 g.row.N j c.loop-block.invariant.1 x
    (rw (rest s c.args.from) at at)
    (rw (rest s c.args.from) at below)
    (c.lacks.ensures c.if-not-lacks.false)
