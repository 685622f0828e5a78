-- `blocks_64`: the well-formed part from `from` goes on as far as i, which is its contract's record.
use Rattle.utf8.proofs.BlockLaws.{blocks_turn}
use Rattle.utf8.proofs.blocks_64.Goals as goal

pub loop-i-preserved : goal.loop-i-preserved
loop-i-preserved c = blocks_turn c.loop-i.invariant 64 c.loop-i-test.true (c.joined.ensures c.if-joined-ge128.false)
