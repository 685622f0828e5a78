-- The parts before the index are closed, and their BARs are laid.
use Rattle.std.proofs.Common.{refl}
use Rattle.reading.specs.Bars.{closed_part}
use Rattle.bars.specs.Bars.{bar_record}
use Rattle.bars.proofs.LoopLaws.{marched_turn, laid_none, close_turn}
use Rattle.bars.proofs.close.Goals as goal

pub loop-part-init : goal.loop-part-init
loop-part-init c = (refl, laid_none c.args.out.now c.args.at)

pub loop-part-preserved : goal.loop-part-preserved
loop-part-preserved c = (marched_turn (closed_part c.args.right c.args.left c.args.number) c.args.parts.now c.loop-part.parts c.loop-part.part-index _ c.loop-part-test.true c.loop-part.auto.parts c.loop-part.invariant.0 c.close_part-k.ensures.0, close_turn (closed_part c.args.right c.args.left c.args.number) (bar_record c.args.right c.args.number) c.args.parts.now c.loop-part.parts c.loop-part.part-index _ c.loop-part-test.true c.loop-part.invariant.0 c.loop-part.invariant.1 c.close_part-k.ensures.1)
