-- Each part has its left barline.
use Rattle.std.proofs.Common.{refl}
use Rattle.reading.specs.Bars.{left_anew}
use Rattle.bars.proofs.LoopLaws.{marched_turn}
use Rattle.bars.proofs.keep_left.Goals as goal

pub loop-part-preserved : goal.loop-part-preserved
loop-part-preserved c = marched_turn (left_anew c.args.left) c.args.parts.now c.loop-part.parts c.loop-part.part-index _ c.loop-part-test.true c.loop-part.auto.parts c.loop-part.invariant refl
