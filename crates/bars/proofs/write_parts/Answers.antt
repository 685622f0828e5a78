-- The PARTs of the parts so far are laid.
use Rattle.reading.specs.Text.{part_record}
use Rattle.bars.proofs.LoopLaws.{laid_none, given_turn}
use Rattle.bars.proofs.write_parts.Goals as goal

pub loop-part-init : goal.loop-part-init
loop-part-init c = laid_none c.args.out.now c.args.at

pub loop-part-preserved : goal.loop-part-preserved
loop-part-preserved c = given_turn part_record c.loop-part.yielded c.in-Some.part c.part_of.ensures c.loop-part.invariant c.write-k.ensures
