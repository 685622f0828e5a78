-- The parts before the index have their left barline.
use Rattle.bars.proofs.LoopLaws.{Marched}
use Rattle.reading.specs.Bars.{left_anew}
use Rattle.bars.proofs.keep_left.Given as goal

abbrev pub invariant-loop-part : goal.invariant-loop-part
invariant-loop-part l = Marched (left_anew l.left) l.initial.parts l.parts l.part-index
