-- The rests that are left fill the rest of the hole; with them the buffer is as at the end.
use Rattle.gap.specs.Fill.{fill_hole}
use Rattle.gap.specs.Answer.{laid}
use Rattle.gap.proofs.FillLaws.{Writing}
use Rattle.gap.proofs.write_rests.Given as goal

abbrev pub invariant-loop-rest : goal.invariant-loop-rest
invariant-loop-rest l = Writing (laid (fill_hole l.fn.hole) l.initial.out) l.out l.hole l.at

abbrev pub decreases-loop-rest : goal.decreases-loop-rest
decreases-loop-rest l = l.hole.room
