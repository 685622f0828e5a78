-- What the rest of the hole comes to, behind the rests so far, is what the hole comes to.
use Rattle.gap.proofs.FillLaws.{Counting}
use Rattle.gap.proofs.count_rests.Given as goal

abbrev pub invariant-loop-n : goal.invariant-loop-n
invariant-loop-n l = Counting l.fn.hole l.hole l.n

abbrev pub decreases-loop-n : goal.decreases-loop-n
decreases-loop-n l = l.hole.room
