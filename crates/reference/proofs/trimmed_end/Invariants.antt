-- `trimmed_end`: what stands from the index on is white.
use Rattle.reference.proofs.EndLaws.{Ending}
use Rattle.reference.proofs.trimmed_end.Given as goal

abbrev pub invariant-loop-i : goal.invariant-loop-i
invariant-loop-i l = Ending l.s l.i
