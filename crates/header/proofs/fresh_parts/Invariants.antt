-- The parts before p are fresh.
use Rattle.header.proofs.FreshLaws.{Freshened}
use Rattle.header.proofs.fresh_parts.Given as goal

abbrev pub invariant-loop-p : goal.invariant-loop-p
invariant-loop-p l = Freshened l.parts l.p
