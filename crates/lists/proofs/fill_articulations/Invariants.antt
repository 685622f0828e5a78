-- What is stored, and what the bytes left give, are all.
use Rattle.lists.proofs.ByteLaws.{Marking}
use Rattle.lists.proofs.fill_articulations.Given as goal

abbrev pub invariant-loop-b : goal.invariant-loop-b
invariant-loop-b l = Marking l.initial.out l.out l.token l.k l.b-index
