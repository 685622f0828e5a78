-- The entries filled are those of the cells passed.
use Rattle.spines.proofs.TableLaws.{Filled}
use Rattle.spines.proofs.fill_table.Given as goal

abbrev pub invariant-loop-i : goal.invariant-loop-i
invariant-loop-i l = Filled l.row l.spines l.i
