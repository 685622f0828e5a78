-- The cells written are those of the spines passed.
use Rattle.header.proofs.ColumnLaws.{Laying}
use Rattle.header.proofs.lay_row.Given as goal

abbrev pub invariant-loop-i : goal.invariant-loop-i
invariant-loop-i l = Laying l.table l.row l.i
