-- The lines so far, and those of the tokens left, are those of the whole record.
use Rattle.holders.specs.Walk.{listed}
use Rattle.holders.proofs.PassLaws.{Lining}
use Rattle.holders.proofs.lines_of.Given as goal

abbrev pub invariant-loop-i : goal.invariant-loop-i
invariant-loop-i l = Lining l.part l.header l.line l.row.cells.now (listed l.held) l.follows l.from l.i
