-- The branches so far, and those of the tokens left, are those of the whole record.
use Rattle.holders.specs.Walk.{listed}
use Rattle.holders.proofs.PassLaws.{Branching}
use Rattle.holders.proofs.branches_of.Given as goal

abbrev pub invariant-loop-i : goal.invariant-loop-i
invariant-loop-i l = Branching l.part l.header l.line l.row.cells.now (listed l.initial.held) (listed l.held) l.from l.i
