-- What all columns come to is what those left come to from here on.
use Rattle.stars.proofs.LoopLaws.{Loop}
use Rattle.stars.proofs.read_columns.Given as goal

abbrev pub invariant-loop-i : goal.invariant-loop-i
invariant-loop-i l = Loop l.text l.row l.line.number l.line.offset l.initial.parts l.initial.out l.initial.t l.parts l.out l.t l.left l.from l.i
