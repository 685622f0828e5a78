-- What is written, and what the machine has still to give from the token at hand, make the next row.
use lib.ListN.{length}
use Rattle.spines.proofs.WalkLaws.{Loop}
use Rattle.spines.proofs.walk_row.Given as goal

abbrev pub invariant-loop-i : goal.invariant-loop-i
invariant-loop-i l = Loop l.line l.row l.next (length l.initial.next) l.token.kind l.token.next l.left l.b l.n l.i
