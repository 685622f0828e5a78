-- The summary so far, carried on over the columns left, gives what all give from the start.
use Rattle.peers.specs.Found.{agreement_of}
use Rattle.peers.proofs.MeetLaws.{Passing}
use Rattle.peers.proofs.agreed_reciprocal.Given as goal

abbrev pub invariant-loop-cell : goal.invariant-loop-cell
invariant-loop-cell l = Passing l.line l.row l.from l.cell-index (agreement_of l.summary)
