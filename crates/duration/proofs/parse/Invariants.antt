-- `parse`: the number that the digits write. The digits from the index on, read after n, decide; n has at most as many places as were read.
use Rattle.duration.proofs.Numbers.{Parse}
use Rattle.duration.proofs.parse.Given as goal

abbrev pub invariant-loop-d : goal.invariant-loop-d
invariant-loop-d l = Parse l.digits l.n l.d-index
