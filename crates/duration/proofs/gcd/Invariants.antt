-- `gcd`: Euclid's algorithm. The pair keeps its divisor, in as many steps as are left, which b bounds.
use Rattle.duration.specs.Duration.{gcd_of}
use Rattle.duration.proofs.Divisors.{Euclid}
use Rattle.duration.proofs.gcd.Given as goal

abbrev pub invariant-loop-b : goal.invariant-loop-b
invariant-loop-b l = Euclid l.a l.b (gcd_of l.n l.d)

abbrev pub decreases-loop-b : goal.decreases-loop-b
decreases-loop-b l = l.b
