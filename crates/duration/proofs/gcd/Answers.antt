-- `gcd`: Euclid's algorithm. The pair keeps its divisor, in as many steps as are left, which b bounds.
use Rattle.duration.proofs.Divisors.{euclid_past}
use Rattle.duration.proofs.gcd.Goals as goal

pub returns : goal.returns
returns c = euclid_past c.loop-b.invariant c.loop-b-test.false
