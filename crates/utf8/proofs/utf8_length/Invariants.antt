-- `utf8_length`: the well-formed part goes on as far as i.
use Prim.Native.Nat.{◌-◌}
use lib.ListN.{length}
use Rattle.utf8.specs.Utf8.{Passed}
use Rattle.utf8.proofs.utf8_length.Given as goal

abbrev pub invariant-loop-i : goal.invariant-loop-i
invariant-loop-i l = Passed l.s 0 l.i

abbrev pub decreases-loop-i : goal.decreases-loop-i
decreases-loop-i l = length l.s - l.i
