-- `leading_white`: the white characters at the front are i bytes and those from i on.
use Prim.Native.Nat.{◌-◌}
use lib.ListN.{length}
use Rattle.reference.proofs.LoopLaws.{Leading}
use Rattle.reference.proofs.leading_white.Given as goal

abbrev pub invariant-loop-i : goal.invariant-loop-i
invariant-loop-i l = Leading l.s l.i

abbrev pub decreases-loop-i : goal.decreases-loop-i
decreases-loop-i l = length l.s - l.i
