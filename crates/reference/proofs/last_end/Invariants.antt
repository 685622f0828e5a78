-- `last_end`: the text ends where what stays from i on ends, or at `end` where nothing stays there.
use Prim.Native.Nat.{◌-◌}
use lib.ListN.{length}
use Rattle.reference.proofs.LoopLaws.{End}
use Rattle.reference.proofs.last_end.Given as goal

abbrev pub invariant-loop-i : goal.invariant-loop-i
invariant-loop-i l = End l.s l.end l.i

abbrev pub decreases-loop-i : goal.decreases-loop-i
decreases-loop-i l = length l.s - l.i
