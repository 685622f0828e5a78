-- Each of the four states, carried on over the items left, gives what it gives over all from the start; the byte at i decides the item there.
use Prim.Native.Nat.{◌-◌}
use lib.ListN.{length}
use Rattle.scan.proofs.ScanLaws.{Scanning}
use Rattle.scan.proofs.scan_token.Given as goal

abbrev pub invariant-loop-i : goal.invariant-loop-i
invariant-loop-i l = Scanning l.token l.lengths l.first l.sounds l.marks l.i

abbrev pub decreases-loop-i : goal.decreases-loop-i
decreases-loop-i l = length l.token - l.i
