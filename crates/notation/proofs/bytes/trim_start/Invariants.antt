-- What is left to trim has the same end.
use lib.ListN.{length}
use mathlib.Core.Path.{◌≡◌}
use Rattle.notation.specs.Bytes.{trim_start}
use Rattle.notation.proofs.bytes.trim_start.Given as goal

abbrev pub invariant-loop-shorter : goal.invariant-loop-shorter
invariant-loop-shorter l = trim_start l.b l.rest ≡ trim_start l.b l.s

abbrev pub decreases-loop-shorter : goal.decreases-loop-shorter
decreases-loop-shorter l = length l.rest
