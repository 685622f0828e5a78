-- The cells passed stand at the row's start.
use mathlib.Core.Path.{◌≡◌}
use lib.ListN.{length, take}
use Rattle.voices.proofs.settle.Given as goal

abbrev pub invariant-loop-i : goal.invariant-loop-i
invariant-loop-i l = (length l.row ≡ 512) × (take l.i l.row ≡ take l.i l.cell-items)
