-- The row so far, and what the lines left make of it, are the row before line k.
use Prim.Native.Nat.{◌-◌}
use lib.ListN.{length, take}
use Rattle.lines.specs.Lines.{lines_of}
use Rattle.staff.proofs.WalkLaws.{Walking}
use Rattle.staff.proofs.row_before.Given as goal

abbrev pub invariant-loop-line : goal.invariant-loop-line
invariant-loop-line l = Walking (take (l.k - 1) (lines_of l.text)) l.rows.row l.begun l.active (length l.yielded)
