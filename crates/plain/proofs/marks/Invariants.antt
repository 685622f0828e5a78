-- The bytes up to i are marks, and the flags and the count say what they say; no more are articulations than there are bytes.
use mathlib.Core.Path.{◌≡◌}
use Prim.Native.Nat.{◌≤◌}
use lib.ListN.{length}
use Rattle.plain.specs.Usual.{opened, said_of, Marking}
use Rattle.plain.proofs.marks.Given as goal

abbrev pub invariant-loop-i : goal.invariant-loop-i
invariant-loop-i l = Marking l.line l.from (opened l.ties l.slurs) (said_of l.said) l.i × (l.said.articulations ≤ l.i) × (l.said.end ≡ length l.line)
