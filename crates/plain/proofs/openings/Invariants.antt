-- The bytes up to i are marks, and the flags say what they say.
use mathlib.Core.Path.{◌≡◌}
use mathlib.Core.Bool.{false}
use lib.ListN.{length}
use Rattle.plain.specs.Usual.{opened, Marking}
use Rattle.plain.proofs.openings.Given as goal

abbrev pub invariant-loop-i : goal.invariant-loop-i
invariant-loop-i l = Marking l.line l.from (opened false false) (opened l.opening.ties l.opening.slurs) l.i × (l.opening.end ≡ length l.line)
