-- The bytes up to i are digits, and write the number.
use Prim.Native.Nat.{◌≤◌}
use Rattle.plain.specs.Usual.{Numbering}
use Rattle.plain.proofs.reciprocal_at.Given as goal

abbrev pub invariant-loop-i : goal.invariant-loop-i
invariant-loop-i l = Numbering l.line l.from l.number l.i × (l.number ≤ 9999)
