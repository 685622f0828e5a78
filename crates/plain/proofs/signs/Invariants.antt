-- The bytes up to i are signs, and the alteration is that of all of them.
use Rattle.plain.specs.Usual.{Signing}
use Rattle.plain.proofs.signs.Given as goal

abbrev pub invariant-loop-i : goal.invariant-loop-i
invariant-loop-i l = Signing l.line l.from l.alter l.i
