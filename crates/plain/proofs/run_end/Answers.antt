-- The bytes up to i are all b.
use mathlib.Core.Path.{refl}
use borrow.Author.Tests.{eq-eqb}
use Rattle.notation.specs.Bytes.{contains}
use Rattle.plain.proofs.PieceLaws.{run_first, run_turn}
use Rattle.plain.proofs.run_end.Goals as goal

pub loop-i-init : goal.loop-i-init
loop-i-init c = run_first c.requires

pub loop-i-preserved : goal.loop-i-preserved
unfolding contains
loop-i-preserved c = run_turn c.loop-i.invariant c.loop-i-test.true (rw (c.if-line-i.false, eq-eqb _ _ refl))
