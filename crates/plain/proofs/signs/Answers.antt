-- The bytes up to i are signs, and the alteration is that of all of them.
use mathlib.Core.Path.{sym, ◌∙◌}
use Rattle.plain.proofs.PieceLaws.{carried_first, carried_turn}
use Rattle.plain.proofs.signs.Goals as goal

pub loop-i-init : goal.loop-i-init
loop-i-init c = carried_first c.requires

pub loop-i-preserved : goal.loop-i-preserved
loop-i-preserved c = carried_turn c.loop-i.invariant c.loop-i-test.true (sym c.is_sign.ensures ∙ c.if-not-is_sign.false) c.altered-alter.ensures
