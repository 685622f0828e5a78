-- The bytes up to i are digits, and write the number.
use mathlib.Core.Path.{ap}
use Prim.Native.Nat.{◌+◌, ◌*◌}
use native.Mathlib.Omega.{arith}
use Rattle.plain.proofs.ByteLaws.{digit_in}
use Rattle.plain.proofs.PieceLaws.{carried_first, carried_turn}
use Rattle.plain.proofs.reciprocal_at.Goals as goal

pub loop-i-init : goal.loop-i-init
loop-i-init c = (carried_first c.requires, omega arith)

pub loop-i-preserved : goal.loop-i-preserved
loop-i-preserved c =
    (carried_turn c.loop-i.invariant.0 c.loop-i-test.true (digit_in _ (omega arith) (omega arith)) (ap (λ n. c.loop-i.number * 10 + n) c.from.ensures), omega (arith, c.from.ensures))
