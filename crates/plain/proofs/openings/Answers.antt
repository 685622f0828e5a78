-- The bytes up to i are marks, and the flags say what they say.
use mathlib.Core.Path.{refl}
use Rattle.notation.specs.Bytes.{contains}
use Rattle.token.specs.Token.{articulation}
use Rattle.plain.proofs.ByteLaws.{mark_turn}
use Rattle.plain.proofs.PieceLaws.{carried_first}
use Rattle.plain.proofs.openings.Goals as goal
use Rattle.plain.proofs.openings.Goals.{in-91, in-40}

pub loop-i-init : goal.loop-i-init
loop-i-init c = (carried_first c.requires, refl)

pub loop-i-preserved : goal.loop-i-preserved
unfolding contains articulation
loop-i-preserved c =
    elim c.match-line-i.branch [
      | in-91 w ↦ rw w.opening-is (mark_turn 91 c.loop-i.invariant.0 c.loop-i-test.true w.in-91.is refl refl, c.loop-i.invariant.1)
      | in-40 w ↦ rw w.opening-is (mark_turn 40 c.loop-i.invariant.0 c.loop-i-test.true w.in-40.is refl refl, c.loop-i.invariant.1)
    ]
