-- `blank`: a TAB passes a token; another byte is in one, which decides where no token is to pass.
use mathlib.Core.Path.{refl, sym, ◌∙◌}
use native.Mathlib.Omega.{arith}
use Rattle.repair.proofs.EachLaws.{blank_tab, blank_byte, blank_stop, blank_end}
use Rattle.repair.proofs.blank.Goals as goal
use Rattle.repair.proofs.blank.Goals.{then-b-eq9, else-b-eq9+else-left-eq0}

pub loop-b-init : goal.loop-b-init
loop-b-init c = refl

pub returns-then-left-eq0 : goal.returns-then-left-eq0
returns-then-left-eq0 c = sym (blank_stop _ _ _ c.loop-b-test.true c.if-b-eq9.false c.if-left-eq0.true c.loop-b.invariant)

pub loop-b-preserved : goal.loop-b-preserved
loop-b-preserved c = elim c.if-b-eq9.branch [
  | then-b-eq9 w ↦ blank_tab _ _ _ _ c.loop-b-test.true w.if-b-eq9.true (w.left-is ∙ w.saturating_sub-left.ensures) c.loop-b.invariant
  | else-b-eq9+else-left-eq0 w ↦ rw (w.left-is) (blank_byte _ _ _ c.loop-b-test.true w.if-b-eq9.false w.if-left-eq0.false c.loop-b.invariant)
]

pub returns : goal.returns
returns c = sym (blank_end c.args.line.now c.loop-b.b-index c.loop-b.left (omega (arith, c.loop-b-test.false)) c.loop-b.invariant)
