-- The entries so far stand at the start of the array.
use mathlib.Core.Path.{◌∙◌}
use native.Mathlib.Omega.{arith}
use Rattle.kern_ffi.proofs.LineLaws.{laid_first, laid_turn, laid_past}
use Rattle.kern_ffi.proofs.causes.put_lines.Goals as goal

pub loop-i-init : goal.loop-i-init
loop-i-init c = laid_first _ _

pub loop-i-preserved : goal.loop-i-preserved
loop-i-preserved c = laid_turn c.loop-i.invariant _ (omega (arith, c.loop-i-test.true)) (c.copy_from_slice.ensures.after ∙ c.entry_numbers.ensures)

pub returns : goal.returns
returns c = laid_past c.loop-i.invariant (omega (arith, c.loop-i-test.false)) (omega (arith, c.requires))
