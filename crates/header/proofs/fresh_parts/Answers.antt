-- The parts before p are fresh.
use Rattle.std.proofs.Common.{◌∙◌, arith}
use Rattle.header.proofs.FreshLaws.{all_fresh}
use Rattle.header.proofs.fresh_parts.Goals as goal

pub returns : goal.returns
returns c = λ ks e. all_fresh c.loop-p.invariant (omega (arith, c.loop-p.auto.parts, c.loop-p-test.false)) ks (c.loop-p.auto.parts ∙ e)
