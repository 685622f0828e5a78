-- A turn takes one byte off; at the end the first byte is another.
use mathlib.Core.Path.{ap, ◌∙◌}
use Rattle.notation.specs.Bytes.{trim_start}
use Rattle.notation.proofs.ByteLaws.{trim_on, trim_end}
use Rattle.notation.proofs.bytes.trim_start.Goals as goal

pub loop-shorter-preserved : goal.loop-shorter-preserved
loop-shorter-preserved c = ap (trim_start c.args.b) c.in-Some.ensures.cases.1 ∙ trim_on _ _ c.in-Some.ensures.cases.0 ∙ c.loop-shorter.invariant

pub returns : goal.returns
returns c = trim_end _ _ c.in_default.ensures.cases ∙ c.loop-shorter.invariant
