-- The bytes before the trailing CRs are those without them.
use mathlib.Core.Path.{ap, ◌∙◌}
use Prim.Native.Nat.{ℕ}
use lib.ListN.{take}
use Rattle.lines.proofs.TrimLaws.{content_take}
use Rattle.staff.proofs.bare.Goals as goal

pub returns : goal.returns
returns c = ap (λ (n : ℕ). take n c.args.line.now) c.content.ensures.0 ∙ content_take c.args.line.now
