-- The counts that stay as they are.
use Rattle.std.proofs.Common.{refl, ◌∙◌}
use Rattle.state.specs.declared.Tally.{Tally}
use Rattle.state.specs.Counts.{Same}

pub same : (t : Tally) → Same t t
same t = record { active = refl; parts = refl; bars = refl }

pub same_same : {t u w : Tally} → Same t u → Same u w → Same t w
same_same p q = record { active = q.active ∙ p.active; parts = q.parts ∙ p.parts; bars = q.bars ∙ p.bars }
