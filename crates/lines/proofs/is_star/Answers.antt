-- Whether a token begins `*`.
use mathlib.Core.List.{[], ◌∷◌}
use mathlib.Core.Path.{◌∙◌}
use Rattle.slices.proofs.CompareLaws.{starts_begins}
use Rattle.lines.specs.Tokens.{is_star}
use Rattle.lines.proofs.is_star.Goals as goal

pub returns : goal.returns
unfolding is_star
returns c = c.starts_with.ensures.value ∙ starts_begins (42 ∷ []) c.args.token.now
