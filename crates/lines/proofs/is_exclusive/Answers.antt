-- Whether a token begins `**`.
use mathlib.Core.List.{[], ◌∷◌}
use mathlib.Core.Path.{◌∙◌}
use Rattle.slices.proofs.CompareLaws.{starts_begins}
use Rattle.lines.specs.Tokens.{is_exclusive}
use Rattle.lines.proofs.is_exclusive.Goals as goal

pub returns : goal.returns
unfolding is_exclusive
returns c = c.starts_with.ensures.value ∙ starts_begins (42 ∷ 42 ∷ []) c.args.token.now
