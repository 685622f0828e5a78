-- The proof of `past`.
use Rattle.std.proofs.Common.{rules}
use Rattle.state.specs.Lay.{past}
use Rattle.state.proofs.past.Goals as goal

pub returns : goal.returns
unfolding past
returns c = search rules
