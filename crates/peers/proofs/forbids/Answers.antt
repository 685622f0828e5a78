-- One of three bytes stands anywhere.
use mathlib.Core.Path.{◌∙◌}
use mathlib.Core.Bool.{◌||◌}
use lib.Dec.{eqb}
use Rattle.std.proofs.Common.{rules, tests}
use Rattle.std.proofs.lemmas.Iterator.{YieldsList-from_slice}
use Rattle.std.proofs.lemmas.Iterator.Search.{any_from_yields_List}
use Rattle.peers.proofs.OfferLaws.{any_forbids}
use Rattle.peers.proofs.forbids.Goals as goal

pub returns : goal.returns
returns c =
    any_from_yields_List (λ x. eqb x 32 || eqb x 46 || eqb x 37) _ _ _ c.any.ensures.ran (YieldsList-from_slice c.args.token.now cc) (λ x b q k. search (rules, tests))
    ∙ any_forbids c.args.token.now
