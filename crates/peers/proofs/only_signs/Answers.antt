-- Each byte is a sign.
use mathlib.Core.Path.{◌∙◌}
use Rattle.std.proofs.Common.{rules, tests}
use Rattle.std.proofs.lemmas.Iterator.{YieldsList-from_slice}
use Rattle.std.proofs.lemmas.Iterator.Search.{all_from_yields_List}
use Rattle.notation.specs.Bytes.{contains}
use Rattle.token.specs.Token.{signs}
use Rattle.peers.proofs.OfferLaws.{all_signs}
use Rattle.peers.proofs.only_signs.Goals as goal

pub returns : goal.returns
returns c =
    all_from_yields_List (λ x. contains x signs) _ _ _ c.all.ensures.ran (YieldsList-from_slice c.args.s.now cc) (λ x b q k. search (rules, tests))
    ∙ all_signs c.args.s.now
