-- One of those there are.
use Rattle.std.proofs.Common.{rules, ◌∙◌}
use borrow.Author.Tests.{tests}
use lib.Dec.{eqb}
use Rattle.std.proofs.lemmas.Iterator.{YieldsList-from_slice}
use Rattle.std.proofs.lemmas.Iterator.Search.{any_from_yields_List}
use Rattle.holders.specs.Walk.{listed}
use Rattle.holders.proofs.PassLaws.{has_any}
use Rattle.holders.proofs.list.Holders.has.Goals as goal

pub returns : goal.returns
returns c =
    any_from_yields_List (λ x. eqb c.args.voice x.voice) _ _ _ c.any.ensures.ran (YieldsList-from_slice (listed c.args.self.now) cc) (λ x b q k. search (rules, tests))
    ∙ has_any c.args.voice (listed c.args.self.now)
