-- Each token tested.
use Rattle.std.proofs.Common.{rules, ◌∙◌}
use borrow.Author.Tests.{tests}
use Rattle.std.proofs.lemmas.Iterator.Search.{all_from_yields_List}
use Rattle.lines.proofs.ChainLaws.{YieldsList-from_tokens}
use Rattle.repair.specs.Repair.{is_ordinary}
use Rattle.repair.proofs.EachLaws.{list_all_each}
use Rattle.repair.proofs.ordinary.Goals as goal

pub returns : goal.returns
returns c =
    all_from_yields_List is_ordinary _ _ _ c.all.ensures.ran
    (YieldsList-from_tokens _ c.args.line.now (cc) (cc) (cc) (λ x b q k. search (rules, tests)))
    (λ x b q k. search (rules, tests))
    ∙ list_all_each is_ordinary _
