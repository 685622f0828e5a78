-- Each token held to the first.
use Rattle.std.proofs.Common.{rules, ◌∙◌}
use borrow.Author.Tests.{tests}
use Rattle.std.proofs.lemmas.Iterator.Search.{all_from_yields_List}
use Rattle.lines.proofs.ChainLaws.{YieldsList-from_tokens}
use Rattle.slices.specs.Compare.{same_bytes}
use Rattle.repair.proofs.EachLaws.{list_all_each}
use Rattle.repair.proofs.alike.Goals as goal

pub returns : goal.returns
returns c =
    all_from_yields_List (same_bytes c.args.first.now) _ _ _ c.all.ensures.ran
    (YieldsList-from_tokens _ c.args.line.now (cc) (cc) (cc) (λ x b q k. search (rules, tests)))
    (λ x b q k. search (rules, tests))
    ∙ list_all_each (same_bytes c.args.first.now) _
