-- A line begins `*` where its first token does; then the first k tokens, each tested.
use Rattle.std.proofs.Common.{rules, ◌∙◌, sym, ap}
use borrow.Author.Tests.{tests}
use Rattle.std.proofs.lemmas.Iterator.Search.{all_from_yields_List}
use Rattle.lines.proofs.ChainLaws.{YieldsList-from_tokens}
use Rattle.std.proofs.Common.{not}
use Rattle.std.proofs.lemmas.Iterator.{YieldsList-from_take}
use Rattle.lines.specs.Tokens.{is_star}
use Rattle.repair.proofs.EachLaws.{list_all_each, star_first}
use Rattle.repair.proofs.mixed.Goals as goal

pub returns-then-is_star : goal.returns-then-is_star
returns-then-is_star c =
    ap not (
    all_from_yields_List is_star _ _ _ c.all.ensures.ran
    (YieldsList-from_take c.args.k (YieldsList-from_tokens _ c.args.line.now (cc) (cc) (cc) (λ x b q k. search (rules, tests))) c.take.ensures.count)
    (λ x b q k. search (rules, tests))
    ∙ list_all_each is_star _
    )
    ∙ sym (rw (← star_first c.args.line.now, sym c.if-is_star.ensures))

pub returns-else-is_star : goal.returns-else-is_star
returns-else-is_star c = sym (rw (← star_first c.args.line.now, sym c.is_star.ensures ∙ c.if-is_star.false) (sym c.if-is_star.false))
