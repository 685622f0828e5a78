-- Of the tokens that are `**kern`, with their numbers, the one that is asked for.
use Prim.Native.Nat.{ℕ}
use mathlib.Core.Path.{ap, ◌∙◌}
use mathlib.Core.List.{List}
use Rattle.std.proofs.Common.{rules, Some, None}
use borrow.Author.Tests.{tests}
use Rattle.std.proofs.lemmas.Iterator.Consumers.{nth_from_yields_List, YieldsList-from_filter, YieldsList-from_enumerate, YieldsList-at}
use Rattle.lines.proofs.ChainLaws.{YieldsList-from_tokens}
use Rattle.lines.specs.Tokens.{tokens_of, is_kern}
use Rattle.holders.specs.Walk.{or_zero}
use Rattle.holders.proofs.PassLaws.{kern_found}
use Rattle.holders.proofs.kern_column.Goals as goal

pub returns-in_err-before-clause-number : goal.returns-in_err-before-clause-number
returns-in_err-before-clause-number c =
    let n = nth_from_yields_List c.nth.result _ c.args.part c.nth.ensures.ran
    (YieldsList-from_filter _ (λ (p : ℕ × List ℕ). is_kern p.1)
    (YieldsList-at c.filter.ensures.source (YieldsList-from_enumerate (YieldsList-at c.enumerate-tokens.ensures.source (YieldsList-from_tokens _ c.args.line.now (cc) (cc) (cc) (λ x b q k. search (rules, tests)))) (cc)))
    (cc) (λ x b q k. search (rules, tests))) in
    ap or_zero c.from_residual.ensures ∙ kern_found _ c.args.part (tokens_of c.args.line.now) None c.in_err-before.was n

pub returns-clause-number : goal.returns-clause-number
returns-clause-number c =
    let n = nth_from_yields_List c.nth.result _ c.args.part c.nth.ensures.ran
    (YieldsList-from_filter _ (λ (p : ℕ × List ℕ). is_kern p.1)
    (YieldsList-at c.filter.ensures.source (YieldsList-from_enumerate (YieldsList-at c.enumerate-tokens.ensures.source (YieldsList-from_tokens _ c.args.line.now (cc) (cc) (cc) (λ x b q k. search (rules, tests)))) (cc)))
    (cc) (λ x b q k. search (rules, tests))) in
    kern_found _ c.args.part (tokens_of c.args.line.now) (Some (c.in_ok-before.before, c.in_ok-before.field-0-1)) c.in_ok-before.was n
