-- `spelled_value`: the text is cut at its first `%`.
use mathlib.Core.Path.{◌≡◌, sym, ◌∙◌}
use borrow.Author.Rules.{rules}
use borrow.Author.Tests.{tests}
use lib.Dec.{eqb}
use Rattle.std.specs.List.{position}
use Rattle.std.proofs.lemmas.Iterator.{YieldsList-from_slice}
use Rattle.std.proofs.lemmas.Iterator.Search.{position_from_yields_List}
use Rattle.duration.proofs.RatioExits.{spelled_ratio, spelled_plain}
use Rattle.duration.proofs.spelled_value.Goals as goal

pub returns-in-Some : goal.returns-in-Some
returns-in-Some c =
    let s = c.args.spelling.now in
    let p : c.position.result ≡ position (λ x. eqb x 37) s = position_from_yields_List (λ x. eqb x 37) _ _ _ c.position.ensures.ran (YieldsList-from_slice s cc) (λ x t q k. search (rules, tests)) in
    spelled_ratio s (sym p ∙ c.in-Some.is) c.ratio_value.ensures

pub returns-in-None : goal.returns-in-None
returns-in-None c =
    let s = c.args.spelling.now in
    let p : c.position.result ≡ position (λ x. eqb x 37) s = position_from_yields_List (λ x. eqb x 37) _ _ _ c.position.ensures.ran (YieldsList-from_slice s cc) (λ x t q k. search (rules, tests)) in
    c.kern_duration.ensures ∙ spelled_plain s (sym p ∙ c.in-None.is)
