-- The text is cut at its first `/`.
use mathlib.Core.Path.{◌≡◌, ◌∙◌}
use borrow.Author.Rules.{rules}
use borrow.Author.Tests.{tests}
use lib.Dec.{eqb}
use Rattle.std.specs.List.{position}
use Rattle.std.proofs.lemmas.Iterator.{YieldsList-from_slice}
use Rattle.std.proofs.lemmas.Iterator.Search.{position_from_yields_List}
use Rattle.interpretation.proofs.Exits.{left, kept, found, unfound}
use Rattle.interpretation.proofs.MeterLaws.{uncut, cut}
use Rattle.interpretation.proofs.meter.meter_of.Goals as goal

pub returns-in_err-at : goal.returns-in_err-at
returns-in_err-at c =
    let s = c.args.s.now in
    let p : c.position.result ≡ position (λ x. eqb x 47) s = position_from_yields_List (λ x. eqb x 47) _ _ _ c.position.ensures.ran (YieldsList-from_slice s cc) (λ x t q k. search (rules, tests)) in
    let e = left _ c.ok_or.ensures.value c.in_err-at.was c.from_residual.ensures.1 in
    e.1 ∙ uncut s (unfound 47 s p e.0)

pub returns : goal.returns
returns c =
    let s = c.args.s.now in
    let p : c.position.result ≡ position (λ x. eqb x 47) s = position_from_yields_List (λ x. eqb x 47) _ _ _ c.position.ensures.ran (YieldsList-from_slice s cc) (λ x t q k. search (rules, tests)) in
    cut s (found 47 s p (kept _ _ c.ok_or.ensures.value c.in_ok-at.was)) c.without_plus.ensures c.meter_from.ensures
