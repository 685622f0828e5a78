-- The text is cut at its first point.
use mathlib.Core.Path.{◌≡◌}
use borrow.Author.Rules.{rules}
use borrow.Author.Tests.{tests}
use lib.Dec.{eqb}
use Rattle.std.specs.List.{position}
use Rattle.std.proofs.lemmas.Iterator.{YieldsList-from_slice}
use Rattle.std.proofs.lemmas.Iterator.Search.{position_from_yields_List}
use Rattle.interpretation.proofs.Exits.{found, unfound}
use Rattle.interpretation.proofs.TempoLaws.{tempo_cut, tempo_whole}
use Rattle.interpretation.proofs.tempo.tempo_of.Goals as goal

pub returns-in-Some : goal.returns-in-Some
returns-in-Some c =
    let s = c.args.s.now in
    let p : c.position.result ≡ position (λ x. eqb x 46) s = position_from_yields_List (λ x. eqb x 46) _ _ _ c.position.ensures.ran (YieldsList-from_slice s cc) (λ x t q k. search (rules, tests)) in
    tempo_cut s (found 46 s p c.in-Some.is) c.tempo_from.ensures

pub returns-in-None : goal.returns-in-None
returns-in-None c =
    let s = c.args.s.now in
    let p : c.position.result ≡ position (λ x. eqb x 46) s = position_from_yields_List (λ x. eqb x 46) _ _ _ c.position.ensures.ran (YieldsList-from_slice s cc) (λ x t q k. search (rules, tests)) in
    tempo_whole s (unfound 46 s p c.in-None.is) c.tempo_from-in-None.ensures
