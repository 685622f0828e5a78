-- The first of the four voices that isn't held.
use Rattle.std.proofs.Common.{◌≡◌, true, false, rules}
use borrow.Author.Tests.{tests}
use Rattle.std.proofs.lemmas.Iterator.{first_from_Range}
use Rattle.voices.specs.Mask.{bit}
use Rattle.voices.proofs.MaskLaws.{lowest_found}
use Rattle.voices.proofs.lowest_free.Goals as goal

pub returns : goal.returns
returns c =
    lowest_found (bit c.args.mask) c.find.result (
    first_from_Range (record { start = 0; end = 4 }) _ _ c.find.result (λ v. bit c.args.mask v ≡ false) (λ v. bit c.args.mask v ≡ true) c.find.ensures.ran
    (λ x q k. search (rules, tests)) (λ x q k. search (rules, tests))
    )
