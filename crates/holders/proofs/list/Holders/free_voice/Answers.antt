-- The first of the four voices that none of them has.
use Rattle.std.proofs.Common.{◌≡◌, true, false, rules}
use borrow.Author.Tests.{tests}
use Rattle.std.proofs.lemmas.Iterator.{first_from_Range}
use Rattle.voices.proofs.MaskLaws.{lowest_found}
use Rattle.holders.specs.Voice.{has}
use Rattle.holders.specs.Walk.{listed}
use Rattle.holders.proofs.list.Holders.free_voice.Goals as goal

pub returns : goal.returns
returns c =
    lowest_found (λ v. has v (listed c.args.self.now)) c.find.result (
    first_from_Range (record { start = 0; end = 4 }) _ _ c.find.result (λ v. has v (listed c.args.self.now) ≡ false) (λ v. has v (listed c.args.self.now) ≡ true) c.find.ensures.ran
    (λ x q k. search (rules, tests)) (λ x q k. search (rules, tests))
    )
