-- The bytes up to the end are digits of one run.
use borrow.Author.Rules.{rules}
use Rattle.items.proofs.NextLaws.{digits_run}
use Rattle.items.proofs.digits_end.Goals as goal

pub returns : goal.returns
returns c =
    digits_run c.args.token.now c.args.from c.end_of.result c.end_of.ensures.on c.end_of.ensures.high c.requires.1
    (λ j l h. let t = c.end_of.ensures.taken j l h in search rules) (λ h. let t = c.end_of.ensures.stops h in search rules)
