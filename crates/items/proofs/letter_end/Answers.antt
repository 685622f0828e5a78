-- The bytes up to the end are the letter of one run.
use mathlib.Core.Path.{refl}
use borrow.Author.Rules.{rules}
use lib.ListN.{get_or}
use Rattle.items.proofs.NextLaws.{letter_run}
use Rattle.items.proofs.letter_end.Goals as goal

pub returns : goal.returns
returns c =
    letter_run c.args.token.now c.args.from c.end_of.result c.end_of.ensures.on c.end_of.ensures.high (get_or c.args.token.now c.args.from 0) refl c.requires.1
    (λ j l h. let t = c.end_of.ensures.taken j l h in search rules) (λ h. let t = c.end_of.ensures.stops h in search rules)
