-- The bytes up to the end are unknown marks.
use borrow.Author.Rules.{rules}
use Rattle.scan.proofs.UnknownLaws.{unknowns_to}
use Rattle.scan.proofs.unknown_end.Goals as goal

pub returns : goal.returns
returns c = unknowns_to c.requires.1 c.end_of.ensures.on c.end_of.ensures.high (λ j l h. let t = c.end_of.ensures.taken j l h in search rules)
