-- A letter, and nothing but signs behind its run.
use Rattle.std.proofs.Common.{rules}
use Rattle.peers.proofs.OfferLaws.{bare_none, bare_some}
use Rattle.peers.proofs.is_bare.Goals as goal

pub returns-in_default : goal.returns-in_default
returns-in_default c = bare_none c.args.token.now c.in_default.ensures.value

pub returns-then-is_letter : goal.returns-then-is_letter
returns-then-is_letter c =
    let e = bare_some c.args.token.now _ c.in-Some.ensures.value in
    search rules

pub returns-else-is_letter : goal.returns-else-is_letter
returns-else-is_letter c =
    let e = bare_some c.args.token.now _ c.in-Some.ensures.value in
    search rules
