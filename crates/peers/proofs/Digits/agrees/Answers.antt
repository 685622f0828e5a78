-- The length, and what is behind it.
use Rattle.std.proofs.Common.{rules}
use Rattle.peers.proofs.AgreeLaws.{agree_other, agree_short, agree_last}
use Rattle.peers.proofs.Digits.agrees.Goals as goal

pub returns-in_default : goal.returns-in_default
returns-in_default c = agree_other c.args.token.now c.args.self.now.offered c.in_default.ensures.cases

pub returns-in_default-first : goal.returns-in_default-first
returns-in_default-first c = agree_short c.args.token.now c.args.self.now.offered _ c.in-Some.ensures.cases.2 c.in_default-first.ensures.value

pub returns-then-not-is_digit : goal.returns-then-not-is_digit
returns-then-not-is_digit c =
    let d = c.in-Some.ensures.cases in
    let e = agree_last c.args.token.now c.args.self.now.offered d.0 _ d.1 d.2 c.in-Some-first.ensures.value in
    search rules

pub returns-else-not-is_digit : goal.returns-else-not-is_digit
returns-else-not-is_digit c =
    let d = c.in-Some.ensures.cases in
    let e = agree_last c.args.token.now c.args.self.now.offered d.0 _ d.1 d.2 c.in-Some-first.ensures.value in
    search rules
