-- The branches so far, and those of the tokens left, are those of the whole record.
use Rattle.std.proofs.Common.{sym, arith, rules}
use borrow.Author.Tests.{tests}
use Rattle.holders.proofs.PassLaws.{branching_first, branching_on, branching_turn, branching_done, branching_past}
use Rattle.holders.proofs.branches_of.Goals as goal

pub loop-i-init : goal.loop-i-init
loop-i-init c = branching_first _ _ _ _

pub loop-i-preserved-then-not-is_branch : goal.loop-i-preserved-then-not-is_branch
loop-i-preserved-then-not-is_branch c = branching_on c.loop-i.invariant c.loop-i-test.true c.token_at-token.ensures c.line_at.ensures c.is_branch.ensures c.if-not-is_branch.true

pub returns-then-is_none : goal.returns-then-is_none
returns-then-is_none c =
    branching_done c.loop-i.invariant c.loop-i-test.true c.token_at-token.ensures c.line_at.ensures c.is_branch.ensures c.free_voice-voice.result c.if-not-is_branch.false c.free_voice-voice.ensures
    (rw (sym c.unwrap_or.ensures) c.push.ensures) (search (rules, tests))

pub loop-i-preserved : goal.loop-i-preserved
loop-i-preserved c =
    branching_turn c.loop-i.invariant c.loop-i-test.true c.token_at-token.ensures c.line_at.ensures c.is_branch.ensures c.free_voice-voice.result c.if-not-is_branch.false c.free_voice-voice.ensures
    (rw (sym c.unwrap_or.ensures) c.push.ensures) (search (rules, tests))

pub returns : goal.returns
returns c = branching_past c.loop-i.invariant (omega arith)
