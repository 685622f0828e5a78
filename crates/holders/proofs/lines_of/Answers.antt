-- The lines so far, and those of the tokens left, are those of the whole record.
use Rattle.std.proofs.Common.{sym, ◌∙◌, arith}
use Rattle.paths.proofs.TokenLaws.{join_same}
use Rattle.spines.specs.Table.{active_spine}
use Rattle.holders.specs.Walk.{listed}
use Rattle.holders.proofs.PassLaws.{lining_first, lining_turn, lining_past, step_carried, step_ended, step_other}
use Rattle.holders.proofs.lines_of.Goals as goal
use Rattle.holders.proofs.lines_of.Goals.{in-Some+then-carries, in-Some+else-carries, in_default}

pub loop-i-init : goal.loop-i-init
loop-i-init c = lining_first _ _ _ _ c.empty-held.ensures

pub loop-i-preserved : goal.loop-i-preserved
loop-i-preserved c =
    lining_turn c.loop-i.invariant c.loop-i-test.true c.token_at-token.ensures c.line_at.ensures
    (
    elim c.match-line_voice.branch [
      | in-Some+then-carries w ↦ rw w.held-is (w.push.ensures ∙ step_carried c.args.part c.args.header c.loop-i.i (listed c.loop-i.held) c.loop-i.follows c.token_at-token.result.kind (active_spine c.line_at.result) w.in-Some.ensures (sym w.carries.ensures ∙ w.if-carries.true))
      | in-Some+else-carries w ↦ rw w.held-is (step_ended c.args.part c.args.header c.loop-i.i (listed c.loop-i.held) c.loop-i.follows c.token_at-token.result.kind (active_spine c.line_at.result) (sym w.carries.ensures ∙ w.if-carries.false))
      | in_default w ↦ rw w.held-is (step_other c.args.part c.args.header c.loop-i.i (listed c.loop-i.held) c.loop-i.follows c.token_at-token.result.kind (active_spine c.line_at.result) (λ v e. w.in_default.not-Some v (c.line_voice.ensures ∙ e)))
    ]
    )
    (c.eq-follows.ensures ∙ join_same _)

pub returns : goal.returns
returns c = lining_past c.loop-i.invariant (omega arith)
