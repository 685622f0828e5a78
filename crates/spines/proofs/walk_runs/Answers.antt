-- What is found from the token at hand on is what is found of the whole record.
use Rattle.std.proofs.Common.{◌∙◌, arith}
use Rattle.paths.proofs.TokenLaws.{join_same}
use Rattle.spines.proofs.RunLaws.{runs_first, begin_is, stray_yes, stray_alike, stray_none, runs_turn, runs_found, runs_kept, runs_past}
use Rattle.spines.proofs.walk_runs.Goals as goal
use Rattle.spines.proofs.walk_runs.Goals.{else-join-via-then-join+else-row-begin, else-join-via-else-join}

pub loop-i-init : goal.loop-i-init
loop-i-init c = runs_first

pub loop-i-preserved : goal.loop-i-preserved
loop-i-preserved c =
    runs_kept c.eq-join.result c.then_some-run.ensures (
    runs_turn c.loop-i.invariant c.loop-i-test.true c.token_at-token.ensures (c.eq-join.ensures ∙ join_same _) (c.unwrap_or-begin.ensures ∙ begin_is c.loop-i.run c.loop-i.i)
    (elim c.else-join.branch [
      | else-join-via-then-join+else-row-begin w ↦ stray_alike _ _ w.if-join.true w.if-row-begin.false
      | else-join-via-else-join w ↦ stray_none _ _ w.if-join.false
    ])
    )

pub returns-then-row-begin : goal.returns-then-row-begin
returns-then-row-begin c =
    runs_found c.loop-i.invariant c.loop-i-test.true c.token_at-token.ensures (c.eq-join.ensures ∙ join_same _) (c.unwrap_or-begin.ensures ∙ begin_is c.loop-i.run c.loop-i.i)
    (stray_yes _ _ c.if-join.true c.if-row-begin.true)

pub returns : goal.returns
returns c = runs_past c.loop-i.invariant (omega arith)
