-- What is written, and what the machine has still to give from the token at hand, make the next row.
use Rattle.std.proofs.Common.{ℕ, arith, ap, ◌∙◌, Option, unwrap_or, get_or}
use Rattle.paths.proofs.TokenLaws.{exchange_same}
use Rattle.spines.proofs.WalkLaws.{loop_first, loop_turn, loop_past}
use Rattle.spines.proofs.walk_row.Goals as goal

pub loop-i-init : goal.loop-i-init
loop-i-init c = loop_first c.requires c.token_at-token.ensures

pub loop-i-preserved : goal.loop-i-preserved
loop-i-preserved c =
    loop_turn c.loop-i.invariant c.loop-i-test.true c.token_at-ahead.ensures (c.eq.ensures ∙ exchange_same _)
    (
    c.unwrap_or-d.ensures ∙ ap (λ (o : Option ℕ). unwrap_or o (get_or c.args.row.now c.loop-i.i 0)) c.copied.ensures
    ∙ c.get.ensures.lookup.4 (omega arith) (get_or c.args.row.now c.loop-i.i 0)
    )
    c.emit-e.ensures

pub returns-clause-made : goal.returns-clause-made
returns-clause-made c = (loop_past c.loop-i.invariant (omega arith)).0
