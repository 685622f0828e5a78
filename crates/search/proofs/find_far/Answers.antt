-- The first bytes one by one, at most 40; then the search in blocks.
use native.Mathlib.Omega.{arith}
use Rattle.search.proofs.BlockLaws.{far_early, far_late}
use Rattle.search.proofs.find_far.Goals as goal

pub returns-then-i-near : goal.returns-then-i-near
returns-then-i-near c = far_early c.args.b c.min-near.result c.args.s.now (omega (arith, c.min-near.ensures)) c.find-i.ensures c.if-i-near.true

pub returns-else-i-near : goal.returns-else-i-near
returns-else-i-near c = far_late c.args.b c.min-near.result c.args.s.now (omega (arith, c.min-near.ensures)) c.find-i.ensures c.if-i-near.false c.find_from.ensures
