-- The last closing, where a note came since the one before.
use Rattle.bars.proofs.EndLaws.{last_closed, last_same}
use Rattle.bars.proofs.close_last.Goals as goal

pub returns-then-any_noted : goal.returns-then-any_noted
returns-then-any_noted c = let g = c.close.ensures in
    last_closed c.args.parts.now c.args.out.now c.args.tally c.any_noted.ensures _ c.if-any_noted.true g.0 g.1.0 g.1.1

pub returns : goal.returns
returns c = last_same c.args.parts.now c.args.out.now c.args.tally c.any_noted.ensures c.if-any_noted.false
