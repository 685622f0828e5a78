-- The last BARs, the PARTs and END are laid one after another.
use Rattle.bars.proofs.EndLaws.{finish_out, finish_at_lem}
use Rattle.bars.proofs.finish.Goals as goal

pub returns : goal.returns
returns c = λ cells.
    let a = c.args in
    let g = c.close_last-at.ensures in
    let p = c.write_parts-at.ensures in
    let w = c.write.ensures in (
      finish_out a.parts.now c.close_last-at.new.parts a.out.now a.tally g.0 g.1.0 g.1.1 p.0 p.1 c.end_of.ensures w.0 w.1 cells,
      finish_at_lem a.parts.now c.close_last-at.new.parts a.out.now a.tally g.0 g.1.0 g.1.1 p.0 p.1 c.end_of.ensures w.0 w.1 cells,
    )
