-- The barlines of the deciding token close.
use Rattle.bars.proofs.CloseLaws.{read_told}
use Rattle.bars.proofs.read_bar.Goals as goal

pub returns : goal.returns
returns c = record {
  told = λ offset.
      let a = c.args in
      read_told a.line.now a.row.now a.parts.now a.out.now a.tally a.tally.at offset c.deciding.ensures c.kern_barline-sides.ensures c.from.ensures c.from-2.ensures (c.close_with.ensures.told a.row.now);
  kept = c.close_with.ensures.kept;
}
