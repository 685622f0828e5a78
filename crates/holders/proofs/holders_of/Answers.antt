-- The lines, then the branches, of the row.
use Rattle.holders.proofs.TableLaws.{walked_lines}
use Rattle.holders.proofs.holders_of.Goals as goal

pub returns : goal.returns
returns c = walked_lines c.args.part c.args.header c.args.line.now c.args.row.now c.lines_of-lines.ensures c.branches_of.ensures
