-- The entries filled are those of the cells passed.
use Rattle.std.proofs.Common.{arith}
use Rattle.spines.proofs.TableLaws.{filled_first, filled_turn}
use Rattle.spines.proofs.fill_table.Goals as goal

pub loop-i-init : goal.loop-i-init
loop-i-init c = filled_first c.args.row.now c.args.spines.now

pub loop-i-preserved : goal.loop-i-preserved
loop-i-preserved c = filled_turn c.args.row.now c.loop-i.spines c.line_of.result c.loop-i.invariant (omega arith) (omega arith) c.line_of.ensures
