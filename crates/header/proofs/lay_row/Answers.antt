-- The cells written are those of the spines passed.
use Rattle.std.proofs.Common.{arith}
use Rattle.header.proofs.ColumnLaws.{laying_turn}
use Rattle.header.proofs.lay_row.Goals as goal

pub loop-i-preserved : goal.loop-i-preserved
loop-i-preserved c = laying_turn c.args.table.now c.loop-i.row c.loop-i.invariant (omega (arith, c.loop-i.auto.row, c.loop-i-test.true)) (omega (arith, c.loop-i.auto.row, c.requires)) c.cell_at.ensures
