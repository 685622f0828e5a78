-- A cell of 16 bits has few parts and voices.
use Rattle.std.proofs.Common.{sym, arith}
use Rattle.spines.proofs.TableLaws.{line_bounds}
use Rattle.spines.proofs.line_of.Goals as goal

pub overflow_cast-result : goal.overflow_cast-result
overflow_cast-result c = let b = line_bounds c.args.cell (omega arith) (sym c.in-Line.ensures) in omega (arith, b.0)

pub overflow_cast-result-in-Line : goal.overflow_cast-result-in-Line
overflow_cast-result-in-Line c = let b = line_bounds c.args.cell (omega arith) (sym c.in-Line.ensures) in omega (arith, b.1)

pub invariant_of-result : goal.invariant_of-result
invariant_of-result c = let b = line_bounds c.args.cell (omega arith) (sym c.in-Line.ensures) in record { room = omega (arith, b.0, b.1) }
