-- The spines written, and the columns of the tokens left, make the first row, and each line written has voice 0.
use Rattle.std.specs.Prelude.{ℕ}
use lib.ListN.{length}
use Rattle.lines.specs.Tokens.{tokens_of}
use Rattle.spines.specs.Table.{active_at}
use Rattle.header.specs.Columns.{Voiced}
use Rattle.header.proofs.ColumnLaws.{Filling}
use Rattle.header.proofs.table_of.Given as goal

abbrev pub invariant-loop-i : goal.invariant-loop-i
invariant-loop-i l = Filling (tokens_of l.line) l.spines (length l.yielded) l.parts × ((k : ℕ) → Voiced (active_at l.spines k))
