-- What was left before the stretch is what is left from column to column.
use Rattle.std.specs.Prelude.{◌≡◌}
use Prim.Native.Nat.{◌+◌}
use Rattle.data.specs.Stretch.{counts_at}
use Rattle.data.proofs.DataLaws.{Reading}
use Rattle.data.proofs.StretchLaws.{whole_rest}
use Rattle.data.proofs.read_stretch.Given as goal

abbrev pub invariant-loop-cell : goal.invariant-loop-cell
invariant-loop-cell l = (l.index ≡ l.first + l.cell-index)
    × Reading (whole_rest l.line.bytes.now l.row l.initial.parts l.initial.out l.tally l.line.number l.line.offset l.begin l.first) l.line.bytes.now l.row l.initial.parts l.initial.out l.tally l.line.number l.line.offset l.parts l.out (counts_at l.tally l.notes l.at) l.from l.index
