use Prim.Native.Nat.{◌+◌, ◌-◌}
use lib.ListN.{length}
use Rattle.reader.proofs.LoopLaws.{Reading}
use Rattle.reader.proofs.read_lines.Given as goal

abbrev pub invariant-loop-line : goal.invariant-loop-line
invariant-loop-line l = Reading l.text.bytes.now l.initial.out l.rows.row l.parts l.out l.place.at l.place.line l.begun l.tally

abbrev pub decreases-loop-line : goal.decreases-loop-line
decreases-loop-line l = length l.text.bytes.now + 1 - l.place.at
