-- What the whole record comes to is what is left from stretch to stretch.
use Prim.Native.Nat.{◌-◌}
use lib.ListN.{length}
use Rattle.data.specs.Agreed.{Agreed}
use Rattle.data.proofs.DataLaws.{Reading, whole_data}
use Rattle.data.proofs.read_data.Given as goal

abbrev pub invariant-loop-agreed : goal.invariant-loop-agreed
invariant-loop-agreed l = Reading (whole_data l.line.bytes.now l.row l.initial.parts l.initial.out l.initial.t l.line.number l.line.offset) l.line.bytes.now l.row l.initial.parts l.initial.out l.initial.t l.line.number l.line.offset l.parts l.out l.t l.from l.index
    × Agreed l.line.bytes.now l.row l.agreed

abbrev pub decreases-loop-agreed : goal.decreases-loop-agreed
decreases-loop-agreed l = length l.row - l.index
