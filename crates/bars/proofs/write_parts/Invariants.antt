-- The PARTs of the parts so far are laid.
use Rattle.std.proofs.Common.{map}
use Rattle.reading.specs.Text.{part_record}
use Rattle.bars.proofs.LoopLaws.{Laid, given}
use Rattle.bars.proofs.write_parts.Given as goal

abbrev pub invariant-loop-part : goal.invariant-loop-part
invariant-loop-part l = Laid (map part_record (given l.yielded)) l.initial.out l.out l.at l.k
