-- The parts before the index are closed, and their BARs are laid.
use Rattle.std.proofs.Common.{map, take}
use Rattle.reading.specs.Bars.{closed_part}
use Rattle.bars.specs.Bars.{bar_record}
use Rattle.bars.proofs.LoopLaws.{Marched, Laid}
use Rattle.bars.proofs.close.Given as goal

abbrev pub invariant-loop-part : goal.invariant-loop-part
invariant-loop-part l = Marched (closed_part l.right l.left l.number) l.initial.parts l.parts l.part-index
    × Laid (map (bar_record l.right l.number) (take l.part-index l.initial.parts)) l.initial.out l.out l.at l.k
