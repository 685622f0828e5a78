-- The masks tell the voices of the lines passed.
use lib.ListN.{length}
use Rattle.voices.proofs.MaskLaws.{Marking}
use Rattle.voices.proofs.mark.Given as goal

abbrev pub invariant-loop-cell : goal.invariant-loop-cell
invariant-loop-cell l = Marking l.cells l.masks (length l.initial.masks) l.cell-index
