-- The masks of the cells passed are clear.
use lib.ListN.{length}
use Rattle.voices.proofs.MaskLaws.{Clearing}
use Rattle.voices.proofs.clear.Given as goal

abbrev pub invariant-loop-cell : goal.invariant-loop-cell
invariant-loop-cell l = Clearing l.cells l.masks (length l.initial.masks) l.cell-index
