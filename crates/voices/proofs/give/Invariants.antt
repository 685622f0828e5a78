-- The row's outcome is that of the cells passed, with their voices, and of the rest, by what the whole row holds; the masks tell it.
use lib.ListN.{length}
use Rattle.voices.proofs.GiveLaws.{Giving}
use Rattle.voices.proofs.give.Given as goal

abbrev pub invariant-loop-cell : goal.invariant-loop-cell
invariant-loop-cell l = Giving l.initial.cells l.cells l.masks (length l.initial.masks) l.cell-index
