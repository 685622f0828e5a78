-- `find`: no b stands before i.
use mathlib.Core.Path.{◌≡◌}
use Prim.Native.Nat.{◌+◌}
use lib.ListN.{drop}
use Rattle.slices.specs.Split.{index_of}
use Rattle.slices.proofs.find.Given as goal

abbrev pub invariant-loop-i : goal.invariant-loop-i
invariant-loop-i l = index_of l.b l.s ≡ l.i + index_of l.b (drop l.i l.s)
