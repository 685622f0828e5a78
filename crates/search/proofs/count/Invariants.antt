-- `count`: n bytes b stand in the parts so far.
use mathlib.Core.Path.{◌≡◌}
use Prim.Native.Nat.{◌*◌}
use lib.ListN.{take}
use Rattle.std.specs.List.{count_by}
use lib.Dec.{eqb}
use Rattle.search.proofs.count.Given as goal

abbrev pub invariant-loop-part : goal.invariant-loop-part
invariant-loop-part l = l.n ≡ count_by (λ x. eqb x l.b) (take (255 * l.part-index) l.s)
