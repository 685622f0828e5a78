-- `lacks`: where none was met, none of the bytes so far is b.
use mathlib.Core.Path.{◌≡◌}
use mathlib.Core.Bool.{false}
use lib.ListN.{take}
use lib.Dec.{eqb}
use Rattle.std.specs.List.{count_by}
use Rattle.search.proofs.lacks.Given as goal

abbrev pub invariant-loop-x : goal.invariant-loop-x
invariant-loop-x g l = l.met ≡ false → count_by (λ x. eqb x l.b) (take l.x-index l.block) ≡ 0
