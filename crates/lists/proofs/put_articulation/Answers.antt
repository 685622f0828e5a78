-- None or one byte is stored.
use mathlib.Core.Path.{sym}
use native.Mathlib.Omega.{arith}
use Rattle.lists.proofs.FillLaws.{none_put, one_put, one_room}
use Rattle.lists.proofs.ByteLaws.{is_articulation, no_articulation}
use Rattle.lists.proofs.put_articulation.Goals as goal

pub bounds-out-k : goal.bounds-out-k
bounds-out-k c = one_room (is_articulation _ c.in-Some.ensures.0 c.in-Some.ensures.1) c.requires

pub returns-in-Some : goal.returns-in-Some
returns-in-Some c = one_put _ _ (is_articulation _ c.in-Some.ensures.0 c.in-Some.ensures.1)

pub returns-in-None : goal.returns-in-None
returns-in-None c = none_put _ _ (no_articulation _ (sym c.in-None.ensures) (omega arith))
