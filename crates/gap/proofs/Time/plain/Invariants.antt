-- What the values from v on give is what all give.
use Prim.Native.Nat.{◌-◌}
use Rattle.gap.specs.Values.{plain_by}
use Rattle.gap.proofs.SearchLaws.{Search}
use Rattle.gap.proofs.Time.plain.Given as goal

abbrev pub invariant-loop-value : goal.invariant-loop-value
invariant-loop-value l = Search (plain_by l.fn.self.divisions l.fn.self.ticks) l.value

abbrev pub decreases-loop-value : goal.decreases-loop-value
decreases-loop-value l = 10 - l.value
