-- What the ten values come to is what those below v come to.
use Rattle.std.proofs.Common.{◌≡◌, ◌-◌, ◌≤◌}
use Rattle.duration.specs.Ratio.{smallest_of}
use Rattle.duration.proofs.smallest.Given as goal

abbrev pub invariant-loop-v : goal.invariant-loop-v
invariant-loop-v l = (1 ≤ l.v) × (l.v ≤ 10) × (smallest_of 9 l.n l.m ≡ smallest_of (l.v - 1) l.n l.m)
