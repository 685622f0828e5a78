-- The bytes before `end` are taken.
use Rattle.std.proofs.Common.{◌≡◌, ℕ, ◌+◌, ◌<◌, ◌≤◌, true, get_or}
use Rattle.items.proofs.end_of.Given as goal

abbrev pub invariant-loop-b : goal.invariant-loop-b
invariant-loop-b g l =
    (l.end ≡ l.from + l.b-index) × ((j : ℕ) → l.from ≤ j → j < l.end → goal.F-post g l.takes (get_or l.token j 0) true)
