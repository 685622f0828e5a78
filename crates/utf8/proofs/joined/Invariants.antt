-- `joined`: where the joined bits are below 128, each byte so far is.
use Prim.Native.Nat.{ℕ, ◌+◌, ◌<◌}
use lib.ListN.{get_or}
use Rattle.utf8.proofs.joined.Given as goal

abbrev pub invariant-loop-b : goal.invariant-loop-b
invariant-loop-b g l = l.bits < 128 → (k : ℕ) → k < l.b-index → get_or l.s (l.i + k) 0 < 128
