-- The table's rule, one test that is computed at every number of a byte.
use mathlib.Core.List.{[]}
use Prim.Native.Nat.{ℕ, ◌<◌}
use mathlib.Core.Bool.{Bool, not, ◌&&◌, cond}
use lib.Dec.{T, ltb}
use Rattle.slices.specs.Compare.{same_bytes, begins_with}
use Rattle.slices.specs.Finite.{all, below}
use Rattle.slices.specs.Ascii.{ascii}
use Rattle.notice.specs.Table.{table, code_of, reason_of}

-- the notices are 1 to 21: each has a code begun `humdrum.` and a reason, any other number has neither
abbrev pub spelled_out : ℕ → Bool
spelled_out n =
    cond (ltb 0 n && ltb n 22) (begins_with (ascii "humdrum.") (code_of n) && not (same_bytes [] (reason_of n)))
    (same_bytes [] (code_of n) && same_bytes [] (reason_of n))

holds : T (all spelled_out 256)
unfolding same_bytes begins_with table
holds = tt

-- the rule at every number
pub listed : (n : ℕ) → n < 256 → T (spelled_out n)
listed n h = below spelled_out 256 holds n h
