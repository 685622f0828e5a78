-- The bytes of some pieces together: those of a text, but for the bytes that it is cut at.
use mathlib.Core.Path.{ap}
use Prim.Native.Nat.{ℕ, zero, suc, ◌+◌, ◌≤◌}
use native.Mathlib.Omega.{arith}
use mathlib.Core.List.{List, [], ◌∷◌}
use mathlib.Core.Bool.{Bool, true, false}
use lib.Dec.{eqb}
use lib.ListN.{length, take}
use Rattle.slices.specs.Split.{join, split}
use Rattle.slices.proofs.SplitLaws.{first_piece}

unfoldable pub total : List (List ℕ) → ℕ
total [] = 0
total (p ∷ ps) = length p + total ps

join_total : (t : Bool) (x n : ℕ) (ps : List (List ℕ)) → total ps + length ps ≤ n + 1 → total (join t x ps) + length (join t x ps) ≤ n + 2
unfolding total join
join_total true x n ps h = omega arith
join_total false x n [] h = omega arith
join_total false x n (p ∷ ps) h = omega arith

-- each piece with the byte behind it
pub split_total : (b : ℕ) (s : List ℕ) → total (split b s) + length (split b s) ≤ length s + 1
unfolding total split
split_total b [] = omega arith
split_total b (x ∷ s) = omega (arith, join_total (eqb x b) x (length s) (split b s) (split_total b s))

-- the pieces alone
pub pieces_total : (b : ℕ) (s : List ℕ) → total (split b s) ≤ length s
pieces_total b s = omega (arith, split_total b s, ap length (first_piece b s))

pub take_total : (n : ℕ) (ps : List (List ℕ)) → total (take n ps) ≤ total ps
unfolding total
take_total zero ps = omega arith
take_total (suc n) [] = omega arith
take_total (suc n) (p ∷ ps) = omega (arith, take_total n ps)
