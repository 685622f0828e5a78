-- A piece of a list at an offset, where the list ends before it.
use mathlib.Core.Path.{◌≡◌, sym, ap, ◌∙◌}
use Prim.Native.Nat.{ℕ, suc, ◌-◌, ◌≤◌, ◌<◌}
use native.Mathlib.Omega.{arith}
use mathlib.Core.List.{List, [], ◌∷◌, ◌++◌}
use lib.ListN.{length, take, drop, get_or, length-drop}
use lib.Seq.{take_all, take-suc}

-- the part of a slice from an index on
pub rest : (s : List ℕ) (from : ℕ) → take (length s - from) (drop from s) ≡ drop from s
rest s from = take_all (length s - from) (drop from s) (omega (arith, length-drop from s))

-- the last of the first n
pub last_at : (s : List ℕ) (n : ℕ) → 0 < n → n ≤ length s → take n s ≡ take (n - 1) s ++ (get_or s (n - 1) 0 ∷ [])
last_at s n h high =
    let e : suc (n - 1) ≡ n = omega arith in
    ap (λ (k : ℕ). take k s) (sym e) ∙ take-suc s (n - 1) 0 (omega arith)
