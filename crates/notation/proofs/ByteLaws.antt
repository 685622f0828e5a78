-- What the searches of a token by std's methods find is what the definitions say.
use mathlib.Core.Path.{◌≡◌, refl, sym, ap}
use Prim.Native.Nat.{ℕ}
use mathlib.Core.List.{List, [], ◌∷◌}
use mathlib.Core.Bool.{Bool, true, false, cond, ◌&&◌, ◌||◌}
use lib.Dec.{eqb}
use lib.ListN.{drop, take}
use lib.Pointwise.{pointwise}
use Rattle.std.specs.List.{list_any, zip}
use Rattle.notation.specs.Bytes.{contains, contains_pair, trim_start}

-- a byte
pub any_contains : (b : ℕ) (s : List ℕ) → list_any (λ x. eqb x b) s ≡ contains b s
unfolding contains
any_contains b [] = refl
any_contains b (x ∷ s) = ap (λ t. eqb x b || t) (any_contains b s)

-- the same the other way round, as `using` takes it
pub found_contains : (b : ℕ) (s : List ℕ) → contains b s ≡ list_any (λ x. eqb x b) s
found_contains b s = sym (any_contains b s)

-- a pair of bytes: the list, and the list from its second byte on
pub any_pair : (a b : ℕ) (s : List ℕ) → list_any (λ p. eqb p.0 a && eqb p.1 b) (zip s (drop 1 s)) ≡ contains_pair a b s
unfolding contains_pair
any_pair a b [] = refl
any_pair a b (x ∷ []) = refl
any_pair a b (x ∷ y ∷ s) = ap (λ t. eqb x a && eqb y b || t) (any_pair a b (y ∷ s))

-- leading bytes
pub trim_on : (b : ℕ) (s : List ℕ) → pointwise eqb (take 1 s) (b ∷ []) ≡ true → trim_start b (drop 1 s) ≡ trim_start b s
unfolding trim_start
trim_on b [] e = refl
trim_on b (x ∷ s) e = go (eqb x b) e
  where
    go : (t : Bool) → (t && true) ≡ true → trim_start b s ≡ cond t (trim_start b s) (x ∷ s)
    go true e = refl
    go false e = cc

pub trim_end : (b : ℕ) (s : List ℕ) → pointwise eqb (take 1 s) (b ∷ []) ≡ false → s ≡ trim_start b s
unfolding trim_start
trim_end b [] e = refl
trim_end b (x ∷ s) e = go (eqb x b) e
  where
    go : (t : Bool) → (t && true) ≡ false → x ∷ s ≡ cond t (trim_start b s) (x ∷ s)
    go true e = cc
    go false e = refl
