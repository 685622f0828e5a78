-- Bytes sought in a token.
use Rattle.std.specs.Prelude.{ℕ, List, [], ◌∷◌, Bool, false, cond, ◌&&◌, ◌||◌, eqb}

-- whether the byte b stands anywhere
unfoldable pub contains : ℕ → List ℕ → Bool
contains b [] = false
contains b (x ∷ xs) = eqb x b || contains b xs

-- whether the byte a stands directly before the byte b anywhere
unfoldable pub contains_pair : ℕ → ℕ → List ℕ → Bool
contains_pair a b [] = false
contains_pair a b (x ∷ []) = false
contains_pair a b (x ∷ y ∷ xs) = eqb x a && eqb y b || contains_pair a b (y ∷ xs)

-- what is left without the bytes b that a list begins with
unfoldable pub trim_start : ℕ → List ℕ → List ℕ
trim_start b [] = []
trim_start b (x ∷ xs) = cond (eqb x b) (trim_start b xs) (x ∷ xs)
