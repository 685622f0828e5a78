-- The value that a length writes, spelled as a reciprocal n or as a ratio n%m.
use Rattle.std.specs.Prelude.{ℕ, zero, suc, ◌*◌, ◌/◌, ◌^◌, Bool, true, false, cond, ◌&&◌, List, [], ◌∷◌, eqb, leb, Option, Some, None}
use Rattle.duration.specs.Duration.{gcd_of, number, counts, duration_of}
use Rattle.duration.specs.Length.{Fraction, ◌over◌}
use Rattle.duration.specs.Reciprocal.{decimal, reciprocal_length}
use Rattle.duration.specs.declared.Value.{Value}
use Rattle.duration.specs.declared.Value.TheVariants.{Plain, Tuplet}

-- "the smallest of the ten that is not below m/n", of those up to k: value v is 4 over 2 ^ v
unfoldable pub smallest_of : ℕ → ℕ → ℕ → ℕ
smallest_of zero n m = zero
smallest_of (suc k) n m = cond (leb (m * 2 ^ suc k) (4 * n)) (suc k) (smallest_of k n m)

-- "with normal to actual in lowest terms", b to a, none at 1 to 1; no value where it "doesn't fit a u8"
unfoldable pub reduced_at : ℕ → ℕ → ℕ → ℕ → Option Value
reduced_at v a b g = cond (eqb a b) (Some (Plain v)) (cond (leb (a / g) 255) (Some (Tuplet v (a / g) (b / g))) None)

unfoldable pub ratio_at : ℕ → ℕ → ℕ → Option Value
ratio_at v n m = reduced_at v (4 * n) (m * 2 ^ v) (gcd_of (4 * n) (m * 2 ^ v))

-- "A ratio above 4 .. gives notice 19"
unfoldable pub ratio_of : ℕ → ℕ → Option Value
ratio_of n m = cond (leb m (4 * n)) (ratio_at (smallest_of 9 n m) n m) None

-- "n and m each 1 to 4 digits worth 1 to 255"
unfoldable pub ratio_value : List ℕ → List ℕ → Option Value
ratio_value n m = cond (counts n && counts m) (ratio_of (number n) (number m)) None

-- their number, if they count
unfoldable pub counted_by : List ℕ → Option ℕ
counted_by s = cond (counts s) (Some (number s)) None

-- ---- as it is spelled: whether a `%` stands in it, the bytes before the first one, and those behind it
unfoldable pub is_ratio : List ℕ → Bool
is_ratio [] = false
is_ratio (x ∷ xs) = cond (eqb x 37) true (is_ratio xs)

unfoldable pub before_percent : List ℕ → List ℕ
before_percent [] = []
before_percent (x ∷ xs) = cond (eqb x 37) [] (x ∷ before_percent xs)

unfoldable pub behind_percent : List ℕ → List ℕ
behind_percent [] = []
behind_percent (x ∷ xs) = cond (eqb x 37) xs (behind_percent xs)

-- the value of a length
unfoldable pub spelled_value : List ℕ → Option Value
spelled_value s = cond (is_ratio s) (ratio_value (before_percent s) (behind_percent s)) (duration_of s)

-- ---- what the text says of it, straight from its digits: "n%m lasts m/n"
unfoldable pub spelled_length : List ℕ → Fraction
spelled_length s = cond (is_ratio s) (decimal (behind_percent s) over decimal (before_percent s)) (reciprocal_length s)
