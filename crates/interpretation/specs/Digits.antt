-- Decimal digits.
use Rattle.std.specs.Prelude.{ℕ, ◌+◌, ◌-◌, ◌*◌, Bool, true, ◌&&◌, List, [], ◌∷◌, leb}

-- `0` to `9`
unfoldable pub is_digit : ℕ → Bool
is_digit x = leb 48 x && leb x 57

-- a text of nothing but digits
unfoldable pub all_digits : List ℕ → Bool
all_digits [] = true
all_digits (x ∷ xs) = is_digit x && all_digits xs

-- the number of which n has been written when the digits xs follow
unfoldable pub decimal_on : ℕ → List ℕ → ℕ
decimal_on n [] = n
decimal_on n (x ∷ xs) = decimal_on (n * 10 + (x - 48)) xs

-- the number that digits write, however many
unfoldable pub decimal : List ℕ → ℕ
decimal xs = decimal_on 0 xs
