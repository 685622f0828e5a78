-- The value that a reciprocal writes.
use Rattle.std.specs.Prelude.{ℕ, zero, suc, ◌+◌, ◌-◌, ◌*◌, ◌/◌, ◌%◌, ◌^◌, Bool, true, cond, ◌&&◌, List, [], ◌∷◌, eqb, leb, length, Option, Some, None}
use Rattle.slices.specs.Ascii.{ascii}
use Rattle.slices.specs.Compare.{same_bytes}
use Rattle.duration.specs.declared.Value.{Value}
use Rattle.duration.specs.declared.Value.TheVariants.{Plain, Tuplet}

abbrev pub digit : ℕ → Bool
digit x = leb 48 x && leb x 57

-- whether all bytes are digits
unfoldable pub digits : List ℕ → Bool
digits [] = true
digits (x ∷ xs) = digit x && digits xs

-- the number that digits write, read on after n
unfoldable pub number_from : ℕ → List ℕ → ℕ
number_from n [] = n
number_from n (x ∷ xs) = number_from (n * 10 + (x - 48)) xs

abbrev pub number : List ℕ → ℕ
number s = number_from 0 s

-- the number of a text, if all of it is digits
unfoldable pub number_of : List ℕ → Option ℕ
number_of s = cond (digits s) (Some (number s)) None

-- the exponent of "the largest power of two not above the reciprocal" n, of those up to 2 ^ k
unfoldable pub exponent_of : ℕ → ℕ → ℕ
exponent_of zero n = zero
exponent_of (suc k) n = cond (leb (2 ^ suc k) n) (suc k) (exponent_of k n)

-- the greatest common divisor by Euclid, in at most f steps
unfoldable pub gcd_in : ℕ → ℕ → ℕ → ℕ
gcd_in zero a b = a
gcd_in (suc f) a b = let rest = gcd_in f b (a % b) in cond (eqb b 0) a rest

abbrev pub gcd_of : ℕ → ℕ → ℕ
gcd_of a b = gcd_in b a b

-- "written value is the largest power of two not above the reciprocal, the rest a lowest-terms tuplet, none at 1 to 1"
unfoldable pub written_at : ℕ → ℕ → Value
written_at k n =
    cond (eqb n (2 ^ k)) (Plain (k + 2)) (Tuplet (k + 2) (n / gcd_of n (2 ^ k)) (2 ^ k / gcd_of n (2 ^ k)))

-- a whole note is value 2 and a 128th, the last, is 9
unfoldable pub written : ℕ → Value
written n = written_at (exponent_of 7 n) n

-- "1 to 4 digits worth 1 to 255"
unfoldable pub counts : List ℕ → Bool
counts s = digits s && leb 1 (length s) && leb (length s) 4 && leb 1 (number s) && leb (number s) 255

-- "A reciprocal has a value exactly for `0` (breve), `00` (longa), or 1 to 4 digits worth 1 to 255"
unfoldable pub duration_of : List ℕ → Option Value
duration_of s =
    cond (same_bytes (ascii "0") s) (Some (Plain 1))
    (cond (same_bytes (ascii "00") s) (Some (Plain 0))
    (cond (counts s) (Some (written (number s))) None))
