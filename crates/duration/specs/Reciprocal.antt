-- The **kern reference's account of durations, straight from the digits.
use Rattle.std.specs.Prelude.{ℕ, zero, suc, ◌+◌, ◌-◌, ◌*◌, ◌^◌, cond, List, [], ◌∷◌, length}
use Rattle.slices.specs.Ascii.{ascii}
use Rattle.slices.specs.Compare.{same_bytes}
use Rattle.duration.specs.Length.{Fraction, ◌over◌}

-- the number that decimal digits write, each worth ten times the one to its right
unfoldable pub decimal : List ℕ → ℕ
decimal [] = 0
decimal (x ∷ xs) = (x - 48) * 10 ^ length xs + decimal xs

-- "n is 1/n of a whole note"; "`0` is the breve (two whole notes), `00` the longa (four)"
unfoldable pub reciprocal_length : List ℕ → Fraction
reciprocal_length s =
    cond (same_bytes (ascii "0") s) (2 over 1)
    (cond (same_bytes (ascii "00") s) (4 over 1)
    (1 over decimal s))

abbrev pub half : Fraction → Fraction
half f = f.numerator over (f.denominator * 2)

infixl 40 ◌plus◌
abbrev pub ◌plus◌ : Fraction → Fraction → Fraction
f plus g = (f.numerator * g.denominator + g.numerator * f.denominator) over (f.denominator * g.denominator)

-- what the last of d dots adds: "half of what the one before it added", the first half of the note itself
unfoldable pub added : ℕ → Fraction → Fraction
added zero f = f
added (suc d) f = half (added d f)

-- a length with d dots
unfoldable pub dotted : ℕ → Fraction → Fraction
dotted zero f = f
dotted (suc d) f = dotted d f plus added (suc d) f
