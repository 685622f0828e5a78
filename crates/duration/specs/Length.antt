-- How long a note lasts, in whole notes.
use Rattle.std.specs.Prelude.{ℕ, zero, suc, ◌*◌, ◌^◌, ◌≡◌, Bool, cond, eqb, leb}
use Rattle.duration.specs.declared.Length.{Length}

-- "Lengths are pairs of whole numbers"
abbrev pub Fraction : Type 0
Fraction = Length

infix 60 ◌over◌
abbrev pub ◌over◌ : ℕ → ℕ → Fraction
a over b = record { numerator = a; denominator = b }

infixl 50 ◌times◌
abbrev pub ◌times◌ : Fraction → Fraction → Fraction
a times b = (a.numerator * b.numerator) over (a.denominator * b.denominator)

-- "equal when their cross products are"
abbrev pub SameLength : Fraction → Fraction → Type 0
SameLength a b = a.numerator * b.denominator ≡ b.numerator * a.denominator

-- "A longa is 4, each next value half"; a value above 9, the last, counts as 9
unfoldable pub value_length : ℕ → Fraction
value_length v = 4 over (2 ^ cond (leb v 9) v 9)

-- "times 1, 3/2, 7/4 or 15/8 by its dots"; more than 3 count as 3
unfoldable pub dot_factor : ℕ → Fraction
dot_factor zero = 1 over 1
dot_factor (suc zero) = 3 over 2
dot_factor (suc (suc zero)) = 7 over 4
dot_factor (suc (suc (suc d))) = 15 over 8

-- "times normal over actual where a tuplet stands"; where actual is 0 none stands
unfoldable pub tuplet_factor : ℕ → ℕ → Fraction
tuplet_factor actual normal = cond (eqb actual 0) (1 over 1) (normal over actual)

-- "A NOTE lasts its value, times .. its dots, times normal over actual ..; a grace lasts nothing"
unfoldable pub note_length : ℕ → ℕ → ℕ → ℕ → Bool → Fraction
note_length value dots actual normal grace =
    cond grace (0 over 1) (value_length value times dot_factor dots times tuplet_factor actual normal)
