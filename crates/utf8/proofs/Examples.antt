-- Texts, the length of their well-formed part, and code points, computed.
use mathlib.Core.Bool.{Bool, true, ◌&&◌}
use mathlib.Core.List.{List, [], ◌∷◌}
use Prim.Native.Nat.{ℕ}
use lib.Dec.{T, eqb}
use Rattle.utf8.specs.Utf8.{table, begins, first_of, char_length, chars_length, utf8_length, bits, code_point}

texts : List (List ℕ × ℕ)
texts =
    -- RFC 3629, section 7: A, not identical to, Alpha, full stop
    (0x41 ∷ 0xE2 ∷ 0x89 ∷ 0xA2 ∷ 0xCE ∷ 0x91 ∷ 0x2E ∷ [], 7)
    -- RFC 3629, section 7: the Korean word for the language
    ∷ (0xED ∷ 0x95 ∷ 0x9C ∷ 0xEA ∷ 0xB5 ∷ 0xAD ∷ 0xEC ∷ 0x96 ∷ 0xB4 ∷ [], 9)
    -- RFC 3629, section 7: the Japanese word for the language
    ∷ (0xE6 ∷ 0x97 ∷ 0xA5 ∷ 0xE6 ∷ 0x9C ∷ 0xAC ∷ 0xE8 ∷ 0xAA ∷ 0x9E ∷ [], 9)
    -- RFC 3629, section 7: a byte order mark, and U+233B4
    ∷ (0xEF ∷ 0xBB ∷ 0xBF ∷ 0xF0 ∷ 0xA3 ∷ 0x8E ∷ 0xB4 ∷ [], 7)
    -- nothing
    ∷ ([], 0)
    -- RFC 3629, section 10: NUL in two bytes
    ∷ (0xC0 ∷ 0x80 ∷ [], 0)
    -- RFC 3629, section 10: a full stop in two bytes
    ∷ (0x2F ∷ 0xC0 ∷ 0xAE ∷ 0x2E ∷ 0x2F ∷ [], 1)
    -- a surrogate pair
    ∷ (0xED ∷ 0xA1 ∷ 0x8C ∷ 0xED ∷ 0xBE ∷ 0xB4 ∷ [], 0)
    -- U+07FF in three bytes
    ∷ (0x41 ∷ 0xE0 ∷ 0x9F ∷ 0xBF ∷ [], 1)
    -- U+FFFF in four bytes
    ∷ (0x41 ∷ 0xF0 ∷ 0x8F ∷ 0xBF ∷ 0xBF ∷ [], 1)
    -- U+10FFFF, and one more
    ∷ (0xF4 ∷ 0x8F ∷ 0xBF ∷ 0xBF ∷ 0xF4 ∷ 0x90 ∷ 0x80 ∷ 0x80 ∷ [], 4)
    -- a character cut short
    ∷ (0x41 ∷ 0xE2 ∷ 0x89 ∷ [], 1)
    -- a tail alone
    ∷ (0x41 ∷ 0x80 ∷ [], 1)
    ∷ []

points : List (List ℕ × ℕ)
points =
    (0x41 ∷ [], 0x41)
    ∷ (0xCE ∷ 0x91 ∷ 0x2E ∷ [], 0x391)
    ∷ (0xE2 ∷ 0x89 ∷ 0xA2 ∷ [], 0x2262)
    ∷ (0xF0 ∷ 0xA3 ∷ 0x8E ∷ 0xB4 ∷ [], 0x233B4)
    ∷ (0x80 ∷ [], 0)
    ∷ []

agrees : (List ℕ → ℕ) → List (List ℕ × ℕ) → Bool
agrees f [] = true
agrees f (x ∷ xs) = eqb (f x.0) x.1 && agrees f xs

examples : T (agrees utf8_length texts && agrees code_point points)
unfolding texts points agrees table begins first_of char_length chars_length utf8_length bits code_point
examples = tt
