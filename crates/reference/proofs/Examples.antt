-- Records and what they say, computed.
use mathlib.Core.Bool.{Bool, true, ◌&&◌}
use mathlib.Core.List.{List, [], ◌∷◌}
use Prim.Native.Nat.{ℕ}
use lib.Dec.{T}
use Rattle.slices.specs.Split.{index_of}
use Rattle.slices.specs.Compare.{same_bytes}
use Rattle.utf8.specs.Utf8.{table, begins, first_of, char_length, bits, code_point}
use Rattle.reference.specs.Trim.{white, width, first_characters, characters, text, from_first, before, up_to_last, trimmed, leading, leading_white, trimmed_at}
use Rattle.reference.specs.Reference.{key_of, span_of, reference_of}
use Rattle.reference.specs.declared.Key.{Key}
use Rattle.reference.specs.declared.Key.TheVariants.{Title, Composer, Lyricist, Other}
use Rattle.reference.specs.declared.Reference.{Reference}

number : Key → ℕ
number Title = 0
number Composer = 1
number Lyricist = 2
number Other = 3

numbers : Reference → List ℕ
numbers r = number r.key ∷ r.key_span.at ∷ r.key_span.len ∷ r.value_span.at ∷ r.value_span.len ∷ []

-- a record behind `!!!`; the number of its key, and offset and length of key and value
records : List (List ℕ × List ℕ)
records =
    -- `OTL: a b`
    (79 ∷ 84 ∷ 76 ∷ 58 ∷ 32 ∷ 97 ∷ 32 ∷ 98 ∷ [], 0 ∷ 0 ∷ 3 ∷ 5 ∷ 3 ∷ [])
    -- `COM:x`
    ∷ (67 ∷ 79 ∷ 77 ∷ 58 ∷ 120 ∷ [], 1 ∷ 0 ∷ 3 ∷ 4 ∷ 1 ∷ [])
    -- `LYR` and `y` among white characters of one, two and three bytes
    ∷ (9 ∷ 76 ∷ 89 ∷ 82 ∷ 32 ∷ 58 ∷ 194 ∷ 160 ∷ 227 ∷ 128 ∷ 128 ∷ 121 ∷ 226 ∷ 128 ∷ 168 ∷ 194 ∷ 133 ∷ 32 ∷ [], 2 ∷ 1 ∷ 3 ∷ 11 ∷ 1 ∷ [])
    -- `!OTL: c`
    ∷ (33 ∷ 79 ∷ 84 ∷ 76 ∷ 58 ∷ 32 ∷ 99 ∷ [], 3 ∷ 0 ∷ 4 ∷ 6 ∷ 1 ∷ [])
    -- no colon
    ∷ (79 ∷ 84 ∷ 76 ∷ [], 0 ∷ 0 ∷ 3 ∷ 0 ∷ 0 ∷ [])
    -- no value
    ∷ (79 ∷ 84 ∷ 76 ∷ 58 ∷ [], 0 ∷ 0 ∷ 3 ∷ 0 ∷ 0 ∷ [])
    -- no key
    ∷ (58 ∷ 32 ∷ 98 ∷ [], 3 ∷ 0 ∷ 0 ∷ 2 ∷ 1 ∷ [])
    -- nothing
    ∷ ([], 3 ∷ 0 ∷ 0 ∷ 0 ∷ 0 ∷ [])
    -- two colons
    ∷ (97 ∷ 58 ∷ 32 ∷ 98 ∷ 58 ∷ 32 ∷ 99 ∷ 32 ∷ [], 3 ∷ 0 ∷ 1 ∷ 3 ∷ 4 ∷ [])
    -- white space alone
    ∷ (32 ∷ 226 ∷ 128 ∷ 168 ∷ [], 3 ∷ 0 ∷ 0 ∷ 0 ∷ 0 ∷ [])
    -- bytes that are no character stay
    ∷ (67 ∷ 79 ∷ 77 ∷ 58 ∷ 32 ∷ 226 ∷ 128 ∷ [], 1 ∷ 0 ∷ 3 ∷ 5 ∷ 2 ∷ [])
    ∷ []

agrees : List (List ℕ × List ℕ) → Bool
agrees [] = true
agrees (x ∷ xs) = same_bytes x.1 (numbers (reference_of x.0)) && agrees xs

examples : T (agrees records)
unfolding number numbers records agrees index_of same_bytes table begins first_of char_length bits code_point
    white width first_characters characters text from_first before up_to_last trimmed leading leading_white trimmed_at key_of span_of reference_of
examples = tt
