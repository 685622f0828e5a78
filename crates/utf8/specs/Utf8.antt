-- UTF-8 by RFC 3629: its table of characters, and what a text has of them at its front.
use Rattle.std.specs.Prelude.{ℕ, zero, suc, ◌+◌, ◌-◌, ◌*◌, ◌%◌, ◌≤◌, ◌≡◌, Bool, true, false, cond, ◌&&◌, List, [], ◌∷◌, leb, eqb, length, take, drop, replicate}

-- the bytes from a first to a last one
abbrev pub Range : Type 0
Range = ℕ × ℕ

-- RFC 3629, section 4: UTF8-tail = %x80-BF
abbrev pub tails : ℕ → List Range
tails n = replicate n (0x80, 0xBF)

-- RFC 3629, section 4: UTF8-char = UTF8-1 / UTF8-2 / UTF8-3 / UTF8-4, each row the ranges of its bytes in turn
unfoldable pub table : List (List Range)
table =
    ((0x00, 0x7F) ∷ [])
    ∷ ((0xC2, 0xDF) ∷ tails 1)
    ∷ ((0xE0, 0xE0) ∷ (0xA0, 0xBF) ∷ tails 1)
    ∷ ((0xE1, 0xEC) ∷ tails 2)
    ∷ ((0xED, 0xED) ∷ (0x80, 0x9F) ∷ tails 1)
    ∷ ((0xEE, 0xEF) ∷ tails 2)
    ∷ ((0xF0, 0xF0) ∷ (0x90, 0xBF) ∷ tails 2)
    ∷ ((0xF1, 0xF3) ∷ tails 3)
    ∷ ((0xF4, 0xF4) ∷ (0x80, 0x8F) ∷ tails 2)
    ∷ []

-- whether a text begins with a byte of each range in turn
unfoldable pub begins : List Range → List ℕ → Bool
begins [] s = true
begins (r ∷ rs) [] = false
begins (r ∷ rs) (b ∷ s) = leb r.0 b && leb b r.1 && begins rs s

-- the length of the first of these rows that a text begins with, 0 where it begins with none
unfoldable pub first_of : List (List Range) → List ℕ → ℕ
first_of [] s = 0
first_of (row ∷ rows) s = cond (begins row s) (length row) (first_of rows s)

-- the length of the character at the front of a text, 0 where none stands there
unfoldable pub char_length : List ℕ → ℕ
char_length s = first_of table s

-- the length of as many characters as follow each other from the start, n at most
unfoldable pub chars_length : ℕ → List ℕ → ℕ
chars_length zero s = 0
chars_length (suc n) s = cond (eqb (char_length s) 0) 0 (char_length s + chars_length n (drop (char_length s) s))

-- the length of the longest well-formed part from the start
unfoldable pub utf8_length : List ℕ → ℕ
utf8_length s = chars_length (length s) s

-- the well-formed part that begins at `from` goes on as far as r, and from there on like one that begins at r
pub record Passed (s : List ℕ) (from r : ℕ) : Type 0 where
  pub low : from ≤ r
  pub high : r ≤ length s
  pub same : utf8_length (drop from s) ≡ (r - from) + utf8_length (drop r s)

-- RFC 3629, section 3: the bits x of 0xxxxxxx, 110xxxxx 10xxxxxx, 1110xxxx and two, 11110xxx and three such bytes
unfoldable pub bits : List ℕ → ℕ
bits [] = 0
bits (a ∷ []) = a
bits (a ∷ b ∷ []) = a % 32 * 64 + b % 64
bits (a ∷ b ∷ c ∷ []) = (a % 16 * 64 + b % 64) * 64 + c % 64
bits (a ∷ b ∷ c ∷ d ∷ []) = ((a % 8 * 64 + b % 64) * 64 + c % 64) * 64 + d % 64
bits (a ∷ b ∷ c ∷ d ∷ e ∷ s) = 0

-- the code point of the character at the front of a text, 0 where none stands there
unfoldable pub code_point : List ℕ → ℕ
code_point s = bits (take (char_length s) s)
