-- A text without the white space at both ends.
use Rattle.std.specs.Prelude.{ℕ, zero, suc, ◌+◌, ◌≤◌, ◌<◌, ◌≡◌, Bool, cond, ◌&&◌, ◌||◌, List, [], ◌∷◌, ◌++◌, leb, eqb, length, take, drop}
use Rattle.utf8.specs.Utf8.{char_length, code_point}

-- document 01, "Reading a record": 9-13, 32, 133, 160, 5760, 8192-8202, 8232, 8233, 8239, 8287, 12288
unfoldable pub white : ℕ → Bool
white c =
    (leb 9 c && leb c 13) || eqb c 32 || eqb c 133 || eqb c 160 || eqb c 5760 || (leb 8192 c && leb c 8202)
    || eqb c 8232 || eqb c 8233 || eqb c 8239 || eqb c 8287 || eqb c 12288

-- the bytes of the character at the front; a byte at which no character stands counts as one
unfoldable pub width : List ℕ → ℕ
width s = cond (eqb (char_length s) 0) 1 (char_length s)

-- the character at i: its bytes end at `next`, and `blank` says whether it is white
pub record At (s : List ℕ) (i next : ℕ) (blank : Bool) : Type 0 where
  pub less : i < next
  pub inside : next ≤ length s
  pub wide : next ≡ i + width (drop i s)
  pub test : blank ≡ white (code_point (drop i s))

-- the characters of a text, front to back, n at most
unfoldable pub first_characters : ℕ → List ℕ → List (List ℕ)
first_characters zero s = []
first_characters (suc n) [] = []
first_characters (suc n) (b ∷ s) = take (width (b ∷ s)) (b ∷ s) ∷ first_characters n (drop (width (b ∷ s)) (b ∷ s))

-- the characters of a text, front to back
unfoldable pub characters : List ℕ → List (List ℕ)
characters s = first_characters (length s) s

-- the text that characters make
unfoldable pub text : List (List ℕ) → List ℕ
text [] = []
text (c ∷ cs) = c ++ text cs

-- without the white characters at the front
unfoldable pub from_first : List (List ℕ) → List (List ℕ)
from_first [] = []
from_first (c ∷ cs) = cond (white (code_point c)) (from_first cs) (c ∷ cs)

-- a character before those that stay: a white one goes where none stays
unfoldable pub before : List ℕ → List (List ℕ) → List (List ℕ)
before c [] = cond (white (code_point c)) [] (c ∷ [])
before c (d ∷ ds) = c ∷ d ∷ ds

-- without the white characters at the end
unfoldable pub up_to_last : List (List ℕ) → List (List ℕ)
up_to_last [] = []
up_to_last (c ∷ cs) = before c (up_to_last cs)

-- without the white characters at both ends
unfoldable pub trimmed : List ℕ → List ℕ
trimmed s = text (up_to_last (from_first (characters s)))

-- the bytes of the white ones among characters, up to the first that isn't
unfoldable pub leading : List (List ℕ) → ℕ
leading [] = 0
leading (c ∷ cs) = cond (white (code_point c)) (length c + leading cs) 0

-- how many bytes the white characters at the front of a text have
unfoldable pub leading_white : List ℕ → ℕ
leading_white s = leading (characters s)

-- where a text ends without the white characters at its end
unfoldable pub trimmed_end : List ℕ → ℕ
trimmed_end s = length (text (up_to_last (characters s)))

-- where the trimmed text of a piece stands that begins at `from`; document 01, "The sheet": empty is 0, 0
unfoldable pub trimmed_at : ℕ → List ℕ → ℕ
trimmed_at from s = cond (eqb (length (trimmed s)) 0) 0 (from + leading_white s)
