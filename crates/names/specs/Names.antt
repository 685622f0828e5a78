-- The name shown for a part: one that the text gives, or a fallback name.
use Rattle.std.specs.Prelude.{ℕ, ◌+◌, ◌/◌, ◌%◌, List, [], ◌∷◌, ◌++◌, cond, ltb, Option, None, Some}
use Rattle.slices.specs.Ascii.{ascii}
use Rattle.slices.specs.Split.{piece_at}
use Rattle.sheet.specs.declared.Span.{Span}

-- the last decimal digit, as ASCII
abbrev pub digit : ℕ → ℕ
digit n = 48 + n % 10

-- a number below 1,000 in decimal
unfoldable pub decimal : ℕ → List ℕ
decimal n =
    cond (ltb n 10) (digit n ∷ [])
    (cond (ltb n 100) (digit (n / 10) ∷ digit n ∷ []) (digit (n / 100) ∷ digit (n / 10) ∷ digit n ∷ []))

-- the fallback name of a part: "`Spine 1` on", the parts numbered from 0
unfoldable pub spine_name : ℕ → List ℕ
spine_name part = ascii "Spine " ++ decimal (part + 1)

-- "the name shown for a part is that piece of the text, or of lent fallback names": an empty name that is given is a name
abbrev pub name_of : List ℕ → Option Span → List ℕ → List ℕ
name_of text None fallback = fallback
name_of text (Some name) fallback = piece_at text name.at name.len
