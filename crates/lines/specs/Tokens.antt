-- Tokens: where they stand in a line, and the words that are looked for.
use Rattle.std.specs.Prelude.{ℕ, List, Bool}
use Rattle.slices.specs.Split.{split}
use Rattle.slices.specs.Compare.{begins_with, same_bytes}
use Rattle.slices.specs.Ascii.{ascii}

-- the tokens of a line, between its TABs
abbrev pub tokens_of : List ℕ → List (List ℕ)
tokens_of = split 9

-- "A `.` is passed over"
unfoldable pub is_null : List ℕ → Bool
is_null t = same_bytes (ascii ".") t

-- "a header token exactly `**kern`"
unfoldable pub is_kern : List ℕ → Bool
is_kern t = same_bytes (ascii "**kern") t

-- a header token must "begin `**`"
unfoldable pub is_exclusive : List ℕ → Bool
is_exclusive t = begins_with (ascii "**") t

-- an interpretation begins `*`
unfoldable pub is_star : List ℕ → Bool
is_star t = begins_with (ascii "*") t

-- a token without a byte
unfoldable pub is_empty : List ℕ → Bool
is_empty t = same_bytes (ascii "") t
