-- Lines: where they end, their trailing CRs, what they begin with.
use Rattle.std.specs.Prelude.{ℕ, ◌+◌, List, [], ◌∷◌, cond, eqb, drop}
use Rattle.slices.specs.Split.{split, index_of}
use Rattle.slices.specs.Compare.{begins_with, same_bytes}
use Rattle.slices.specs.Ascii.{ascii}
use Rattle.lines.specs.declared.Kind.{Kind}
use Rattle.lines.specs.declared.Kind.TheVariants.{Empty, Reference, Comment, Star, Bar, Data}

-- "Lines end at LF"
abbrev pub lines_of : List ℕ → List (List ℕ)
lines_of = split 10

-- the end of the piece that begins at an index: the next byte b, or the end of the text; an index past the end stands still
abbrev pub piece_end : ℕ → List ℕ → ℕ → ℕ
piece_end b s from = from + index_of b (drop from s)

-- a byte in front of a line without trailing CRs: a CR goes where nothing is left behind it
unfoldable pub keep : ℕ → List ℕ → List ℕ
keep x [] = cond (eqb x 13) [] (x ∷ [])
keep x (y ∷ ys) = x ∷ y ∷ ys

-- "trailing CRs go"
unfoldable pub without_crs : List ℕ → List ℕ
without_crs [] = []
without_crs (x ∷ xs) = keep x (without_crs xs)

-- what a line without trailing CRs is: "empty lines count but do nothing", "`!!!` lines", "other `!` lines", records
unfoldable pub kind_of : List ℕ → Kind
kind_of s =
    cond (same_bytes (ascii "") s) Empty
    (cond (begins_with (ascii "!!!") s) Reference
    (cond (begins_with (ascii "!") s) Comment
    (cond (begins_with (ascii "*") s) Star
    (cond (begins_with (ascii "=") s) Bar Data))))
