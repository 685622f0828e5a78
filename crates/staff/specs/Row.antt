-- The row before a line, line by line, of a text in which no question stops the lines before; and what the passes over that line find.
use Rattle.std.specs.Prelude.{ℕ, ◌-◌, Bool, true, false, cond, ◌||◌, List, [], ◌∷◌, map, ltb, length, take, get_or}
use Rattle.lines.specs.Lines.{lines_of, without_crs, kind_of}
use Rattle.lines.specs.Tokens.{tokens_of, is_kern}
use Rattle.lines.specs.declared.Kind.{Kind}
use Rattle.lines.specs.declared.Kind.TheVariants.{Empty, Reference, Comment, Star, Bar, Data}
use Rattle.paths.specs.declared.Spine.{Spine}
use Rattle.paths.specs.Text.{header_row}
use Rattle.paths.specs.Voices.{Outcome, next, mixed, voiceless, wide, step_row}
use Rattle.spines.specs.Tokens.{record_tokens}
use Rattle.holders.specs.Walk.{walked, kern_column}
use Rattle.holders.specs.declared.list.Holder.{Holder}
use Rattle.reading.specs.Records.{is_record}
use Rattle.account.specs.Rows.{header_of}

-- the next row, none where a question stops the record
abbrev pub row_by : Outcome → List Spine
row_by (next row) = row
row_by (mixed c) = []
row_by (voiceless p) = []
row_by (wide n) = []

-- "begun by `*` it makes the next row by Paths", "any other keeps the row"
abbrev pub moved_by : Kind → List ℕ → List Spine → List Spine
moved_by Empty bytes row = row
moved_by Reference bytes row = row
moved_by Comment bytes row = row
moved_by Star bytes row = row_by (step_row row (record_tokens (length row) bytes))
moved_by Bar bytes row = row
moved_by Data bytes row = row

-- "The first row is the header", of at most 256 tokens
abbrev pub headed_by : List ℕ → List Spine
headed_by bytes = cond (ltb 256 (length (tokens_of bytes))) [] (header_row (map is_kern (tokens_of bytes)))

-- behind a line: `begun` says whether the header was met before
abbrev pub row_past : Bool → List ℕ → List Spine → List Spine
row_past true bytes row = moved_by (kind_of bytes) bytes row
row_past false bytes row = cond (is_record (kind_of bytes)) (headed_by bytes) row

unfoldable pub row_through : Bool → List Spine → List (List ℕ) → List Spine
row_through begun row [] = row
row_through begun row (l ∷ ls) = row_through (begun || is_record (kind_of (without_crs l))) (row_past begun (without_crs l) row) ls

-- what the passes over line k find of part q
unfoldable pub walked_at : List ℕ → ℕ → ℕ → List Holder
walked_at text k q =
    let row = row_through false [] (take (k - 1) (lines_of text)) in
    walked q (kern_column 0 q (header_of text)) (record_tokens (length row) (without_crs (get_or (lines_of text) (k - 1) []))) row
