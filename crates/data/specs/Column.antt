-- One column of a data record.
use Rattle.std.specs.Prelude.{◌≡◌, ℕ, ◌+◌, ◌-◌, ◌≤◌, ◌<◌, List, [], map, length, get_or, take, drop}
use Rattle.slices.specs.Split.{pieces, piece_at}
use Rattle.lines.specs.Tokens.{tokens_of}
use Rattle.spines.specs.Cells.{spine_of, row_of}
use Rattle.reading.specs.State.{State, Step}
use Rattle.reading.specs.Notices.{Token, placed}
use Rattle.reading.specs.Bars.{is_kern_spine}
use Rattle.reading.specs.Notes.{read_spine, read_tokens}
use Rattle.data.specs.declared.Column.{Column}

-- its token, in the line that begins at an offset
abbrev pub token_in : ℕ → List ℕ → Column → Token
token_in offset line c = record { at = offset + c.from; bytes = piece_at line c.from (c.end - c.from) }

-- a column of the row, and its token
pub record Entered (line row : List ℕ) (c : Column) : Type 0 where
  pub inside : c.index < length row
  pub low : c.from ≤ c.end
  pub high : c.end ≤ length line
  pub here : get_or (tokens_of line) c.index [] ≡ piece_at line c.from (c.end - c.from)

-- what it comes to, on line k
unfoldable pub column_step : ℕ → ℕ → List ℕ → List ℕ → Column → State → Step
column_step k offset line row c st =
    read_spine (spine_of (get_or row c.index 0)) (take (length row) (tokens_of line)) (map is_kern_spine (row_of row)) k c.index (token_in offset line c) st

-- what is left of a record from column i on, whose token begins at `from`
abbrev pub rest : List ℕ → List ℕ → ℕ → ℕ → ℕ → ℕ → State → Step
rest line row k offset from i st =
    read_tokens (take (length row) (tokens_of line)) (map is_kern_spine (row_of row)) k i (row_of (drop i row))
    (placed (offset + from) (take (length row - i) (pieces 9 from line))) st
