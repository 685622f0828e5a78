-- The header's table of active spines; a column outside kern.
use Rattle.std.specs.Prelude.{Option, IfSome, ◌≡◌, ℕ, ◌≤◌, List, map, cond, length, take}
use Rattle.lines.specs.Tokens.{is_kern}
use Rattle.paths.specs.Text.{header_row}
use Rattle.spines.specs.Cells.{row_of}
use Rattle.spines.specs.Table.{cells_of}
use Rattle.spines.specs.declared.active.Line.{Line}
use Rattle.sheet.specs.Record.{span_of}
use Rattle.reading.specs.State.{State, Result}
use Rattle.reading.specs.Notices.{quiet, notify}
use Rattle.reading.specs.Header.{fresh_parts}

-- "2 spine not kern", of the token of column j at an offset of the text
unfoldable pub notice_other : ℕ → ℕ → ℕ → List ℕ → State → Result
notice_other k j at token st = cond (is_kern token) (quiet st) (notify 2 k j (span_of at (length token)) st)

-- of a header's tokens: the cells of as many spines are the first row, and p the parts
pub record HeaderTable (ts : List (List ℕ)) (spines : List (Option Line)) (p : ℕ) : Type 0 where
  pub few : p ≤ length ts
  pub row : row_of (take (length ts) (cells_of spines)) ≡ header_row (map is_kern ts)
  pub parts : p ≡ length (fresh_parts 0 (map is_kern ts))

-- the line of a column, where it has one, has voice 0
abbrev pub Voiced : Option Line → Type 0
Voiced a = IfSome a (λ l. l.voice ≡ 0)
