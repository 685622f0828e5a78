-- The table of active spines: for each column its line, or none outside kern.
use Rattle.std.specs.Prelude.{ℕ, ◌+◌, ◌*◌, List, map, get_or, Option, Some, None}
use Rattle.paths.specs.declared.Spine.{Spine}
use Rattle.paths.specs.declared.Spine.TheVariants.{Line, Branch, Outside}
use Rattle.spines.specs.declared.active.Line.{Line as ActiveLine}

-- "the table of active spines is looked up": the spine of a column; past the table one outside kern
abbrev pub active_at : List (Option ActiveLine) → ℕ → Option ActiveLine
active_at l k = get_or l k None

-- what an entry says
abbrev pub active_spine : Option ActiveLine → Spine
active_spine None = Outside
active_spine (Some a) = Line a.part a.voice

unfoldable pub active_row : List (Option ActiveLine) → List Spine
active_row = map active_spine

-- what the table says of a spine: a branch, which still needs a voice, is no line, as one outside kern is none
abbrev pub line_of : Spine → Spine
line_of (Line p v) = Line p v
line_of (Branch p) = Outside
line_of Outside = Outside

-- the cell of an entry, as `spine_of` reads it
unfoldable pub cell_of : Option ActiveLine → ℕ
cell_of None = 0
cell_of (Some a) = (a.part + 1) * 8 + a.voice

unfoldable pub cells_of : List (Option ActiveLine) → List ℕ
cells_of = map cell_of
