-- The state that cells, parts and counts say; a line's outcome with the buffer.
use Rattle.std.specs.Prelude.{ℕ, List, take, Result, Ok, Err}
use Rattle.spines.specs.Cells.{row_of}
use Rattle.refusal.specs.Numbers.{number_of, line_of, figure_of}
use Rattle.refusal.specs.declared.Refusal.{Refusal}
use Rattle.reading.specs.State.{State, Step, refused, goes, ends}
use Rattle.reading.specs.declared.Part.{Part}
use Rattle.state.specs.declared.Tally.{Tally}
use Rattle.state.specs.declared.Flow.{Flow}
use Rattle.state.specs.declared.Flow.TheVariants.{Goes, Ends}
use Rattle.state.specs.Lay.{laid, behind}

-- cells are those of the active spines; the parts of the text come first in an array
abbrev pub state_of : List ℕ → List Part → Tally → State
state_of cells parts t = record {
  row = row_of cells;
  parts = take t.parts parts;
  bars = t.bars;
  notes = t.notes;
  notices = t.notices;
  tempo = t.tempo;
  title = t.title;
  composer = t.composer;
  lyricist = t.lyricist;
}

-- an outcome with the place behind its records and the buffer; a refusal leaves none
pub data Landed : Type 0 where
  stopped : ℕ → ℕ → ℕ → Landed
  going : State → ℕ → List ℕ → Landed
  ending : State → ℕ → List ℕ → Landed

-- what a step of the reading comes to, its records written at a place of a buffer
abbrev pub landed : Step → List ℕ → ℕ → Landed
landed (refused n l f) out at = stopped n l f
landed (goes r) out at = going r.state (behind at r.records) (laid out at r.records)
landed (ends r) out at = ending r.state (behind at r.records) (laid out at r.records)

-- what the code's answer says, with the cells, the parts and the buffer that it leaves
abbrev pub told : Result Tally Refusal → List ℕ → List Part → List ℕ → Landed
told (Ok t) cells parts out = going (state_of cells parts t) t.at out
told (Err r) cells parts out = stopped (number_of r) (line_of r) (figure_of r)

-- how many spines are active then
abbrev pub active_in : Result Tally Refusal → ℕ
active_in (Ok t) = t.active
active_in (Err r) = 0

-- the row is the first active cells of a longer array
abbrev pub told_row : Result Tally Refusal → List ℕ → List Part → List ℕ → Landed
told_row s row parts out = told s (take (active_in s) row) parts out

-- the same of an answer with which the reading may end
abbrev pub told_flow : Result Flow Refusal → List ℕ → List Part → List ℕ → Landed
told_flow (Ok (Goes t)) row parts out = going (state_of (take t.active row) parts t) t.at out
told_flow (Ok (Ends t)) row parts out = ending (state_of (take t.active row) parts t) t.at out
told_flow (Err r) row parts out = stopped (number_of r) (line_of r) (figure_of r)
