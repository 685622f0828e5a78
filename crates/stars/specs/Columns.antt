-- A star record's tokens for as many columns as there are spines, and what the code makes of a column.
use Rattle.std.specs.Prelude.{◌≡◌, ℕ, ◌-◌, ◌≤◌, ◌<◌, cond, List, ◌++◌, map, eqb, length, take, replicate, Ok}
use Rattle.slices.specs.Ascii.{ascii}
use Rattle.state.specs.Counts.{Same}
use Rattle.lines.specs.Tokens.{tokens_of}
use Rattle.paths.specs.declared.Spine.{Spine}
use Rattle.paths.specs.declared.Spine.TheVariants.{Line}
use Rattle.paths.specs.Token.{path_token}
use Rattle.interpretation.specs.declared.Interpretation.{Interpretation}
use Rattle.interpretation.specs.declared.Interpretation.TheVariants.{Tempo}
use Rattle.spines.specs.Cells.{row_of}
use Rattle.reading.specs.State.{State, Result, goes}
use Rattle.reading.specs.declared.Part.{Part}
use Rattle.reading.specs.Notices.{Token, placed}
use Rattle.reading.specs.Star.{read_columns}
use Rattle.state.specs.declared.Tally.{Tally}
use Rattle.state.specs.View.{state_of, landed, told}

-- document 01, repair: a `*` record that is too short is "filled with `*`", one that is too long cut
unfoldable pub filled : ℕ → List (List ℕ) → List (List ℕ)
filled n ts = take n ts ++ replicate (n - length ts) (ascii "*")

abbrev pub token_of : ℕ → List ℕ → Token
token_of at bytes = record { at = at; bytes = bytes }

-- the columns of a line that begins at an offset
abbrev pub columns_of : List ℕ → List ℕ → ℕ → ℕ → State → Result
columns_of text cells number offset st =
    read_columns (map path_token (filled (length cells) (tokens_of text))) number 0 (row_of cells)
    (placed offset (filled (length cells) (tokens_of text))) st

-- the counts with the first tempo that is read
abbrev pub with_first : Tally → ℕ → Tally
with_first t bpm = record {
  active = t.active;
  parts = t.parts;
  bars = t.bars;
  notes = t.notes;
  notices = t.notices;
  tempo = cond (eqb t.tempo 0) bpm t.tempo;
  title = t.title;
  composer = t.composer;
  lyricist = t.lyricist;
  at = t.at;
}

abbrev pub tempoed : Interpretation → Tally → Tally
tempoed (Tempo bpm) t = with_first t bpm
tempoed _ t = t

-- from parts, buffer and counts to others the code has done what a piece of the reading does, whatever the row
pub record Comes (f : State → Result) (parts : List Part) (out : List ℕ) (t : Tally) (parts' : List Part) (out' : List ℕ) (r : Tally) : Type 0 where
  pub same : (cells : List ℕ) → told (Ok r) cells parts' out' ≡ landed (goes (f (state_of cells parts t))) out t.at
  pub held : Same t r

-- the parts of a spine are among the text's
pub record Fit (s : Spine) (t : Tally) : Type 0 where
  pub parts_few : t.parts ≤ 256
  pub within : (p v : ℕ) → s ≡ Line p v → p < t.parts
