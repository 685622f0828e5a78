-- What is known between two lines of a text.
use Rattle.std.specs.Prelude.{ℕ, false, List, [], ◌∷◌, get_or, set}
use Rattle.sheet.specs.Record.{Record}
use Rattle.sheet.specs.declared.Bar.{Bar}
use Rattle.sheet.specs.declared.Span.{Span}
use Rattle.paths.specs.declared.Spine.{Spine}
use Rattle.reading.specs.declared.Part.{Part}

abbrev pub empty : Span
empty = record { at = 0; len = 0 }

-- "Measure::empty a bar with all unset, barlines Normal"
abbrev pub blank_bar : ℕ → Bar
blank_bar p = record {
  part = p;
  right = 0;
  left = 0;
  number = 0;
  clef = 0;
  numerator = 0;
  denominator = 0;
  symbol = 0;
  key = 0;
  fifths = 0;
  mode = 0;
  tempo = 0;
}

abbrev pub fresh_part : ℕ → Part
fresh_part p = record {
  named = 0;
  name = empty;
  short = empty;
  mode = 0;
  beams = false ∷ false ∷ false ∷ false ∷ [];
  noted = false;
  current = blank_bar p;
  first = blank_bar p;
}

-- the row and the parts, how many closings, notes and notices there were, the first tempo, and what the references set
pub record State : Type 0 where
  pub row : List Spine
  pub parts : List Part
  pub bars : ℕ
  pub notes : ℕ
  pub notices : ℕ
  pub tempo : ℕ
  pub title : Span
  pub composer : Span
  pub lyricist : Span

abbrev pub start : State
start = record {
  row = [];
  parts = [];
  bars = 0;
  notes = 0;
  notices = 0;
  tempo = 0;
  title = empty;
  composer = empty;
  lyricist = empty;
}

-- what a piece of a record comes to: a state and the records that arose
pub record Result : Type 0 where
  pub state : State
  pub records : List Record

-- what a line comes to: "Answers give: number, line, figure"; or a result, after which the reading goes on or ends
pub data Step : Type 0 where
  refused : ℕ → ℕ → ℕ → Step
  goes : Result → Step
  ends : Result → Step

abbrev pub part_at : State → ℕ → Part
part_at st p = get_or st.parts p (fresh_part p)

-- a state with some of its fields anew
abbrev pub with_row : State → List Spine → State
with_row st row = record {
  row = row;
  parts = st.parts;
  bars = st.bars;
  notes = st.notes;
  notices = st.notices;
  tempo = st.tempo;
  title = st.title;
  composer = st.composer;
  lyricist = st.lyricist;
}

abbrev pub with_parts : State → List Part → State
with_parts st parts = record {
  row = st.row;
  parts = parts;
  bars = st.bars;
  notes = st.notes;
  notices = st.notices;
  tempo = st.tempo;
  title = st.title;
  composer = st.composer;
  lyricist = st.lyricist;
}

abbrev pub with_part : State → ℕ → Part → State
with_part st p part = with_parts st (set st.parts p part)

abbrev pub with_bars : State → ℕ → State
with_bars st n = record {
  row = st.row;
  parts = st.parts;
  bars = n;
  notes = st.notes;
  notices = st.notices;
  tempo = st.tempo;
  title = st.title;
  composer = st.composer;
  lyricist = st.lyricist;
}

abbrev pub with_notes : State → ℕ → State
with_notes st n = record {
  row = st.row;
  parts = st.parts;
  bars = st.bars;
  notes = n;
  notices = st.notices;
  tempo = st.tempo;
  title = st.title;
  composer = st.composer;
  lyricist = st.lyricist;
}

abbrev pub with_notices : State → ℕ → State
with_notices st n = record {
  row = st.row;
  parts = st.parts;
  bars = st.bars;
  notes = st.notes;
  notices = n;
  tempo = st.tempo;
  title = st.title;
  composer = st.composer;
  lyricist = st.lyricist;
}

abbrev pub with_tempo : State → ℕ → State
with_tempo st n = record {
  row = st.row;
  parts = st.parts;
  bars = st.bars;
  notes = st.notes;
  notices = st.notices;
  tempo = n;
  title = st.title;
  composer = st.composer;
  lyricist = st.lyricist;
}

abbrev pub with_title : State → Span → State
with_title st s = record {
  row = st.row;
  parts = st.parts;
  bars = st.bars;
  notes = st.notes;
  notices = st.notices;
  tempo = st.tempo;
  title = s;
  composer = st.composer;
  lyricist = st.lyricist;
}

abbrev pub with_composer : State → Span → State
with_composer st s = record {
  row = st.row;
  parts = st.parts;
  bars = st.bars;
  notes = st.notes;
  notices = st.notices;
  tempo = st.tempo;
  title = st.title;
  composer = s;
  lyricist = st.lyricist;
}

abbrev pub with_lyricist : State → Span → State
with_lyricist st s = record {
  row = st.row;
  parts = st.parts;
  bars = st.bars;
  notes = st.notes;
  notices = st.notices;
  tempo = st.tempo;
  title = st.title;
  composer = st.composer;
  lyricist = s;
}
