-- Columns read at one go: null tokens, tokens of the usual shape, and spines that are no line of a part.
use Rattle.std.specs.Prelude.{◌≡◌, ℕ, ◌≤◌, ◌<◌, Bool, true, List, length, drop}
use Rattle.slices.specs.Split.{pieces}
use Rattle.lines.specs.Tokens.{tokens_of}
use Rattle.reading.specs.declared.Part.{Part}
use Rattle.state.specs.declared.Tally.{Tally}
use Rattle.state.specs.View.{state_of, landed}
use Rattle.data.specs.declared.Stretch.{Stretch}
use Rattle.data.specs.Column.{rest}

-- a note that question 10 lets pass, and signifiers of which no notice is kept
pub record AtOnce (notes : ℕ) (unknown : Bool) (notices : ℕ) : Type 0 where
  pub few : notes < 100000
  pub full : unknown ≡ true → 1024 ≤ notices

-- the counts with so many notes, and a place
abbrev pub counts_at : Tally → ℕ → ℕ → Tally
counts_at t notes at = record {
  active = t.active;
  parts = t.parts;
  bars = t.bars;
  notes = notes;
  notices = t.notices;
  tempo = t.tempo;
  title = t.title;
  composer = t.composer;
  lyricist = t.lyricist;
  at = at;
}

-- the counts at the end of a stretch
abbrev pub with_stretch : Tally → Stretch → Tally
with_stretch t s = counts_at t s.notes s.at

-- what was left of a record before a stretch is what is left behind it
pub record Stretched (line row : List ℕ) (parts₀ : List Part) (out₀ : List ℕ) (t : Tally) (k offset from i : ℕ) (parts : List Part) (out : List ℕ) (s : Stretch) : Type 0 where
  pub low : i ≤ s.index
  pub high : s.index ≤ length row
  pub here : pieces 9 s.from line ≡ drop s.index (tokens_of line)
  pub same : landed (rest line row k offset from i (state_of row parts₀ t)) out₀ t.at
      ≡ landed (rest line row k offset s.from s.index (state_of row parts (with_stretch t s))) out s.at
