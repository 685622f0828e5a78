-- The counts: one of them changed, and those that a record's tokens leave as they are.
use Rattle.std.specs.Prelude.{◌≡◌, ℕ}
use Rattle.state.specs.declared.Tally.{Tally}

-- the counts with so many active spines
abbrev pub with_active : Tally → ℕ → Tally
with_active t active = record {
  active = active;
  parts = t.parts;
  bars = t.bars;
  notes = t.notes;
  notices = t.notices;
  tempo = t.tempo;
  title = t.title;
  composer = t.composer;
  lyricist = t.lyricist;
  at = t.at;
}

-- as many active spines, parts and bars in u as in t
pub record Same (t u : Tally) : Type 0 where
  pub active : u.active ≡ t.active
  pub parts : u.parts ≡ t.parts
  pub bars : u.bars ≡ t.bars
