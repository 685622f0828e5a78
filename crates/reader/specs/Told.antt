-- What one reading says, and the counts before it.
use Rattle.std.specs.Prelude.{ℕ, List, ◌≡◌, Result, Ok, Err}
use Rattle.refusal.specs.Numbers.{number_of, line_of, figure_of}
use Rattle.refusal.specs.declared.Refusal.{Refusal}
use Rattle.reading.specs.State.{empty}
use Rattle.reading.specs.Text.{refusal, read_text}
use Rattle.state.specs.declared.Tally.{Tally}
use Rattle.reader.specs.declared.Written.{Written}
use Rattle.reader.specs.Landing.{Finished, refused, written}
use Rattle.reader.specs.Measured.{Measured}

-- with the buffer that it leaves
abbrev pub finished_by : Result Written Refusal → List ℕ → Finished
finished_by (Ok w) out = written w.parts w.notes w.at out
finished_by (Err r) out = refused (number_of r) (line_of r) (figure_of r)

-- what the first reading of a text says of it
abbrev pub Tells : Result Written Refusal → List ℕ → Type 0
Tells (Ok w) text = Measured text w.parts w.notes w.at
Tells (Err r) text = read_text text ≡ refusal (number_of r) (line_of r) (figure_of r)

-- before the first line
abbrev pub no_tally : Tally
no_tally = record {
  active = 0;
  parts = 0;
  bars = 0;
  notes = 0;
  notices = 0;
  tempo = 0;
  title = empty;
  composer = empty;
  lyricist = empty;
  at = 0;
}
