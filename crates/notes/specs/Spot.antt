-- A token of a kern line: where it stands, what it comes to, and what stays as it was.
use Rattle.std.specs.Prelude.{◌≡◌, ℕ, ◌+◌, ◌^◌, ◌≤◌, ◌<◌, Bool, cond, List, length, Option, Result as Answered, Ok, Err}
use Rattle.state.specs.Counts.{Same}
use Rattle.lines.specs.Tokens.{is_null}
use Rattle.duration.specs.declared.Value.{Value}
use Rattle.token.specs.Scan.{scan_of}
use Rattle.token.specs.Outcome.{outcome_of, reported}
use Rattle.token.specs.declared.outcome.Note.{Note}
use Rattle.sheet.specs.declared.Note.{Note as NoteWritten}
use Rattle.reading.specs.State.{State, Result, Step, goes}
use Rattle.reading.specs.declared.Part.{Part}
use Rattle.reading.specs.Notices.{Token, span_of_token, quiet, notify}
use Rattle.reading.specs.Notes as notes
use Rattle.state.specs.declared.Tally.{Tally}
use Rattle.refusal.specs.declared.Refusal.{Refusal}
use Rattle.state.specs.Lay.{laid, behind}
use Rattle.state.specs.View.{state_of}
use Rattle.notes.specs.declared.Spot.{Spot}

-- the token of a spot
abbrev pub token_at : Spot → List ℕ → Token
token_at s token = record { at = s.at; bytes = token }

-- what a token comes to; `inferred` is the value that its peers give, None where they give none
unfoldable pub token_step : List ℕ → Option Value → Spot → State → Step
token_step token inferred s st =
    cond (is_null token) (goes (quiet st))
    (notes.behind (notes.signify (reported token) s.line s.column st)
    (notes.by_outcome (outcome_of (scan_of token) inferred) s.part s.voice s.line s.column (token_at s token)))

-- the fixed bytes of a NOTE, in the bar "numbered one above the closings before it"
abbrev pub note_at : Note → Spot → ℕ → ℕ → NoteWritten
note_at n s bars beam = record {
  part = s.part;
  voice = s.voice;
  value = n.value;
  bar = bars + 1;
  line = s.line;
  column = s.column;
  dots = n.dots;
  flags = notes.flags_of n;
  actual = n.actual;
  normal = n.normal;
  beam = beam;
  pitches = n.pitches;
  articulations = n.articulations;
}

-- the counts with one note more
abbrev pub with_note : Tally → ℕ → Tally
with_note t at = record {
  active = t.active;
  parts = t.parts;
  bars = t.bars;
  notes = t.notes + 1;
  notices = t.notices;
  tempo = t.tempo;
  title = t.title;
  composer = t.composer;
  lyricist = t.lyricist;
  at = at;
}

-- spines, parts and bars are as many as before
abbrev pub Kept : Tally → Answered Tally Refusal → Type 0
Kept t (Ok u) = Same t u
Kept t (Err r) = Unit {0}

-- notices of a definition as the code leaves them: the counts were t and are u, the buffer was old and is new
pub record Noticed (t u : Tally) (old new : List ℕ) (f : State → Result) : Type 0 where
  pub state : (cells : List ℕ) (parts : List Part) → (f (state_of cells parts t)).state ≡ state_of cells parts u
  pub at : (cells : List ℕ) (parts : List Part) → u.at ≡ behind t.at (f (state_of cells parts t)).records
  pub out : (cells : List ℕ) (parts : List Part) → new ≡ laid old t.at (f (state_of cells parts t)).records
  pub same : Same t u
  pub notes : u.notes ≡ t.notes

-- "20 inferred"
abbrev pub inferred_notice : Bool → List ℕ → Spot → State → Result
inferred_notice inferred token s st = cond inferred (notify 20 s.line s.column (span_of_token (token_at s token)) st) (quiet st)

-- a token is short, and its spot is one of a part and of a voice
pub record Sited (token : List ℕ) (s : Spot) (t : Tally) : Type 0 where
  pub short : length token < 2 ^ 27
  pub parts_few : t.parts ≤ 256
  pub bars_few : t.bars ≤ 100000
  pub part_in : s.part < t.parts
  pub voice_in : s.voice < 4
