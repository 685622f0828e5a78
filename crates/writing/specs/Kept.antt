-- Notices that are kept, with the counts; a NOTE with its token's lists.
use Rattle.std.specs.Prelude.{◌≡◌, ℕ, ◌+◌, cond, List, [], ◌∷◌, map, ltb, length}
use Rattle.items.specs.Items.{items}
use Rattle.token.specs.Outcome.{note_pitches}
use Rattle.token.specs.Token.{articulations_of}
use Rattle.token.specs.declared.pitches.Tone.{Tone}
use Rattle.sheet.specs.Record.{Record, NOTE, NOTICE}
use Rattle.sheet.specs.declared.Note.{Note}
use Rattle.sheet.specs.declared.Notice.{Notice}
use Rattle.sheet.specs.declared.Span.{Span}
use Rattle.reading.specs.State.{empty}
use Rattle.reading.specs.Notes.{pitch_of_tone}
use Rattle.state.specs.Lay.{behind}
use Rattle.state.specs.declared.Tally.{Tally}

-- a NOTE with the pitches and articulations of its token
abbrev pub note_record : Note → List ℕ → Record
note_record n token = NOTE n (map pitch_of_tone (note_pitches token)) (articulations_of (items token))

-- a token whose note has this pitch, where it has one
abbrev pub Alone : List ℕ → Tone → Type 0
Alone token t = (length (note_pitches token) ≡ 0 → ⊥) → note_pitches token ≡ t ∷ []

abbrev pub notice_of : ℕ → ℕ → ℕ → Span → Notice
notice_of number k column value = record { number = number; column = column; line = k; value = value; key = empty }

abbrev pub signifiers_notice : ℕ → ℕ → List ℕ → Notice
signifiers_notice k column bytes = record { number = 17; column = column; line = k; value = record { at = 0; len = length bytes }; key = empty }

-- the counts with one notice more
abbrev pub counted : Tally → ℕ → Tally
counted t at = record {
  active = t.active;
  parts = t.parts;
  bars = t.bars;
  notes = t.notes;
  notices = t.notices + 1;
  tempo = t.tempo;
  title = t.title;
  composer = t.composer;
  lyricist = t.lyricist;
  at = at;
}

-- "At most 1,024 are kept."
unfoldable pub kept_records : Tally → Notice → List ℕ → List Record
kept_records t n bytes = cond (ltb t.notices 1024) (NOTICE n bytes ∷ []) []

unfoldable pub after_kept : Tally → Notice → List ℕ → Tally
after_kept t n bytes = cond (ltb t.notices 1024) (counted t (behind t.at (NOTICE n bytes ∷ []))) t
