-- The NOTE of a token of the usual shape.
use Rattle.std.specs.Prelude.{◌≡◌, ℕ, List, [], ◌∷◌, get_or, take, set}
use Rattle.notation.specs.Beam.{beam_number}
use Rattle.plain.specs.declared.Plain.{Plain}
use Rattle.sheet.specs.Record.{Record}
use Rattle.reading.specs.State.{fresh_part}
use Rattle.reading.specs.declared.Part.{Part}
use Rattle.state.specs.declared.Tally.{Tally}
use Rattle.state.specs.Lay.{laid, behind}
use Rattle.writing.specs.Kept.{note_record}
use Rattle.notes.specs.declared.Spot.{Spot}
use Rattle.notes.specs.Beam.{beam_by, sounded_by}
use Rattle.notes.specs.Spot.{note_at}

-- the part of a spot
abbrev pub part_before : Spot → Tally → List Part → Part
part_before s t parts = get_or (take t.parts parts) s.part (fresh_part s.part)

-- the NOTE of a token of the usual shape
abbrev pub plain_record : List ℕ → Plain → Spot → Tally → List Part → Record
plain_record token p s t parts =
    note_record (note_at p.note s t.bars (beam_number (beam_by (part_before s t parts) s.voice p.starts p.ends).mark)) token

-- it stands at a place, and its part has the voice's beam
pub record PlainWritten (token : List ℕ) (p : Plain) (s : Spot) (t : Tally) (at : ℕ) (parts : List Part) (out : List ℕ) (parts' : List Part) (out' : List ℕ) (r : ℕ) : Type 0 where
  pub sounds : take t.parts parts' ≡ set (take t.parts parts) s.part (sounded_by (part_before s t parts) s.voice p.starts p.ends)
  pub lays : out' ≡ laid out at (plain_record token p s t parts ∷ [])
  pub ends : r ≡ behind at (plain_record token p s t parts ∷ [])
