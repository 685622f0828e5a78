-- The pitches of a note token by the **kern reference, within the octaves and alterations that a sheet has; other bytes between the letters and their
-- accidental, which the reference has as an error, are let pass.
use Rattle.std.specs.Prelude.{◌≡◌, ℕ, suc, ◌+◌, ◌-◌, min, List, [], ◌∷◌, ◌++◌, replicate, Bool, cond, leb, Option, Some, None}
use Rattle.std.specs.List.{filter}
use Rattle.slices.specs.Ascii.{ascii}
use Rattle.notation.specs.Bytes.{contains}
use Rattle.pitch.specs.Reference.{Step, Case, letter_of, Octave, above, below, octave_of, number, Accidental, sharp, flat, natural, written}
use Rattle.token.specs.declared.pitches.Tone.{Tone}

-- ---- the text
-- the bytes that decide pitches: the letters of the steps, the accidentals, `r` that makes a rest, and the blank between
-- the notes of a chord; digits, dots, ties, slurs, beams, stems, articulations and all others say nothing of a pitch
unfoldable pub of_pitch : ℕ → Bool
of_pitch b = contains b (ascii "abcdefgABCDEFG#-nr ")

-- a note of a token: the letter of its step once and `repetitions` times more; of the bytes in front of the letters none
-- decides a pitch, and of those behind them the accidental's alone do, in a row or with others between
pub record SubToken : Type 0 where
  pub before : List ℕ
  pub case : Case
  pub step : Step
  pub repetitions : ℕ
  pub accidental : Accidental
  pub behind : List ℕ
  pub no_pitch_before : filter of_pitch before ≡ []
  pub accidental_behind : filter of_pitch behind ≡ written accidental

unfoldable pub bytes_of : SubToken → List ℕ
bytes_of s = s.before ++ (replicate (suc s.repetitions) (letter_of s.case s.step) ++ s.behind)

-- the notes of a chord are separated by single blanks
unfoldable pub token_of : List SubToken → List ℕ
token_of [] = []
token_of (s ∷ []) = bytes_of s
token_of (s ∷ t ∷ ss) = bytes_of s ++ 32 ∷ token_of (t ∷ ss)

-- ---- the pitches
-- the number of an octave (`Numbered`), where it is one of 0 to 9
unfoldable pub octave_number : Octave → Option ℕ
octave_number (above k) = cond (leb k 5) (Some (4 + k)) None
octave_number (below k) = cond (leb k 3) (Some (3 - k)) None

-- the alteration in half steps, held with 128 added: 127 sharps and 128 flats are the most
unfoldable pub alteration : Accidental → ℕ
alteration (sharp k) = 128 + min k 127
alteration (flat k) = 128 - min k 128
alteration natural = 128

abbrev pub tone_at : SubToken → Option ℕ → List Tone
tone_at s None = []
tone_at s (Some octave) = record { step = number s.step; octave = octave; alter = alteration s.accidental } ∷ []

-- one pitch for each note whose octave is one of 0 to 9, in order; `before` and `behind` have no part in it
unfoldable pub reference_tones : List SubToken → List Tone
reference_tones [] = []
reference_tones (s ∷ ss) = tone_at s (octave_number (octave_of s.case s.repetitions)) ++ reference_tones ss
