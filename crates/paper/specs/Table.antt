-- Document 01, "Both edges, with P for proved": its worked lines, one table and one fact over it.
use Rattle.std.specs.Prelude.{ℕ, Bool, true, false, cond, ◌&&◌, List, [], ◌∷◌, ◌++◌, map, Option, Some, None, Ok, Err}
use Prim.Native.String.{String}
use Rattle.slices.specs.Ascii.{ascii}
use Rattle.slices.specs.Split.{split}
use Rattle.slices.specs.Compare.{same_bytes}
use Rattle.duration.specs.Duration.{duration_of}
use Rattle.duration.specs.declared.Value.{Value}
use Rattle.duration.specs.declared.Value.TheVariants.{Plain, Tuplet}
use Rattle.token.specs.Outcome.{Outcome as Reading, notice_number, read_token, reported, note_pitches}
use Rattle.token.specs.declared.pitches.Tone.{Tone}
use Rattle.paths.specs.declared.PathToken.{PathToken}
use Rattle.paths.specs.Token.{path_token}
use Rattle.paths.specs.declared.Spine.{Spine}
use Rattle.paths.specs.declared.Spine.TheVariants.{Line as Line-of, Branch, Outside}
use Rattle.paths.specs.Voices.{Outcome, next, mixed, voiceless, wide, step_row}
use Rattle.notation.specs.Beam.{beamed, beam_number, letters_of}
use Rattle.notation.specs.declared.beam.Beamed.{Beamed}
use Rattle.interpretation.specs.Interpretation.{interpretation_of}
use Rattle.interpretation.specs.declared.Interpretation.TheVariants.{Nothing, Clef, Key, Meter, Symbol, Tempo, Name, ShortName, Mode}
use Rattle.interpretation.specs.Unsupported.{Says}

-- a line, with what it gives in document 01's numbers
pub data Line : Type 0 where
  -- digits: written value, actual, normal (0, 0 no tuplet); nothing where there is no value
  reciprocal : String → List ℕ → Line
  -- a note token: its notices, then 100 and the octaves of its pitches where it gives a note
  note : String → List ℕ → Line
  -- the voices of a part's lines, and a star record: the voices of the next row by place; 8 and the part where it is refused
  voices : List ℕ → String → List ℕ → Line
  -- whether a voice's beam is held, and a note token: its beam, and 1 where the beam is held after it
  beam : Bool → String → List ℕ → Line
  -- an interpretation: its tempo
  tempo : String → List ℕ → Line

abbrev of_value : Option Value → List ℕ
of_value None = []
of_value (Some (Plain v)) = v ∷ 0 ∷ 0 ∷ []
of_value (Some (Tuplet v actual normal)) = v ∷ actual ∷ normal ∷ []

-- "17 signifiers", where there are any
abbrev of_signifiers : List ℕ → List ℕ
of_signifiers [] = []
of_signifiers (b ∷ bs) = 17 ∷ []

abbrev octave_of : Tone → ℕ
octave_of t = t.octave

abbrev of_token : List ℕ → Reading → List ℕ
of_token token (Ok None) = []
of_token token (Err why) = notice_number why ∷ []
of_token token (Ok (Some n)) = 100 ∷ map octave_of (note_pitches token)

abbrev of_spine : Spine → ℕ
of_spine (Line-of p v) = v
of_spine (Branch p) = 4
of_spine Outside = 5

abbrev of_outcome : Outcome → List ℕ
of_outcome (next row) = map of_spine row
of_outcome (mixed c) = 17 ∷ c ∷ []
of_outcome (voiceless p) = 8 ∷ p ∷ []
of_outcome (wide n) = 9 ∷ n ∷ []

abbrev of_beam : Beamed → List ℕ
of_beam b = beam_number b.mark ∷ cond b.state.held 1 0 ∷ []

abbrev of_tempo : Says → List ℕ
of_tempo (Ok Nothing) = []
of_tempo (Ok (Clef n)) = []
of_tempo (Ok (Key n)) = []
of_tempo (Ok (Meter n d)) = []
of_tempo (Ok (Symbol n)) = []
of_tempo (Ok (Tempo n)) = n ∷ []
of_tempo (Ok Name) = []
of_tempo (Ok ShortName) = []
of_tempo (Ok (Mode n)) = []
of_tempo (Err why) = []

-- the tokens of a record written with blanks between them
abbrev record_of : String → List PathToken
record_of text = map path_token (split 32 (ascii text))

-- what the definitions give for a line
abbrev given : Line → List ℕ
given (reciprocal text _) = of_value (duration_of (ascii text))
given (note text _) = of_signifiers (reported (ascii text)) ++ of_token (ascii text) (read_token (ascii text) [])
given (voices held text _) = of_outcome (step_row (map (Line-of 0) held) (record_of text))
given (beam held text _) = of_beam (beamed held (letters_of (ascii text)).starts (letters_of (ascii text)).ends)
given (tempo text _) = of_tempo (interpretation_of (ascii text) false)

abbrev expected : Line → List ℕ
expected (reciprocal _ said) = said
expected (note _ said) = said
expected (voices _ _ said) = said
expected (beam _ _ said) = said
expected (tempo _ said) = said

abbrev right : Line → Bool
right l = same_bytes (expected l) (given l)

abbrev pub each : List Line → Bool
each [] = true
each (l ∷ ls) = right l && each ls

unfoldable pub table : List Line
table =
    -- "`3` half 3:2; `255` 128th 255:128; `256`, `000`, `00008` none; `0008` eighth"
    reciprocal "3" (3 ∷ 3 ∷ 2 ∷ [])
    ∷ reciprocal "255" (9 ∷ 255 ∷ 128 ∷ [])
    ∷ reciprocal "256" []
    ∷ reciprocal "000" []
    ∷ reciprocal "00008" []
    ∷ reciprocal "0008" (5 ∷ 0 ∷ 0 ∷ [])
    -- "six `c` octave 9, seven notices 17 and 18; four `C` octave 0, five 17 and 18"
    ∷ note "4cccccc" (100 ∷ 9 ∷ [])
    ∷ note "4ccccccc" (17 ∷ 18 ∷ [])
    ∷ note "4CCCC" (100 ∷ 0 ∷ [])
    ∷ note "4CCCCC" (17 ∷ 18 ∷ [])
    -- "voices 0 1 2 3 with `*^ *v *v *`: branch gets 2; with `*^ * * *`: 8"
    ∷ voices (0 ∷ 1 ∷ 2 ∷ 3 ∷ []) "*^ *v *v *" (0 ∷ 2 ∷ 1 ∷ 3 ∷ [])
    ∷ voices (0 ∷ 1 ∷ 2 ∷ 3 ∷ []) "*^ * * *" (8 ∷ 0 ∷ [])
    -- "voices 0 1 with `*^ *^`: branches 2, 3"
    ∷ voices (0 ∷ 1 ∷ []) "*^ *^" (0 ∷ 2 ∷ 1 ∷ 3 ∷ [])
    -- "both L and J: beam 0, closed"
    ∷ beam false "8cLJ" (0 ∷ 0 ∷ [])
    ∷ beam true "8cLJ" (0 ∷ 0 ∷ [])
    -- "`MM119.5` is 120"
    ∷ tempo "*MM119.5" (120 ∷ [])
    ∷ []
