-- The lists of a token as the sheet's bytes, and what each item adds to them.
use Rattle.std.specs.Prelude.{ℕ, List, [], ◌∷◌, Option, None}
use Rattle.pitch.specs.Pitch.{pitch_of, twos_complement}
use Rattle.items.specs.Items.{items}
use Rattle.items.specs.declared.Item.{Item}
use Rattle.items.specs.declared.Item.TheVariants.{Digits, Ratio, Letters, Blank, Mark}
use Rattle.token.specs.Token.{articulations_of, begun, signed, given, signifiers_of}
use Rattle.token.specs.Outcome.{note_pitches}
use Rattle.token.specs.declared.pitches.Tone.{Tone}

-- "per pitch u8 step (C 0 to B 6), octave, alter (two's complement)"
unfoldable pub tone_bytes : List Tone → List ℕ
tone_bytes [] = []
tone_bytes (t ∷ ts) = t.step ∷ t.octave ∷ twos_complement t.alter ∷ tone_bytes ts

-- the pitches of a token's note
abbrev pub pitch_bytes : List ℕ → List ℕ
pitch_bytes token = tone_bytes (note_pitches token)

-- "per articulation u8"
abbrev pub articulation_bytes : List ℕ → List ℕ
articulation_bytes token = articulations_of (items token)

-- "Only for 17 .. its bytes follow"
abbrev pub signifier_bytes : List ℕ → List ℕ
signifier_bytes token = signifiers_of (items token)

-- ---- item by item
-- the pitch of a sub-token is given where it ends
abbrev pub sound_bytes : Option Tone → List ℕ
sound_bytes s = tone_bytes (given s)

abbrev pub ended_by : Option Tone → Item → List ℕ
ended_by s (Digits v) = []
ended_by s (Ratio v) = []
ended_by s (Letters c n) = []
ended_by s Blank = sound_bytes s
ended_by s (Mark b) = []

abbrev pub sound_after : Option Tone → Item → Option Tone
sound_after s (Digits v) = s
sound_after s (Ratio v) = s
sound_after s (Letters c n) = begun s (pitch_of c n)
sound_after s Blank = None
sound_after s (Mark b) = signed s b
