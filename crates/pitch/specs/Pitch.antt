-- The pitch of a run of one letter, and the accidentals behind it, by document 01.
use Rattle.std.specs.Prelude.{ℕ, ◌+◌, ◌-◌, ◌%◌, min, List, [], ◌∷◌, Bool, cond, ◌&&◌, eqb, leb, Option, Some, None}
use Rattle.slices.specs.Ascii.{ascii}
use Rattle.slices.specs.Split.{index_of}
use Rattle.pitch.specs.declared.Pitch.{Pitch}

-- a byte from `low` to `high`
unfoldable pub within : ℕ → ℕ → ℕ → Bool
within low high b = leb low b && leb b high

-- "step (C 0 to B 6)": the letters of the steps, each at its number
unfoldable pub lower_case : List ℕ
lower_case = ascii "cdefgab"

unfoldable pub upper_case : List ℕ
upper_case = ascii "CDEFGAB"

-- "six `c` octave 9, seven notices 17 and 18": lower case has the octave 3 + n, which ends at 9
unfoldable pub lower_pitch : ℕ → ℕ → Option Pitch
lower_pitch step n = cond (leb (3 + n) 9) (Some (record { step = step; octave = 3 + n })) None

-- "four `C` octave 0, five 17 and 18": upper case has the octave 4 - n, which ends at 0
unfoldable pub upper_pitch : ℕ → ℕ → Option Pitch
upper_pitch step n = cond (leb n 4) (Some (record { step = step; octave = 4 - n })) None

-- the pitch of a letter, a to g or A to G, that stands n times in a row
unfoldable pub pitch_of : ℕ → ℕ → Option Pitch
pitch_of letter n =
    cond (eqb n 0) None
    (cond (within 97 103 letter) (lower_pitch (index_of letter lower_case) n)
    (cond (within 65 71 letter) (upper_pitch (index_of letter upper_case) n) None))

-- "Accidentals stop at the ends of their range: 127 sharps are the most and 128 flats; `n` sets 0."
-- The signs are # 35, - 45, n 110; the alteration is held with 128 added, so that 0 is 128 flats and 255 is 127 sharps.
unfoldable pub altered_by : ℕ → ℕ → ℕ
altered_by alter sign =
    cond (eqb sign 35) (min (alter + 1) 255)
    (cond (eqb sign 45) (alter - 1)
    (cond (eqb sign 110) 128 alter))

-- the alteration after a list of signs
unfoldable pub signs : ℕ → List ℕ → ℕ
signs alter [] = alter
signs alter (sign ∷ rest) = signs (altered_by alter sign) rest

-- "alter (two's complement)": one byte, whose negative numbers have 256 added
unfoldable pub twos_complement : ℕ → ℕ
twos_complement alter = (alter + 128) % 256
