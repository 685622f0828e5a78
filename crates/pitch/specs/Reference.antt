-- Pitches by the **kern reference, written without document 01.
use Rattle.std.specs.Prelude.{◌≡◌, ℕ, zero, suc, ◌+◌, List, [], ◌∷◌, replicate}

pub data Step : Type 0 where
  C : Step
  D : Step
  E : Step
  F : Step
  G : Step
  A : Step
  B : Step

-- the letters are a to g, lower and upper case
pub data Case : Type 0 where
  lower : Case
  upper : Case

unfoldable pub letter_of : Case → Step → ℕ
letter_of lower A = 97
letter_of lower B = 98
letter_of lower C = 99
letter_of lower D = 100
letter_of lower E = 101
letter_of lower F = 102
letter_of lower G = 103
letter_of upper A = 65
letter_of upper B = 66
letter_of upper C = 67
letter_of upper D = 68
letter_of upper E = 69
letter_of upper F = 70
letter_of upper G = 71

-- an octave by its distance from middle C: so many above the octave that middle C begins, or below the one under it
pub data Octave : Type 0 where
  above : ℕ → Octave
  below : ℕ → Octave

unfoldable pub further : Octave → Octave
further (above k) = above (suc k)
further (below k) = below (suc k)

-- lower case c to b is the octave from middle C up, each repetition one octave higher; upper case C to B is the octave below
-- middle C, each repetition one lower
unfoldable pub octave_of : Case → ℕ → Octave
octave_of lower zero = above 0
octave_of upper zero = below 0
octave_of case (suc repetitions) = further (octave_of case repetitions)

-- the octave's number: c is C4, C is C3; an octave below 0 has none here
unfoldable pub Numbered : Octave → ℕ → Type 0
Numbered (above k) octave = octave ≡ 4 + k
Numbered (below k) octave = octave + k ≡ 3

-- the steps numbered from C up
unfoldable pub number : Step → ℕ
number C = 0
number D = 1
number E = 2
number F = 3
number G = 4
number A = 5
number B = 6

-- `#` is a sharp and `-` a flat, repeated for more; `n` is the natural
pub data Accidental : Type 0 where
  sharp : ℕ → Accidental
  flat : ℕ → Accidental
  natural : Accidental

unfoldable pub written : Accidental → List ℕ
written (sharp k) = replicate k 35
written (flat k) = replicate k 45
written natural = 110 ∷ []
