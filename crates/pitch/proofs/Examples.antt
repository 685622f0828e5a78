-- Worked lines, one table, and one fact over it.
use Prim.Native.Nat.{ℕ}
use mathlib.Core.Bool.{Bool, true, ◌&&◌}
use mathlib.Core.List.{List, [], ◌∷◌}
use lib.Dec.{T, eqb}
use lib.ListN.{replicate}
use Rattle.slices.specs.Split.{index_of}
use Rattle.slices.specs.Compare.{same_bytes}
use Rattle.pitch.specs.Pitch.{within, lower_case, upper_case, lower_pitch, upper_pitch, pitch_of, altered_by, signs, twos_complement}
use Rattle.pitch.specs.declared.Pitch.{Pitch}
use Rattle.std.specs.Prelude.{Option, Some, None}

-- step and octave, or nothing
abbrev pub shown : Option Pitch → List ℕ
shown (Some p) = p.step ∷ p.octave ∷ []
shown None = []

pub data Line : Type 0 where
  run : ℕ → ℕ → List ℕ → Line
  accidentals : List ℕ → ℕ → Line

unfoldable pub holds : Line → Bool
unfolding within lower_case upper_case lower_pitch upper_pitch pitch_of index_of same_bytes altered_by signs twos_complement
holds (run letter n pitch) = same_bytes (shown (pitch_of letter n)) pitch
holds (accidentals written byte) = eqb (twos_complement (signs 128 written)) byte

abbrev pub each : List Line → Bool
each [] = true
each (l ∷ ls) = holds l && each ls

unfoldable pub table : List Line
table =
    run 99 1 (0 ∷ 4 ∷ [])  -- c is C4
    ∷ run 99 6 (0 ∷ 9 ∷ [])  -- cccccc
    ∷ run 99 7 []
    ∷ run 67 4 (0 ∷ 0 ∷ [])  -- CCCC
    ∷ run 67 5 []
    ∷ run 98 2 (6 ∷ 5 ∷ [])  -- bb is B5
    ∷ run 65 2 (5 ∷ 2 ∷ [])  -- AA is A2
    ∷ run 103 1 (4 ∷ 4 ∷ [])  -- g is G4
    ∷ run 104 1 []  -- h
    ∷ run 99 0 []
    ∷ accidentals [] 0
    ∷ accidentals (35 ∷ []) 1  -- #
    ∷ accidentals (45 ∷ []) 255  -- -
    ∷ accidentals (35 ∷ 35 ∷ 110 ∷ 35 ∷ []) 1  -- ##n#
    ∷ accidentals (replicate 128 35) 127
    ∷ accidentals (replicate 129 45) 128
    ∷ []

pub examples : T (each table)
unfolding table holds within lower_case upper_case lower_pitch upper_pitch pitch_of index_of same_bytes altered_by signs twos_complement
examples = tt
