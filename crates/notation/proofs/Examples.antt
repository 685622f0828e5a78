-- Worked lines, one table, and one fact over it.
use Prim.Native.Nat.{ℕ}
use mathlib.Core.Bool.{Bool, true, false, ◌&&◌, beq}
use mathlib.Core.List.{List, [], ◌∷◌}
use lib.Dec.{T, eqb}
use Rattle.slices.specs.Compare.{begins_with}
use Rattle.notation.specs.Bytes.{contains, contains_pair, trim_start}
use Rattle.notation.specs.Beam.{letters_of, beamed, beam_number}
use Rattle.notation.specs.Barline.{right_of, left_of, barlines_of, barline_number}
use Rattle.notation.specs.declared.beam.Beamed.{Beamed}

pub data Line : Type 0 where
  -- a token, and the numbers of its right and left barline
  barlines : List ℕ → ℕ → ℕ → Line
  -- whether the beam is held, a token, the number of its beam, and whether the beam is held after it
  beam : Bool → List ℕ → ℕ → Bool → Line

abbrev pub beam_of : Bool → List ℕ → Beamed
beam_of held token = beamed held (letters_of token).starts (letters_of token).ends

unfoldable pub holds : Line → Bool
unfolding contains contains_pair trim_start begins_with right_of left_of barlines_of
holds (barlines token right left) =
    eqb (barline_number (barlines_of token).right) right && eqb (barline_number (barlines_of token).left) left
holds (beam held token number after) =
    eqb (beam_number (beam_of held token).mark) number && beq (beam_of held token).state.held after

abbrev pub each : List Line → Bool
each [] = true
each (l ∷ ls) = holds l && each ls

unfoldable pub table : List Line
table =
    barlines (61 ∷ []) 0 0  -- =
    ∷ barlines (61 ∷ 61 ∷ []) 2 0  -- ==
    ∷ barlines (61 ∷ 124 ∷ 124 ∷ []) 1 0  -- =||
    ∷ barlines (61 ∷ 45 ∷ []) 8 0  -- =-
    ∷ barlines (61 ∷ 58 ∷ 124 ∷ []) 4 0  -- =:|
    ∷ barlines (61 ∷ 58 ∷ 33 ∷ []) 4 0  -- =:!
    ∷ barlines (61 ∷ 58 ∷ 124 ∷ 33 ∷ 124 ∷ 58 ∷ []) 4 3  -- =:|!|:
    ∷ barlines (61 ∷ 124 ∷ 58 ∷ []) 0 3  -- =|:
    ∷ barlines (61 ∷ 33 ∷ 58 ∷ []) 0 3  -- =!:
    ∷ barlines (61 ∷ 61 ∷ 58 ∷ 124 ∷ []) 4 0  -- ==:|
    ∷ barlines (61 ∷ 61 ∷ 124 ∷ 124 ∷ []) 2 0  -- ==||
    ∷ barlines (61 ∷ 124 ∷ 124 ∷ 45 ∷ []) 1 0  -- =||-
    ∷ barlines (124 ∷ 124 ∷ []) 1 0  -- ||
    ∷ barlines (52 ∷ 99 ∷ []) 0 0  -- 4c
    ∷ barlines [] 0 0
    ∷ barlines (61 ∷ 49 ∷ 50 ∷ 97 ∷ 45 ∷ []) 8 0  -- =12a-
    ∷ barlines (61 ∷ 49 ∷ 59 ∷ 58 ∷ 124 ∷ 120 ∷ []) 4 0  -- =1;:|x
    ∷ beam false (56 ∷ 99 ∷ 76 ∷ 74 ∷ []) 0 false  -- 8cLJ
    ∷ beam true (56 ∷ 99 ∷ 76 ∷ 74 ∷ []) 0 false  -- 8cLJ
    ∷ beam false (56 ∷ 99 ∷ 76 ∷ []) 1 true  -- 8cL
    ∷ beam true (56 ∷ 99 ∷ []) 2 true  -- 8c
    ∷ beam true (56 ∷ 99 ∷ 74 ∷ []) 3 false  -- 8cJ
    ∷ beam false (56 ∷ 99 ∷ 74 ∷ []) 0 false  -- 8cJ
    ∷ beam false (56 ∷ 99 ∷ []) 0 false  -- 8c
    ∷ beam false (56 ∷ 99 ∷ 32 ∷ 101 ∷ 76 ∷ []) 1 true  -- 8c eL
    ∷ []

pub examples : T (each table)
unfolding table holds contains contains_pair trim_start begins_with right_of left_of barlines_of
examples = tt
