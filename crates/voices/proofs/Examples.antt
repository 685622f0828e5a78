-- Star records on cells, from the line's bytes: one table, proved by one computation.
use mathlib.Core.Path.{◌≡◌, refl}
use mathlib.Core.List.{List, [], ◌∷◌, map}
use Prim.Native.Nat.{ℕ}
use Prim.Native.String.{String}
use lib.ListN.{length}
use Rattle.slices.specs.Ascii.{ascii}
use Rattle.slices.specs.Split.{join, split}
use Rattle.slices.specs.Compare.{same_bytes}
use Rattle.paths.specs.Token.{path_token}
use Rattle.paths.specs.Joins.{strays, mixed_from}
use Rattle.paths.specs.Row.{part_at, branch_from, advance}
use Rattle.paths.specs.declared.Spine.TheVariants.{Line, Outside}
use Rattle.paths.specs.Voices.{Outcome, next, mixed, voiceless, holds, lowest, with_voice, give_voices, voice_row, step_row}
use Rattle.spines.specs.Cells.{spine_of, row_of}
use Rattle.spines.specs.Tokens.{path_tokens, record_tokens}

record Example : Type 0 where
  cells : List ℕ
  record_line : List ℕ
  outcome : Outcome

example : List ℕ → String → Outcome → Example
example cells s o = record { cells = cells; record_line = ascii s; outcome = o }

-- part 0's lines with voices 0 to 3
four : List ℕ
four = 8 ∷ 9 ∷ 10 ∷ 11 ∷ []

examples : List Example
examples =
    -- of four lines two end and two split in one record: a voice that is freed to the right of a branch is free
    example four "*^\t*^\t*-\t*-" (next (Line 0 0 ∷ Line 0 2 ∷ Line 0 1 ∷ Line 0 3 ∷ []))
    ∷ example four "*-\t*-\t*^\t*^" (next (Line 0 2 ∷ Line 0 0 ∷ Line 0 3 ∷ Line 0 1 ∷ []))
    ∷ example four "*-\t*^\t*^\t*-" (next (Line 0 1 ∷ Line 0 0 ∷ Line 0 2 ∷ Line 0 3 ∷ []))
    -- a join frees the voices of its other lines
    ∷ example four "*^\t*v\t*v\t*" (next (Line 0 0 ∷ Line 0 2 ∷ Line 0 1 ∷ Line 0 3 ∷ []))
    ∷ example four "*^\t*\t*\t*" (voiceless 0)
    -- a join over two parts, or over kern and outside kern, is refused with 17 before a branch finds no voice
    ∷ example (8 ∷ 9 ∷ 10 ∷ 11 ∷ 16 ∷ 24 ∷ []) "*^\t*\t*\t*\t*v\t*v" (mixed 5)
    ∷ example (0 ∷ 3 ∷ 8 ∷ 9 ∷ 0 ∷ []) "*v\t*v\t*v\t*\t*v" (mixed 1)
    ∷ example (0 ∷ 3 ∷ 8 ∷ 9 ∷ 0 ∷ []) "*v\t*v\t*\t*v\t*v" (mixed 4)
    -- a token that the line lacks is a filled `*`
    ∷ example (8 ∷ 16 ∷ 0 ∷ []) "*" (next (Line 0 0 ∷ Line 1 0 ∷ Outside ∷ []))
    -- each part has voices of its own; outside kern none is needed
    ∷ example (8 ∷ 0 ∷ 16 ∷ []) "*^\t*^\t*^" (next (Line 0 0 ∷ Line 0 1 ∷ Outside ∷ Outside ∷ Line 1 0 ∷ Line 1 1 ∷ []))
    ∷ []

outcomes : map (λ (e : Example). step_row (row_of e.cells) (record_tokens (length e.cells) e.record_line)) examples ≡ map (λ (e : Example). e.outcome) examples
unfolding examples example four split join same_bytes path_token path_tokens row_of spine_of part_at strays mixed_from step_row voice_row give_voices holds lowest with_voice advance branch_from
outcomes = refl
