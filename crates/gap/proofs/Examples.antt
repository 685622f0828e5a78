-- Holes that the definition is run on: one table, one fact.
use Rattle.std.specs.Prelude.{Ok, Err}
use Prim.Native.Nat.{ℕ}
use mathlib.Core.Bool.{Bool, true, ◌&&◌}
use mathlib.Core.List.{List, [], ◌∷◌}
use lib.Dec.{T}
use Rattle.slices.specs.Compare.{same_bytes}
use Rattle.duration.specs.Duration.{gcd_in}
use Rattle.sheet.specs.declared.Note.{Note}
use Rattle.gap.specs.Values.{ticks_of, triplet_by, tuplet_by, plain_by}
use Rattle.gap.specs.Next.{longest_from, shortest_below, is_exact}
use Rattle.gap.specs.Fill.{Fill, fill_from}
use Rattle.gap.specs.Answer.{number_of, fill_of}

-- ticks, divisions and the voice's notes; value, actual and normal of each rest, or the number that turns the hole away
pub record Example : Type 0 where
  pub ticks : ℕ
  pub divisions : ℕ
  pub notes : ℕ
  pub rests : List ℕ

abbrev hole : ℕ → ℕ → ℕ → List ℕ → Example
hole ticks divisions notes rests = record { ticks = ticks; divisions = divisions; notes = notes; rests = rests }

abbrev shown_of : List Note → List ℕ
shown_of [] = []
shown_of (n ∷ ns) = n.value ∷ n.actual ∷ n.normal ∷ shown_of ns

abbrev shown : Fill → List ℕ
shown (Err e) = number_of e ∷ []
shown (Ok ns) = shown_of ns

abbrev pub each : List Example → Bool
each [] = true
each (e ∷ es) = same_bytes e.rests (shown (fill_of e.ticks e.divisions e.notes)) && each es

unfoldable pub table : List Example
table =
    -- no hole
    hole 0 0 60000 []
    -- a quarter; three of them are a whole note in the time of four
    ∷ hole 480 480 0 (4 ∷ 0 ∷ 0 ∷ [])
    ∷ hole 1440 480 0 (2 ∷ 4 ∷ 3 ∷ [])
    -- longer than a longa: longas first, then an exact value, a triplet or a tuplet
    ∷ hole 15360 480 0 (0 ∷ 0 ∷ 0 ∷ 0 ∷ 0 ∷ 0 ∷ [])
    ∷ hole 8000 480 0 (0 ∷ 0 ∷ 0 ∷ 4 ∷ 3 ∷ 2 ∷ [])
    -- a triplet goes before all else, of the longest value
    ∷ hole 320 480 0 (4 ∷ 3 ∷ 2 ∷ [])
    -- a fifth of a quarter: the shortest value that is longer and has a whole number of ticks
    ∷ hole 96 480 0 (6 ∷ 5 ∷ 4 ∷ [])
    -- no value
    ∷ hole 1 0 0 (14 ∷ [])
    -- the last notes of a voice
    ∷ hole 480 480 49999 (4 ∷ 0 ∷ 0 ∷ [])
    ∷ hole 480 480 50000 (15 ∷ [])
    ∷ hole 15360 480 49999 (15 ∷ [])
    -- what no value fits is said before a voice that is full
    ∷ hole 1 0 50000 (14 ∷ [])
    ∷ []

pub examples : T (each table)
unfolding table same_bytes ticks_of triplet_by tuplet_by plain_by longest_from shortest_below is_exact gcd_in fill_from
examples = tt
