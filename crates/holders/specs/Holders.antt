-- WHICH LINES FILL THE STAFF, from the backward trace: quoted are document 01's sentences and request E8's.
use Rattle.std.specs.Prelude.{Bool, true, false, cond, ◌&&◌, List, [], ◌∷◌, ◌++◌, map, ◌≡◌, ℕ, zero, suc, ◌+◌, ◌<◌, eqb, ltb, length, take, drop}
use Rattle.std.proofs.Math.Option.{Option, none, some}
use Rattle.paths.specs.Record.{Rec}
use Rattle.paths.specs.Trace.{Ending, Origin, from, branch_of, nowhere, origin_in, columns, count, is_part, part, trace}
use Rattle.paths.specs.TracedVoice.{voice}
use Rattle.holders.specs.Voice.{free_voice}
use Rattle.holders.specs.declared.list.Holder.{Holder}

-- the numbers that pass a test, rising: of the n numbers from k on
unfoldable pub those_from : (ℕ → Bool) → ℕ → ℕ → List ℕ
those_from test k zero = []
those_from test k (suc n) = cond (test k) (k ∷ those_from test (suc k) n) (those_from test (suc k) n)

abbrev pub those : (ℕ → Bool) → ℕ → List ℕ
those test n = those_from test 0 n

-- whether a column comes from column i as the same line; whether it is a branch, and of which column
abbrev pub is_from : ℕ → Origin → Bool
is_from i (from k) = eqb i k
is_from i (branch_of k) = false
is_from i nowhere = false

abbrev pub is_branch_of : Origin → Bool
is_branch_of (from k) = false
is_branch_of (branch_of k) = true
is_branch_of nowhere = false

abbrev pub parent_of : Origin → ℕ
parent_of (from k) = k
parent_of (branch_of k) = k
parent_of nowhere = 0

-- the column at which a trace ends, from 1, 0 for none
abbrev pub from_one : Option Ending → ℕ
from_one none = 0
from_one (some e) = e.column + 1

-- "then the branches in order, ending with the one that found nothing": behind those so far, one of each of these columns
unfoldable pub with_branches : (ℕ → ℕ → Holder) → List Holder → List ℕ → List Holder
with_branches holder hs [] = hs
with_branches holder hs (i ∷ is) =
    let more = hs ++ (holder i (free_voice hs) ∷ []) in
    cond (eqb (free_voice hs) 4) more (with_branches holder more is)

-- record n, in a text whose header has these `**kern` columns; part q
module _ (h : List Bool) (recs : ℕ → Rec) (n q : ℕ) where
  -- column i of the row before the record "carries a line on through it": a column of the next row comes from it as the same line
  unfoldable pub carries_on : ℕ → Bool
  carries_on i = ltb 0 (count (λ j. is_from i (origin_in (recs n) j)) (columns h recs (suc n)))

  -- "for that part, by rising column before the record, the columns that carry a line on through it"
  unfoldable pub line_columns : List ℕ
  line_columns = those (λ i. is_part q (part h recs n i) && carries_on i) (columns h recs n)

  -- the branches of the part in the next row, left to right: "a branch's is its `*^`'s"
  unfoldable pub branch_columns : List ℕ
  branch_columns = map (λ j. parent_of (origin_in (recs n) j)) (those (λ j. is_branch_of (origin_in (recs n) j) && is_part q (part h recs (suc n) j)) (columns h recs (suc n)))

  -- "each its column there .., voice .. and header column, columns from 1": the header column is the one that the trace reaches
  abbrev pub holder : ℕ → ℕ → Holder
  holder i v = record { column = i + 1; voice = v; header = from_one (trace recs n i) }

  -- "Lines keep their voice": the voice is the one that the text says
  unfoldable pub holders : List Holder
  holders = with_branches holder (map (λ i. holder i (voice h recs n i)) line_columns) branch_columns

-- how many of them have a voice
unfoldable pub times : ℕ → List Holder → ℕ
times v [] = 0
times v (x ∷ xs) = cond (eqb v x.voice) (suc (times v xs)) (times v xs)

-- "five entries ..": "its first four voices being all four", "(4 for the last)"
pub record Five (hs : List Holder) : Type 0 where
  pub five : length hs ≡ 5
  pub all_four : (v : ℕ) → v < 4 → times v (take 4 hs) ≡ 1
  pub last : map (λ (x : Holder). x.voice) (drop 4 hs) ≡ 4 ∷ []
