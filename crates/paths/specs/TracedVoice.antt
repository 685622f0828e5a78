-- WHAT THE TEXT SAYS of voices: the voice of each column of each row, from the header, the tokens and the trace alone. Nothing here knows of rows of
-- spines, or of how they are read. Quoted are document 01's sentences.
use Rattle.std.specs.Prelude.{Bool, true, false, ◌&&◌, ◌||◌, cond, List, ℕ, zero, suc, eqb}
use Rattle.std.proofs.Math.Option.{Option, none, some}
use Rattle.paths.specs.Record.{Rec}
use Rattle.paths.specs.Trace.{Origin, from, branch_of, nowhere, origin_in, part, columns, is_part}

-- whether one of the numbers below n passes a test
unfoldable pub some_below : (ℕ → Bool) → ℕ → Bool
some_below test zero = false
some_below test (suc n) = test n || some_below test n

-- "the lowest of 0 to 3 that no line of its part has"; 4 stands for none, where the record is refused with 8
unfoldable pub lowest_free : (ℕ → Bool) → ℕ
lowest_free taken = cond (taken 0) (cond (taken 1) (cond (taken 2) (cond (taken 3) 4 3) 2) 1) 0

abbrev pub is_branch : Origin → Bool
is_branch (from i) = false
is_branch (branch_of i) = true
is_branch nowhere = false

-- the row that one record makes: it has w columns, which come from `origins` and are of `parts`; in the row before, column i had the voice `before i`
module _ (before : ℕ → ℕ) (origins : ℕ → Origin) (parts : ℕ → Option ℕ) (w : ℕ) where
  -- the column continues a line that had the voice v
  abbrev pub continues : ℕ → Origin → Bool
  continues v (from i) = eqb v (before i)
  continues v (branch_of i) = false
  continues v nowhere = false

  -- "in the new row, so a voice freed anywhere in the record is free": a column of part p there continues a line with the voice v
  unfoldable pub kept : ℕ → ℕ → Bool
  kept p v = some_below (λ i. is_part p (parts i) && continues v (origins i)) w

  -- "left to right": a branch of part p left of column j has the voice v
  unfoldable pub given : ℕ → ℕ → ℕ → Bool
  given zero p v = false
  given (suc j) p v = (is_branch (origins j) && is_part p (parts j) && eqb v (lowest_free (λ u. kept p u || given j p u))) || given j p v

  -- a branch of part p at column j: the lowest voice that neither a line of its part that goes on has, nor a branch of its part further left
  abbrev pub branch_voice : ℕ → Option ℕ → ℕ
  branch_voice j none = 0
  branch_voice j (some p) = lowest_free (λ u. kept p u || given j p u)

  -- "Lines keep their voice, a join its first line's"; "Branches outside kern need no voice", nor does a column that comes from none
  abbrev pub voice_from : ℕ → Origin → ℕ
  voice_from j (from i) = before i
  voice_from j (branch_of i) = branch_voice j (parts j)
  voice_from j nowhere = 0

-- the voice of column j of the row after n records: "The first row is the header, `**kern` columns with voice 0"
unfoldable pub voice : List Bool → (ℕ → Rec) → ℕ → ℕ → ℕ
voice h recs zero j = 0
voice h recs (suc n) j = voice_from (voice h recs n) (origin_in (recs n)) (part h recs (suc n)) (columns h recs (suc n)) j (origin_in (recs n) j)
