-- What demand 3 says of rows, as one statement over every header and every sequence of records: the reading (`read_to`) on the one side, what the
-- text says (`columns`, `part`, `origin_in`, `lines`, `rivals` of Trace) on the other.
use Rattle.std.specs.Prelude.{◌≡◌, Bool, true, List, ◌≢◌, ◌↔◌, ℕ, suc, ◌≤◌, ◌<◌, length}
use Rattle.std.proofs.Math.Option.{Option, some, bind}
use Rattle.paths.specs.declared.PathToken.{PathToken}
use Rattle.paths.specs.Record.{Rec, star, plain, tokens}
use Rattle.paths.specs.Row.{part_of, spine_at}
use Rattle.paths.specs.declared.Spine.{Spine}
use Rattle.paths.specs.declared.Spine.TheVariants.{Line, Branch}
use Rattle.paths.specs.Trace.{from, branch_of, origin_in, columns, trace, Ending, end_part, part, lines, precedes, FirstWithout, MayEnd, Unmixed, FirstMixed}
use Rattle.paths.specs.Text.{reached, ended, refused, read_to}

-- the reading has come to this row after n records
abbrev pub At : List Bool → (ℕ → Rec) → ℕ → List Spine → Type 0
At h recs n row = read_to h recs n ≡ reached row

-- record n meets a row that isn't empty, with a token for each of its spines
abbrev pub Fits : List Bool → (ℕ → Rec) → ℕ → Type 0
Fits h recs n = (1 ≤ columns h recs n) × (tokens (recs n) ≡ columns h recs n)

pub record Demand (h : List Bool) (recs : ℕ → Rec) : Type 0 where
  -- "The first row is the header, `**kern` columns with voice 0."
  pub starts : (row : List Spine) × At h recs 0 row × ((j p v : ℕ) → spine_at row j ≡ Line p v → v ≡ 0)
  -- A row that is reached has as many spines as the text says.
  pub size : (n : ℕ) (row : List Spine) → At h recs n row → length row ≡ columns h recs n
  -- The part carried forward is that of the `**kern` header column to which the text traces the column back, or both are outside kern.
  pub in_part : (n : ℕ) (row : List Spine) → At h recs n row → (j : ℕ) → part_of (spine_at row j) ≡ part h recs n j
  -- Every kern line has a voice below 4, and lines of one part have different voices.
  pub voiced : (n : ℕ) (row : List Spine) → At h recs n row → (j p : ℕ) → spine_at row j ≢ Branch p
  pub below_4 : (n : ℕ) (row : List Spine) → At h recs n row → (j p v : ℕ) → spine_at row j ≡ Line p v → v < 4
  pub differ : (n : ℕ) (row : List Spine) → At h recs n row →
      (i j p v w : ℕ) → i ≢ j → spine_at row i ≡ Line p v → spine_at row j ≡ Line p w → v ≢ w
  -- "Lines keep their voice, a join its first line's."
  pub keeps : (n : ℕ) (row next : List Spine) → At h recs n row → At h recs (suc n) next →
      (i j : ℕ) → origin_in (recs n) j ≡ from i → spine_at next j ≡ spine_at row i
  -- A branch gets the lowest voice: each lower one is that of a line of its part in the new row, or of a branch further left (and no other
  -- line has its own, by `differ`).
  pub lowest : (n : ℕ) (row next : List Spine) → At h recs n row → At h recs (suc n) next →
      (j k p : ℕ) → origin_in (recs n) j ≡ branch_of k → part h recs (suc n) j ≡ some p →
      (v : ℕ) × (spine_at next j ≡ Line p v) × ((u : ℕ) → u < v → (i : ℕ) × (spine_at next i ≡ Line p u) × (precedes recs n j i ≡ true))
  -- With no active spine left the next record ends the reading.
  pub ends : (n : ℕ) (row : List Spine) → At h recs n row → (read_to h recs (suc n) ≡ ended) ↔ (columns h recs n ≡ 0)
  -- Question 6, with the record's count of tokens.
  pub question_6 : (n : ℕ) (row : List Spine) → At h recs n row → 1 ≤ columns h recs n → (f : ℕ) →
      (read_to h recs (suc n) ≡ refused 6 f) ↔ ((tokens (recs n) ≢ columns h recs n) × (f ≡ tokens (recs n)))
  -- "any other keeps the row"
  pub plain_keeps : (n : ℕ) (row : List Spine) → At h recs n row → Fits h recs n → (k : ℕ) → recs n ≡ plain k → At h recs (suc n) row
  -- Question 17, exactly where a run of `*v` mixes origins, with the first such run's first column.
  pub question_17 : (n : ℕ) (row : List Spine) → At h recs n row → Fits h recs n → (ts : List PathToken) → recs n ≡ star ts → (f : ℕ) →
      (read_to h recs (suc n) ≡ refused 17 f) ↔ FirstMixed h recs n f
  -- Where none does: question 8, exactly where "a part would hold over four lines", at whatever width; and the part that is named.
  pub question_8 : (n : ℕ) (row : List Spine) → At h recs n row → Fits h recs n → (ts : List PathToken) → recs n ≡ star ts → Unmixed h recs n →
      ((q : ℕ) × (read_to h recs (suc n) ≡ refused 8 q)) ↔ ((p : ℕ) × (4 < lines h recs (suc n) p))
  pub names : (n : ℕ) (row : List Spine) → At h recs n row → (q : ℕ) → read_to h recs (suc n) ≡ refused 8 q → FirstWithout h recs n q
  -- Question 9, with the count of spines, where no part would hold over four lines.
  pub question_9 : (n : ℕ) (row : List Spine) → At h recs n row → Fits h recs n → (ts : List PathToken) → recs n ≡ star ts → Unmixed h recs n → (f : ℕ) →
      (read_to h recs (suc n) ≡ refused 9 f) ↔ (((p : ℕ) → lines h recs (suc n) p ≤ 4) × (256 < f) × (f ≡ columns h recs (suc n)))
  -- Else the record is taken.
  pub goes_on : (n : ℕ) (row : List Spine) → At h recs n row → Fits h recs n → (ts : List PathToken) → recs n ≡ star ts → Unmixed h recs n →
      ((p : ℕ) → lines h recs (suc n) p ≤ 4) → columns h recs (suc n) ≤ 256 → (next : List Spine) × At h recs (suc n) next
  -- A record in which a run mixes origins is neither taken nor refused with 8.
  pub unmixed : (n : ℕ) (row next : List Spine) → At h recs n row → At h recs (suc n) next → Unmixed h recs n
  pub unmixed_8 : (n : ℕ) (row : List Spine) → At h recs n row → (q : ℕ) → read_to h recs (suc n) ≡ refused 8 q → Unmixed h recs n
  -- "an accepted trace ends in the same part, or outside kern, whichever line of a join it follows"; the leftmost trace is one of them.
  pub one_origin : (n : ℕ) (row : List Spine) → At h recs n row → (j : ℕ) (e : Option Ending) → MayEnd recs n j e → bind e (end_part h recs) ≡ part h recs n j
  pub leftmost : (n j : ℕ) → MayEnd recs n j (trace recs n j)
