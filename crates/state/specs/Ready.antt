-- What keeps the numbers of a reading small.
use Rattle.std.specs.Prelude.{◌≡◌, ℕ, ◌<◌, ◌≤◌, List, length, Result, Ok, Err}
use Rattle.paths.specs.Row.{spine_at}
use Rattle.paths.specs.declared.Spine.{Spine}
use Rattle.paths.specs.declared.Spine.TheVariants.{Line}
use Rattle.spines.specs.Cells.{row_of}
use Rattle.reading.specs.State.{State}
use Rattle.state.specs.declared.Tally.{Tally}
use Rattle.state.specs.declared.Flow.{Flow}
use Rattle.state.specs.declared.Flow.TheVariants.{Goes, Ends}
use Rattle.refusal.specs.declared.Refusal.{Refusal}

-- every kern line of the row is of one of n parts
abbrev pub Within : List Spine → ℕ → Type 0
Within row n = (j p v : ℕ) → spine_at row j ≡ Line p v → p < n

-- of the active spines' cells and the counts
pub record Ready (cells : List ℕ) (t : Tally) : Type 0 where
  pub cells_long : length cells ≤ 256
  pub parts_few : t.parts ≤ 256
  pub bars_few : t.bars ≤ 100000
  pub within : Within (row_of cells) t.parts

-- the same of a state
pub record Steady (st : State) : Type 0 where
  pub row_short : length st.row ≤ 256
  pub parts_few : length st.parts ≤ 256
  pub bars_few : st.bars ≤ 100000
  pub within : Within st.row (length st.parts)

-- at most 256 parts, where no refusal stops the reading
abbrev pub Few : Result Tally Refusal → Type 0
Few (Ok t) = t.parts ≤ 256
Few (Err r) = Unit {0}

-- the same of an answer with which the reading may end
abbrev pub FewFlow : Result Flow Refusal → Type 0
FewFlow (Ok (Goes t)) = t.parts ≤ 256
FewFlow (Ok (Ends t)) = t.parts ≤ 256
FewFlow (Err r) = Unit {0}
