-- Outcomes one after another.
use Rattle.std.proofs.Common.{◌≡◌, ℕ, List, refl, ap₂}
use Rattle.reading.specs.State.{State, Result, Step, refused, goes, ends}
use Rattle.reading.specs.Notes as notes
use Rattle.state.specs.Lay.{laid, behind}
use Rattle.state.specs.View.{going, ending, landed}
use Rattle.state.proofs.LayLaws.{laid_append, behind_append}

-- a result before a step: the step's records are laid behind the result's
pub landed_behind : (r : Result) (f : State → Step) (out : List ℕ) (at : ℕ)
    → landed (notes.behind r f) out at ≡ landed (f r.state) (laid out at r.records) (behind at r.records)
landed_behind r f out at = go (f r.state) refl
  where
    go : (s : Step) → f r.state ≡ s → landed (notes.behind r f) out at ≡ landed (f r.state) (laid out at r.records) (behind at r.records)
    go (refused n l g) e = rw e
    go (goes s) e = rw e (ap₂ (going s.state) (behind_append r.records s.records at) (laid_append r.records s.records out at))
    go (ends s) e = rw e (ap₂ (ending s.state) (behind_append r.records s.records at) (laid_append r.records s.records out at))
