-- What holds where a line is read: as many cells as spines are active, and a record that is as long.
use Rattle.std.specs.Prelude.{Ok, ◌≡◌, ℕ, List, length, take}
use Rattle.lines.specs.Tokens.{tokens_of}
use Rattle.repair.specs.Repair.{repaired_of}
use Rattle.repair.specs.declared.Repair.{Repair}
use Rattle.state.specs.Ready.{Ready}
use Rattle.state.specs.declared.Tally.{Tally}

-- the row is the first active cells of an array
pub record Under (row : List ℕ) (t : Tally) : Type 0 where
  pub ready : Ready (take t.active row) t
  pub long : length (take t.active row) ≡ t.active

-- questions 6 and 7 pass
abbrev pub Evenly : ℕ → List ℕ → Type 0
Evenly n line = (r : Repair) × (repaired_of n (tokens_of line) ≡ Ok r)
