-- What a token gives, as cells, and what then stands to the left: a turn of `walk`.
use Rattle.std.specs.Prelude.{◌≡◌, ℕ, ◌≤◌, [], ◌∷◌, Bool, take}
use Rattle.paths.specs.declared.PathToken.{PathToken}
use Rattle.paths.specs.Walk.{Mode, alone, joining, exchanging, act, after, emit}
use Rattle.spines.specs.Cells.{spine_of, row_of}
use Rattle.spines.specs.declared.Left.{Left}
use Rattle.spines.specs.declared.Left.TheVariants.{Nothing, Joined, Exchanged}

abbrev pub mode_of : Left → Mode
mode_of Nothing = alone
mode_of Joined = joining
mode_of Exchanged = exchanging

-- by what stands to the left, the token, and whether an `*x` stands to the right: n of the cells x, y, of b, the cell to the left, c, its own, and
-- d, the cell to the right
pub record Emitted (m : Mode) (t : PathToken) (pair : Bool) (b c d n x y : ℕ) (left : Left) : Type 0 where
  pub few : n ≤ 2
  pub gives : row_of (take n (x ∷ y ∷ [])) ≡ emit (act m t pair) (spine_of b) (spine_of c) (spine_of d)
  pub state : mode_of left ≡ after m t pair
