-- The row as the code holds it: a cell, a number, for each spine.
use Rattle.std.specs.Prelude.{ℕ, ◌-◌, ◌/◌, ◌%◌, List, map, Bool, true, false, cond, eqb, ltb}
use Rattle.paths.specs.declared.Spine.{Spine}
use Rattle.paths.specs.declared.Spine.TheVariants.{Line, Branch, Outside}

-- below 8 a spine outside kern; 8 * (part + 1) + v a line of that part with voice v, or, for v over 3, a branch that still needs a voice
unfoldable pub spine_of : ℕ → Spine
spine_of c = cond (eqb (c / 8) 0) Outside (cond (ltb (c % 8) 4) (Line (c / 8 - 1) (c % 8)) (Branch (c / 8 - 1)))

unfoldable pub row_of : List ℕ → List Spine
row_of = map spine_of

-- a branch still needs a voice
abbrev pub is_branch : Spine → Bool
is_branch (Line p v) = false
is_branch (Branch p) = true
is_branch Outside = false
