-- A text among words.
use Rattle.std.specs.Prelude.{ℕ, cond, List, [], ◌∷◌, Option, Some, None}
use Rattle.slices.specs.Compare.{same_bytes}

-- what the first word that s is stands for; none where s is none of the words
unfoldable pub named : {A : Type 0} → List (List ℕ × A) → List ℕ → Option A
named [] s = None
named (w ∷ ws) s = cond (same_bytes w.0 s) (Some w.1) (named ws s)
