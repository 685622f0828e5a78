-- The voice of one more branch, among the lines and branches of its part that have theirs.
use Rattle.std.specs.Prelude.{Bool, false, ◌||◌, List, [], ◌∷◌, ℕ, eqb}
use Rattle.paths.specs.TracedVoice.{lowest_free}
use Rattle.holders.specs.declared.list.Holder.{Holder}

-- whether one of them has the voice
unfoldable pub has : ℕ → List Holder → Bool
has v [] = false
has v (x ∷ xs) = eqb v x.voice || has v xs

-- "each the lowest of 0 to 3 that no line of its part has"; "(4 for the last)", which finds none: the text's own words, as in TracedVoice
unfoldable pub free_voice : List Holder → ℕ
free_voice hs = lowest_free (λ v. has v hs)
