-- The path tokens of a record for n spines.
use Rattle.std.specs.Prelude.{◌≡◌, ℕ, zero, suc, List, [], ◌∷◌}
use Rattle.slices.specs.Split.{pieces}
use Rattle.lines.specs.Tokens.{tokens_of}
use Rattle.paths.specs.declared.PathToken.{PathToken}
use Rattle.paths.specs.declared.PathToken.TheVariants.{Other}
use Rattle.paths.specs.Token.{path_token}

-- those of the first n tokens; where there are fewer, a filled `*` is none of the path tokens
unfoldable pub path_tokens : ℕ → List (List ℕ) → List PathToken
path_tokens zero ts = []
path_tokens (suc n) [] = Other ∷ path_tokens n []
path_tokens (suc n) (t ∷ ts) = path_token t ∷ path_tokens n ts

abbrev pub record_tokens : ℕ → List ℕ → List PathToken
record_tokens n line = path_tokens n (tokens_of line)

-- n of them, the first of which is at hand
unfoldable pub at_hand : ℕ → PathToken → List (List ℕ) → List PathToken
at_hand zero t ts = []
at_hand (suc n) t ts = t ∷ path_tokens n ts

-- the token that begins at `from`, where n are still wanted, and where the next one begins
pub record Ahead (line : List ℕ) (from n : ℕ) (t : PathToken) (next : ℕ) : Type 0 where
  pub same : path_tokens n (pieces 9 from line) ≡ at_hand n t (pieces 9 next line)
  pub none : n ≡ 0 → t ≡ Other
