-- What a record gives its bare columns: asked for at the first of them, and kept.
use Rattle.std.specs.Prelude.{◌≡◌, Bool, true, false, List, ℕ, Option, None, IfSome}
use Rattle.lines.specs.Tokens.{tokens_of}
use Rattle.duration.specs.Ratio.{spelled_value}
use Rattle.duration.specs.declared.Value.{Value}
use Rattle.peers.specs.Peers.{kern_cells, agreed_digits}

-- the value of the length that the summary of a record gives each bare column
abbrev pub agreed_in : List ℕ → List ℕ → Option Value
agreed_in line row = spelled_value (agreed_digits (tokens_of line) (kern_cells row))

-- what was asked for is that
abbrev pub Agreed : List ℕ → List ℕ → Option (Option Value) → Type 0
Agreed line row agreed = IfSome agreed (λ v. v ≡ agreed_in line row)

-- the length that a token gets: none where it isn't bare
abbrev pub inferred_by : Bool → List ℕ → List ℕ → Option Value
inferred_by true line row = agreed_in line row
inferred_by false line row = None
