-- A record as far as paths go, repaired.
use Rattle.std.specs.Prelude.{ℕ, List, length}
use Rattle.paths.specs.declared.PathToken.{PathToken}

-- "begun by `*` it makes the next row by Paths", "any other keeps the row": a bar or data record with its count of tokens
pub data Rec : Type 0 where
  star : List PathToken → Rec
  plain : ℕ → Rec

-- how many tokens it has
abbrev pub tokens : Rec → ℕ
tokens (star ts) = length ts
tokens (plain k) = k
