-- Well-formed UTF-8 as the grammar of RFC 3629, section 4.
use Rattle.std.specs.Prelude.{ℕ, ◌≤◌}
use mathlib.Core.List.{List, [], ◌∷◌, ◌++◌, Memᴰ}
use Rattle.utf8.specs.Utf8.{Range, table}

-- a byte of each range in turn, and nothing behind
pub data Spells : List Range → List ℕ → Type 0 where
  none : Spells [] []
  byte : {r : Range} {rs : List Range} {b : ℕ} {s : List ℕ} → r.0 ≤ b → b ≤ r.1 → Spells rs s → Spells (r ∷ rs) (b ∷ s)

-- UTF8-octets = *( UTF8-char )
pub data WellFormed : List ℕ → Type 0 where
  empty : WellFormed []
  character : {row : List Range} {c s : List ℕ} → Memᴰ row table → Spells row c → WellFormed s → WellFormed (c ++ s)
