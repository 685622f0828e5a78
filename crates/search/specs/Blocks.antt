-- Parts of a list without a byte.
use Rattle.std.specs.Prelude.{◌≡◌, ℕ, ◌+◌, ◌-◌, ◌≤◌, List, length, drop}
use Rattle.slices.specs.Split.{index_of}

-- no b stands from `from` up to r: a search from `from` on goes as far as r, and from there on like one from r on
pub record Without (b : ℕ) (s : List ℕ) (from r : ℕ) : Type 0 where
  pub low : from ≤ r
  pub high : r ≤ length s
  pub same : index_of b (drop from s) ≡ (r - from) + index_of b (drop r s)
