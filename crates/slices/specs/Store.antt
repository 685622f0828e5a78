-- A buffer lent for a result.
use Rattle.std.specs.Prelude.{ℕ, List, ◌++◌, cond, leb, length, drop}

-- the result first and the buffer's old bytes behind; all of the old bytes where the result doesn't fit
unfoldable pub stored : List ℕ → List ℕ → List ℕ
stored old bytes = cond (leb (length bytes) (length old)) (bytes ++ drop (length bytes) old) old
