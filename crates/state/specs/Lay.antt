-- Records written one after another at a place of a buffer, each where it fits.
use Rattle.std.specs.Prelude.{ℕ, ◌+◌, ◌%◌, ◌^◌, List, [], ◌∷◌, ◌++◌, length, take, drop}
use Rattle.slices.specs.Store.{stored}
use Rattle.sheet.specs.Record.{Record, record_bytes}

-- the place n bytes behind another, as a usize has it
unfoldable pub past : ℕ → ℕ → ℕ
past at n = (at + n) % 2 ^ 64

-- bytes stored in the end of the buffer from a place on
unfoldable pub stored_at : List ℕ → ℕ → List ℕ → List ℕ
stored_at out at bytes = take at out ++ stored (drop at out) bytes

-- "each record is written into the unwritten end of the buffer"
unfoldable pub laid : List ℕ → ℕ → List Record → List ℕ
laid out at [] = out
laid out at (r ∷ rs) = laid (stored_at out at (record_bytes r)) (past at (length (record_bytes r))) rs

-- the place behind them
unfoldable pub behind : ℕ → List Record → ℕ
behind at [] = at
behind at (r ∷ rs) = behind (past at (length (record_bytes r))) rs
