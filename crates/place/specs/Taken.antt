-- A line of a text, and the place behind it.
use Rattle.std.specs.Prelude.{◌≡◌, ℕ, ◌+◌, ◌-◌, ◌≤◌, List, length, take, drop}
use Rattle.lines.specs.Lines.{piece_end, without_crs}

-- the bytes, number and offset of the line that begins at `at`, behind so many lines, and the place past it
pub record Taken (text : List ℕ) (at line at' line' : ℕ) (bytes : List ℕ) (number offset : ℕ) : Type 0 where
  pub on : at ≤ length text
  pub moved : at' ≡ piece_end 10 text at + 1
  pub counted : line' ≡ line + 1
  pub bytes_are : bytes ≡ without_crs (take (at' - 1 - at) (drop at text))
  pub number_is : number ≡ line'
  pub offset_is : offset ≡ at
