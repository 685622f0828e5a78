-- What the code's answers and the row at exit say, as an outcome of a star record.
use Rattle.std.specs.Prelude.{ℕ, List, take, Result, Ok, Err}
use Rattle.paths.specs.Voices.{Outcome, next, mixed, voiceless, wide}
use Rattle.spines.specs.Cells.{row_of}
use Rattle.voices.specs.declared.Stop.{Stop}
use Rattle.voices.specs.declared.Stop.TheVariants.{Mixed, Voiceless, Wide}

abbrev pub stop_of : Stop → Outcome
stop_of (Mixed c) = mixed c
stop_of (Voiceless p) = voiceless p
stop_of (Wide n) = wide n

-- the row with its voices, or question 8 with the part
abbrev pub given_of : Result (Unit {0}) Stop → List ℕ → Outcome
given_of (Ok u) row = next (row_of row)
given_of (Err e) row = stop_of e

-- the next row's cells stand at the start of the array; a refusal leaves the array free
abbrev pub outcome_of : Result ℕ Stop → List ℕ → Outcome
outcome_of (Ok n) row = next (row_of (take n row))
outcome_of (Err e) row = stop_of e

-- how many spines are active after a record that is taken
abbrev pub active_after : Result ℕ Stop → ℕ
active_after (Ok n) = n
active_after (Err e) = 0
