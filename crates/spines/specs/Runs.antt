-- What the code answers of a record's runs of `*v`: question 17 with the column from 1, or what comes after it.
use Rattle.std.specs.Prelude.{ℕ, Option, Some, None}
use Rattle.paths.specs.Voices.{Outcome, mixed}

abbrev pub runs_of : Option ℕ → Outcome → Outcome
runs_of None o = o
runs_of (Some c) o = mixed c
