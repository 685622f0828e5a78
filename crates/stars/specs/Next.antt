-- What the code answers when the row has stepped.
use Rattle.std.specs.Prelude.{ℕ, Result, Ok, Err}
use Rattle.voices.specs.declared.Stop.{Stop}
use Rattle.voices.specs.declared.Stop.TheVariants.{Mixed, Voiceless, Wide}
use Rattle.state.specs.declared.Tally.{Tally}
use Rattle.state.specs.Counts.{with_active}
use Rattle.refusal.specs.declared.Refusal.{Refusal}
use Rattle.refusal.specs.declared.Refusal.TheVariants.{StaffFull, ManySpines, MixedJoin}

-- "17, .. figure the first such run's first column"; "8, figure the part of the first that doesn't"; "9, figure their count"
abbrev pub stepped : Result ℕ Stop → Tally → ℕ → Result Tally Refusal
stepped (Ok n) t k = Ok (with_active t n)
stepped (Err (Mixed c)) t k = Err (MixedJoin k c)
stepped (Err (Voiceless p)) t k = Err (StaffFull k p)
stepped (Err (Wide n)) t k = Err (ManySpines k n)
