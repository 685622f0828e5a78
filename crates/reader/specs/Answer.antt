-- The answer's numbers.
use Rattle.std.specs.Prelude.{ℕ, Result, Ok, Err}
use Rattle.refusal.specs.Numbers.{number_of, line_of, figure_of}
use Rattle.refusal.specs.declared.Refusal.{Refusal}

-- number, line and figure of a refusal; 0, 0 and the sheet's length of an acceptance
abbrev pub numbers_of : Result ℕ Refusal → ℕ × ℕ × ℕ
numbers_of (Ok n) = (0, 0, n)
numbers_of (Err r) = (number_of r, line_of r, figure_of r)
