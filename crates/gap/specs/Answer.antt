-- What is answered, and what the lent buffer holds.
use Rattle.std.specs.Prelude.{ℕ, ◌-◌, cond, List, leb, length, Result, Ok, Err}
use Rattle.slices.specs.Store.{stored}
use Rattle.gap.specs.Fill.{Fill, fill_from, rests_bytes}
use Rattle.gap.specs.declared.Refusal.{Refusal}
use Rattle.gap.specs.declared.Refusal.TheVariants.{Short, NoValue, Full}

-- the number of a refusal, and its figure: "then 13", its figure the length needed
abbrev pub number_of : Refusal → ℕ
number_of (Short long) = 13
number_of NoValue = 14
number_of Full = 15

abbrev pub figure_of : Refusal → ℕ
figure_of (Short long) = long
figure_of NoValue = 0
figure_of Full = 0

-- number, line and figure of a refusal; 0, 0 and the rests' length of an acceptance
abbrev pub numbers_of : Result ℕ Refusal → ℕ × ℕ × ℕ
numbers_of (Err e) = (number_of e, 0, figure_of e)
numbers_of (Ok n) = (0, 0, n)

-- the rests' length, where the buffer has room for them
abbrev pub answered : Fill → ℕ → Result ℕ Refusal
answered (Err e) room = Err e
answered (Ok ns) room = let long = length (rests_bytes ns) in cond (leb long room) (Ok long) (Err (Short long))

-- "a refused hole writes nothing"; else the rests first and the old bytes behind
abbrev pub laid : Fill → List ℕ → List ℕ
laid (Err e) old = old
laid (Ok ns) old = stored old (rests_bytes ns)

-- "the voice, its count given by the caller, would pass 50,000 notes"
abbrev pub fill_of : ℕ → ℕ → ℕ → Fill
fill_of ticks divisions notes = fill_from (50000 - notes) divisions ticks

unfoldable pub gap_answer : ℕ → ℕ → ℕ → List ℕ → ℕ × ℕ × ℕ
gap_answer ticks divisions notes old = numbers_of (answered (fill_of ticks divisions notes) (length old))

unfoldable pub gap_buffer : ℕ → ℕ → ℕ → List ℕ → List ℕ
gap_buffer ticks divisions notes old = laid (fill_of ticks divisions notes) old
