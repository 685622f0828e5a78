-- "the lengths add up to the hole, as whole numbers, at every division".
use Rattle.std.specs.Prelude.{◌≡◌, ℕ, ◌+◌, ◌*◌, ◌<◌, false, List, [], ◌∷◌, ◌++◌, length, drop}
use Rattle.duration.specs.Length.{Fraction, ◌over◌, SameLength, note_length}
use Rattle.sheet.specs.declared.Note.{Note}
use Rattle.sheet.specs.Fits.{All, Fits}
use Rattle.gap.specs.Fill.{records, rests_bytes}

-- how long a NOTE lasts, in whole notes
abbrev pub lasts : Note → Fraction
lasts n = note_length n.value n.dots n.actual n.normal false

-- each rest lasts a whole number of ticks above 0, four quarters being a whole note, and together they last so many
pub data AddsUp (divisions : ℕ) : List Note → ℕ → Type 0 where
  no_rest : AddsUp divisions [] 0
  one_more : {n : Note} {ns : List Note} {k : ℕ} (t : ℕ) → 0 < t → SameLength (lasts n) (t over (divisions * 4)) → AddsUp divisions ns k
      → AddsUp divisions (n ∷ ns) (t + k)

-- a buffer begins with rests that fill the hole, each number of theirs within its width, and goes on as before
pub record FilledWith (ticks divisions : ℕ) (old new : List ℕ) : Type 0 where
  pub rests : List Note
  pub begins : new ≡ rests_bytes rests ++ drop (length (rests_bytes rests)) old
  pub adds : AddsUp divisions rests ticks
  pub fits : All Fits (records rests)
