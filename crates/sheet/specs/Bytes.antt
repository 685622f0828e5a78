-- Numbers in bytes, little-endian.
use Rattle.std.specs.Prelude.{ℕ, ◌+◌, ◌*◌, ◌/◌, ◌%◌, List, [], ◌∷◌, get_or}

-- a u16, and a u32: the lowest byte first
abbrev pub le2 : ℕ → List ℕ
le2 n = n % 256 ∷ n / 256 % 256 ∷ []

abbrev pub le4 : ℕ → List ℕ
le4 n = n % 256 ∷ n / 256 % 256 ∷ n / 65536 % 256 ∷ n / 16777216 % 256 ∷ []

-- the number that stands at an offset, one, two or four bytes wide
abbrev pub read1 : List ℕ → ℕ → ℕ
read1 s i = get_or s i 0

abbrev pub read2 : List ℕ → ℕ → ℕ
read2 s i = read1 s i + 256 * read1 s (i + 1)

abbrev pub read4 : List ℕ → ℕ → ℕ
read4 s i = read1 s i + 256 * read1 s (i + 1) + 65536 * read1 s (i + 2) + 16777216 * read1 s (i + 3)
