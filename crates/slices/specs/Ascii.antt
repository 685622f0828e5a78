-- Words spelled as text.
use Rattle.std.specs.Prelude.{ℕ, List, [], ◌∷◌}
use Prim.Native.Char.{code}
use Prim.Native.String.{String, [] as nothing, ◌∷◌ as ◌before◌}

-- the bytes of a word of ASCII characters
abbrev pub ascii : String → List ℕ
ascii nothing = []
ascii (c before s) = code c ∷ ascii s
