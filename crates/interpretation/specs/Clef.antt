-- Clefs.
use Rattle.std.specs.Prelude.{ℕ, List, [], ◌∷◌, Result}
use Rattle.std.specs.Option.{option_map, ok_or}
use Rattle.slices.specs.Ascii.{ascii}
use Rattle.interpretation.specs.Words.{named}
use Rattle.interpretation.specs.declared.clef.Clef.{Clef as ClefSign}
use Rattle.interpretation.specs.declared.clef.Clef.TheVariants.{Treble, TrebleBelow, TrebleAbove, Bass, BassBelow, Soprano, MezzoSoprano, Alto, Tenor, Baritone, Percussion}
use Rattle.interpretation.specs.declared.Interpretation.{Interpretation}
use Rattle.interpretation.specs.declared.Interpretation.TheVariants.{Clef}
use Rattle.interpretation.specs.declared.Unsupported.{Unsupported}
use Rattle.interpretation.specs.declared.Unsupported.TheVariants.{OtherClef}

-- the source's match order: G2, Gv2, G^2, F4, Fv4, C1, C2, C3, C4, C5, X
unfoldable pub clefs : List (List ℕ × ClefSign)
clefs =
    (ascii "G2", Treble)
    ∷ (ascii "Gv2", TrebleBelow)
    ∷ (ascii "G^2", TrebleAbove)
    ∷ (ascii "F4", Bass)
    ∷ (ascii "Fv4", BassBelow)
    ∷ (ascii "C1", Soprano)
    ∷ (ascii "C2", MezzoSoprano)
    ∷ (ascii "C3", Alto)
    ∷ (ascii "C4", Tenor)
    ∷ (ascii "C5", Baritone)
    ∷ (ascii "X", Percussion)
    ∷ []

-- document 01: "clef (0 none, 1 to 11 in the source's match order, Treble 1)"
abbrev pub clef_number : ClefSign → ℕ
clef_number Treble = 1
clef_number TrebleBelow = 2
clef_number TrebleAbove = 3
clef_number Bass = 4
clef_number BassBelow = 5
clef_number Soprano = 6
clef_number MezzoSoprano = 7
clef_number Alto = 8
clef_number Tenor = 9
clef_number Baritone = 10
clef_number Percussion = 11

-- the clef that a text names, else notice 9
unfoldable pub clef_of : List ℕ → Result Interpretation Unsupported
clef_of s = ok_or (option_map Clef (named clefs s)) OtherClef
