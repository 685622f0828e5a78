-- The notices' codes and reasons, spelled as the source has them.
use Rattle.std.specs.Prelude.{ℕ, List, [], ◌∷◌, ◌++◌, get_or}
use Prim.Native.String.{String}
use Rattle.slices.specs.Ascii.{ascii}

-- what the table has of a number
pub record Entry : Type 0 where
  pub code : List ℕ
  pub reason : List ℕ

-- an entry by the code behind its `humdrum.`, and the reason
abbrev notice : String → String → Entry
notice code reason = record { code = ascii "humdrum." ++ ascii code; reason = ascii reason }

-- a number that is no notice has neither
abbrev nothing : Entry
nothing = record { code = []; reason = [] }

-- "The code and wording of each notice come from one table, spelled as the source has them": the notices from 0 on
unfoldable pub table : List Entry
table =
    nothing
    ∷ notice "unsupported-reference" "Humdrum reference record is not represented in the score model"
    ∷ notice "unsupported-spine" "only **kern spines are imported"
    ∷ notice "unsupported-segment" "records after every spine terminated are not imported"
    ∷ notice "trailing-empty-field" "trailing empty tab fields were ignored"
    ∷ notice "missing-null-interpretation" "missing trailing interpretation fields were treated as null interpretations"
    ∷ notice "missing-barline-field" "missing trailing barline fields were copied from identical barlines"
    ∷ notice "unsupported-spine-add" "a spine added with *+ is not imported"
    ∷ notice "unsupported-mid-measure-change" "clef, key and meter changes inside a bar are not imported"
    ∷ notice "unsupported-interpretation" "clef is outside the supported subset"
    ∷ notice "unsupported-interpretation" "malformed key signature"
    ∷ notice "unsupported-interpretation" "non-standard key signature"
    ∷ notice "unsupported-interpretation" "meter is outside the supported subset"
    ∷ notice "unsupported-interpretation" "mensuration sign is outside the subset"
    ∷ notice "unsupported-interpretation" "tempo is outside the supported subset"
    ∷ notice "unsupported-interpretation" "interpretation is outside the supported subset"
    ∷ notice "unsupported-duration" "rational (%) or repeated durations are outside the subset"
    ∷ notice "unsupported-signifier" "kern signifiers outside the supported subset were not imported"
    ∷ notice "unsupported-token" "data token has neither a pitch nor a rest"
    ∷ notice "unsupported-duration" "reciprocal duration is outside the supported range"
    ∷ notice "inferred-duration" "missing reciprocal duration was inferred from aligned music spines"
    ∷ notice "missing-duration" "a non-grace kern token needs a duration"
    ∷ []

-- the code and the reason of a number
abbrev pub code_of : ℕ → List ℕ
code_of n = (get_or table n nothing).code

abbrev pub reason_of : ℕ → List ℕ
reason_of n = (get_or table n nothing).reason
