-- The reader's answer as the library gives it.
use Rattle.std.specs.Prelude.{◌≡◌, ℕ, List, [], ◌∷◌, cond, eqb, get_or, Option, None, Some}
use Rattle.sheet.specs.declared.Span.{Span}
use Rattle.holders.specs.declared.list.Holder.{Holder}
use Rattle.holders.specs.Holders.{Five}

-- the number of the refusal, 0 for an acceptance
abbrev pub number_of : ℕ × ℕ × ℕ → ℕ
number_of a = a.0

-- the figure of the refusal, the sheet's length for an acceptance
abbrev pub figure_of : ℕ × ℕ × ℕ → ℕ
figure_of a = a.2

-- number, line and figure of the refusal; 0, 0 and the sheet's length for an acceptance
abbrev pub three_of : ℕ × ℕ × ℕ → List ℕ
three_of a = a.0 ∷ a.1 ∷ a.2 ∷ []

-- the numbers of a lent array, back
abbrev pub numbers_in : List ℕ → ℕ × ℕ × ℕ
numbers_in a = (get_or a 0 0, get_or a 1 0, get_or a 2 0)

-- a sheet's byte that says whether a name is given, and where the name then stands
abbrev pub given_name : ℕ → ℕ → ℕ → Option Span
given_name given at len = cond (eqb given 0) None (Some (record { at = at; len = len }))

-- the entries of a list as numbers: column, voice and header column of each
unfoldable pub entry_numbers : List Holder → List ℕ
entry_numbers [] = []
entry_numbers (x ∷ xs) = x.column ∷ x.voice ∷ x.header ∷ entry_numbers xs

-- an array that holds five entries, the first four of all four voices
pub record FiveEntries (numbers : List ℕ) : Type 0 where
  pub entries : List Holder
  pub five : Five entries
  pub same : numbers ≡ entry_numbers entries
