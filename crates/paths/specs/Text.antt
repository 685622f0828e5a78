-- The reading of a text's records, one after another.
use Rattle.std.specs.Prelude.{Bool, true, false, cond, List, [], ◌∷◌, ℕ, zero, suc, eqb, length}
use Rattle.paths.specs.Record.{Rec, star, plain, tokens}
use Rattle.paths.specs.declared.Spine.{Spine}
use Rattle.paths.specs.declared.Spine.TheVariants.{Line, Outside}
use Rattle.paths.specs.Voices.{Outcome, next, mixed, voiceless, wide, step_row}

-- "The first row is the header, `**kern` columns with voice 0": h says which columns these are, and the parts are numbered on from p
unfoldable pub header_from : ℕ → List Bool → List Spine
header_from p [] = []
header_from p (true ∷ h) = Line p 0 ∷ header_from (suc p) h
header_from p (false ∷ h) = Outside ∷ header_from p h

abbrev pub header_row : List Bool → List Spine
header_row h = header_from 0 h

-- how far the reading has come: to a row; to its end; or to a question that stops it, with the question's number and figure
pub data Reading : Type 0 where
  reached : List Spine → Reading
  ended : Reading
  refused : ℕ → ℕ → Reading

abbrev pub reading : Outcome → Reading
reading (next row) = reached row
reading (mixed c) = refused 17 c
reading (voiceless p) = refused 8 p
reading (wide n) = refused 9 n

-- "begun by `*` it makes the next row by Paths", "any other keeps the row"
abbrev pub read_record : List Spine → Rec → Reading
read_record row (star ts) = reading (step_row row ts)
read_record row (plain k) = reached row

-- "taken while the row isn't empty": with no active spine left a record "is put no question" and "ends the reading"; else question 6 comes first
unfoldable pub take_record : List Spine → Rec → Reading
take_record [] r = ended
take_record (s ∷ row) r = cond (eqb (tokens r) (length (s ∷ row))) (read_record (s ∷ row) r) (refused 6 (tokens r))

abbrev pub and_then : Reading → (List Spine → Reading) → Reading
and_then (reached row) k = k row
and_then ended k = ended
and_then (refused q f) k = refused q f

-- after n records
unfoldable pub read_to : List Bool → (ℕ → Rec) → ℕ → Reading
read_to h recs zero = reached (header_row h)
read_to h recs (suc n) = and_then (read_to h recs n) (λ row. take_record row (recs n))
