-- WHAT THE TEXT SAYS of its rows: "Demand 3 is measured by rows of columns, from the text alone." Quoted are document 01's sentences.
use Rattle.std.specs.Prelude.{ℕ, zero, suc, ◌+◌, Bool, true, false, cond, List, [], ◌∷◌, map, length, get_or}
use Rattle.lines.specs.Lines.{lines_of, without_crs, kind_of}
use Rattle.lines.specs.Tokens.{tokens_of, is_kern}
use Rattle.lines.specs.declared.Kind.{Kind}
use Rattle.lines.specs.declared.Kind.TheVariants.{Empty, Reference, Comment, Star, Bar, Data}
use Rattle.paths.specs.Record.{Rec, plain}
use Rattle.paths.specs.Trace.{width_in}
use Rattle.repair.specs.Record.{record_of}
use Rattle.repair.specs.Repair.{repaired}

-- a record with the number of its line
pub record Numbered : Type 0 where
  pub number : ℕ
  pub bytes : List ℕ

-- "neither empty nor begun by `!`"
abbrev pub is_record : Kind → Bool
is_record Empty = false
is_record Reference = false
is_record Comment = false
is_record Star = true
is_record Bar = true
is_record Data = true

-- the records among lines, the first of which has the number k + 1
unfoldable pub records_from : ℕ → List (List ℕ) → List Numbered
records_from k [] = []
records_from k (l ∷ ls) =
    cond (is_record (kind_of (without_crs l))) (record { number = k + 1; bytes = without_crs l } ∷ records_from (k + 1) ls) (records_from (k + 1) ls)

unfoldable pub records_of : List ℕ → List Numbered
records_of text = records_from 0 (lines_of text)

-- "the header, the first record": which of its columns are `**kern`, and the later records
abbrev pub header_in : List Numbered → List Bool
header_in [] = []
header_in (r ∷ rs) = map is_kern (tokens_of r.bytes)

abbrev pub later_in : List Numbered → List Numbered
later_in [] = []
later_in (r ∷ rs) = rs

abbrev pub header_of : List ℕ → List Bool
header_of text = header_in (records_of text)

abbrev pub later_of : List ℕ → List Numbered
later_of text = later_in (records_of text)

-- "Each later record .., repaired", as far as paths go, voices aside: w columns stand before the first of them
unfoldable pub paths_from : ℕ → List Numbered → List Rec
paths_from w [] = []
paths_from w (r ∷ rs) = record_of w r.bytes ∷ paths_from (width_in (record_of w r.bytes) w) rs

-- the n-th of them, from 0
unfoldable pub paths_of : List ℕ → ℕ → Rec
paths_of text n = get_or (paths_from (length (header_of text)) (later_of text)) n (plain 0)

-- ---- the records that are taken
-- a taken record: its line's number, its kind, its tokens after repair
pub record Taken : Type 0 where
  pub number : ℕ
  pub kind : Kind
  pub tokens : List (List ℕ)

-- "Each later record .., repaired, is taken while the row isn't empty and no question stops it": of an accepted text, which no question stops. w columns
-- stand before the first of them
unfoldable pub taken_from : ℕ → List Numbered → List Taken
taken_from w [] = []
taken_from zero (r ∷ rs) = []
taken_from (suc w) (r ∷ rs) =
    record { number = r.number; kind = kind_of r.bytes; tokens = repaired (suc w) (tokens_of r.bytes) }
    ∷ taken_from (width_in (record_of (suc w) r.bytes) (suc w)) rs

-- "The first row is the header": as many columns
unfoldable pub taken_of : List ℕ → List Taken
taken_of text = taken_from (length (header_of text)) (later_of text)
