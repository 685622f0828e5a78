-- "a star record reached after the header, stopped by no earlier question"
use Rattle.std.specs.Prelude.{Ok, ℕ, suc, ◌+◌, ◌<◌, ◌≤◌, Bool, true, false, ◌||◌, List, [], ◌∷◌, ◌++◌, ◌↔◌, ◌≡◌, length}
use Rattle.std.proofs.Math.Option.{Option, none, some}
use Rattle.lines.specs.Lines.{lines_of, without_crs, kind_of}
use Rattle.lines.specs.Tokens.{tokens_of}
use Rattle.lines.specs.declared.Kind.TheVariants.{Star}
use Rattle.utf8.specs.Utf8.{utf8_length}
use Rattle.repair.specs.Repair.{repaired_of}
use Rattle.repair.specs.declared.Repair.{Repair}
use Rattle.paths.specs.Trace.{lines, FirstWithout, Unmixed, FirstMixed}
use Rattle.reading.specs.State.{State, Step, refused, goes, ends, start}
use Rattle.reading.specs.Records.{read_line, is_record}
use Rattle.account.specs.Rows.{header_of, paths_of, records_from, later_in}

-- whether the header was met, and the state
pub record Place : Type 0 where
  pub begun : Bool
  pub state : State

abbrev pub where_goes : Step → (State → Option Place) → Option Place
where_goes (refused n l f) rest = none
where_goes (goes r) rest = rest r.state
where_goes (ends r) rest = none

-- the reading after some lines, the first of which has the number k + 1, where no question stops it and no record ends it
unfoldable pub place_after : Bool → ℕ → ℕ → State → List (List ℕ) → Option Place
place_after begun k at st [] = some (record { begun = begun; state = st })
place_after begun k at st (l ∷ ls) =
    where_goes (read_line begun (k + 1) at (without_crs l) st)
    (λ (s : State). place_after (begun || is_record (kind_of (without_crs l))) (k + 1) (at + length l + 1) s ls)

-- the line behind some lines is a star record, reached after the header: the row has spines left, and questions 1 to 7 pass
pub record ReachedStar (text : List ℕ) (before : List (List ℕ)) (here : List ℕ) (rest : List (List ℕ)) : Type 0 where
  pub short : length text ≤ 67108864
  pub well_formed : utf8_length text ≡ length text
  pub cut : lines_of text ≡ before ++ (here ∷ rest)
  pub state : State
  pub reached : place_after false 0 0 start before ≡ some (record { begun = true; state = state })
  pub is_star_lem : kind_of (without_crs here) ≡ Star
  pub some_spine : 0 < length state.row
  pub repair : Repair
  pub even : repaired_of (length state.row) (tokens_of (without_crs here)) ≡ Ok repair

-- how many records stand behind the header among some lines
abbrev pub later_among : List (List ℕ) → ℕ
later_among ls = length (later_in (records_from 0 ls))

-- "17, put after 7 and before 8, a run of `*v` mixes origins; figure the first such run's first column, from 1": the answer's number, line and figure
pub record Question17 (text : List ℕ) (answer : ℕ × ℕ × ℕ) : Type 0 where
  pub exactly : (before rest : List (List ℕ)) (here : List ℕ) → ReachedStar text before here rest → (f : ℕ) →
      (answer ≡ (17, length before + 1, f)) ↔ FirstMixed (header_of text) (paths_of text) (later_among before) f
  -- no other record is refused with 17
  pub only : (k f : ℕ) → answer ≡ (17, k, f) →
      (before : List (List ℕ)) × (here : List ℕ) × (rest : List (List ℕ)) × ReachedStar text before here rest × (k ≡ length before + 1)

-- "stopped by no earlier question, is refused with 8 exactly when a part would hold over four lines", with the line and the part of the first that finds
-- no voice: the answer's number, line and figure
pub record Question8 (text : List ℕ) (answer : ℕ × ℕ × ℕ) : Type 0 where
  pub exactly : (before rest : List (List ℕ)) (here : List ℕ) → ReachedStar text before here rest → Unmixed (header_of text) (paths_of text) (later_among before) →
      ((q : ℕ) × (answer ≡ (8, length before + 1, q))) ↔ ((p : ℕ) × (4 < lines (header_of text) (paths_of text) (suc (later_among before)) p))
  -- no other record is refused with 8
  pub only : (k q : ℕ) → answer ≡ (8, k, q) →
      (before : List (List ℕ)) × (here : List ℕ) × (rest : List (List ℕ)) × ReachedStar text before here rest × (k ≡ length before + 1)
      × Unmixed (header_of text) (paths_of text) (later_among before) × FirstWithout (header_of text) (paths_of text) (later_among before) q
