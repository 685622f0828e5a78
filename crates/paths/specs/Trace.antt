-- WHAT THE TEXT SAYS: columns traced backwards by the tokens alone. Nothing here knows of rows being read, or of voices.
-- Quoted are document 01's sentences.
use Rattle.std.specs.Prelude.{Bool, true, false, ◌&&◌, ◌||◌, not, cond, List, [], ◌∷◌, ◌≢◌, ◌≡◌, ℕ, zero, suc, ◌+◌, ◌-◌, pred, ◌≤◌, ◌<◌, eqb, leb, ltb, length, get_or}
use Rattle.std.proofs.Math.Option.{Option, none, some, bind}
use Rattle.paths.specs.declared.PathToken.{PathToken}
use Rattle.paths.specs.declared.PathToken.TheVariants.{Split, Join, Exchange, End, Add, Other}
use Rattle.paths.specs.Token.{is_exchange, is_join}
use Rattle.paths.specs.Record.{Rec, star, plain}

-- where a column of the next row comes from: the same line as the column of that number, a branch of it, or none
pub data Origin : Type 0 where
  from : ℕ → Origin
  branch_of : ℕ → Origin
  nowhere : Origin

-- the token of column i
abbrev pub token_at : List PathToken → ℕ → PathToken
token_at ts i = get_or ts i Other

-- "`*x` paired from the left": column i exchanges with the one to its right, where both are `*x` and it doesn't with the one to its left
unfoldable pub exchanges_right : List PathToken → ℕ → Bool
exchanges_right ts zero = is_exchange (token_at ts 0) && is_exchange (token_at ts 1)
exchanges_right ts (suc i) = is_exchange (token_at ts (suc i)) && is_exchange (token_at ts (suc (suc i))) && not (exchanges_right ts i)

unfoldable pub exchanges_left : List PathToken → ℕ → Bool
exchanges_left ts zero = false
exchanges_left ts (suc i) = exchanges_right ts i

-- the column to its left has a `*v`
unfoldable pub follows_join : List PathToken → ℕ → Bool
follows_join ts zero = false
follows_join ts (suc i) = is_join (token_at ts i)

-- how many columns of the next row a token gives: "`*^` gives the spine and a branch to its right", "a run of adjacent `*v` keeps the first",
-- "`*-` ends", "`*+` adds a spine outside kern on the right"
unfoldable pub gives_of : PathToken → Bool → ℕ
gives_of Split follows = 2
gives_of Join true = 0
gives_of Join false = 1
gives_of Exchange follows = 1
gives_of End follows = 0
gives_of Add follows = 2
gives_of Other follows = 1

unfoldable pub gives : List PathToken → ℕ → ℕ
gives ts i = gives_of (token_at ts i) (follows_join ts i)

-- how many columns of the next row the tokens left of column i give, and how many all give
unfoldable pub before : List PathToken → ℕ → ℕ
before ts zero = 0
before ts (suc i) = before ts i + gives ts i

unfoldable pub width : List PathToken → ℕ
width ts = before ts (length ts)

-- where the first (0) and the second (1) column that the token of column i gives come from: "a branch from its `*^`, a join from its first `*v`,
-- an exchanged one from the other's place, a `*+` column from none"
unfoldable pub source_of : PathToken → Bool → Bool → ℕ → ℕ → Origin
source_of Split right left i zero = from i
source_of Split right left i (suc k) = branch_of i
source_of Join right left i k = from i
source_of Exchange true left i k = from (suc i)
source_of Exchange false true i k = from (pred i)
source_of Exchange false false i k = from i
source_of End right left i k = from i
source_of Add right left i zero = from i
source_of Add right left i (suc k) = nowhere
source_of Other right left i k = from i

unfoldable pub source : List PathToken → ℕ → ℕ → Origin
source ts i k = source_of (token_at ts i) (exchanges_right ts i) (exchanges_left ts i) i k

-- "a column comes from the one whose token gave it": of the columns below n, the last before whose own there are at most j
unfoldable pub look_back : List PathToken → ℕ → ℕ → Origin
look_back ts zero j = nowhere
look_back ts (suc n) j = cond (leb (before ts n) j) (source ts n (j - before ts n)) (look_back ts n j)

unfoldable pub origin : List PathToken → ℕ → Origin
origin ts j = cond (ltb j (width ts)) (look_back ts (length ts) j) nowhere

-- "any other keeps the row"
unfoldable pub origin_in : Rec → ℕ → Origin
origin_in (star ts) j = origin ts j
origin_in (plain k) j = from j

-- the column that it comes from, as the same line or as a branch
abbrev pub column_of : Origin → Option ℕ
column_of (from i) = some i
column_of (branch_of i) = some i
column_of nowhere = none

-- where a trace ends: at a column of the row after so many records, the header's row being that after none
pub record Ending : Type 0 where
  pub row : ℕ
  pub column : ℕ

abbrev pub ending : ℕ → ℕ → Ending
ending n j = record { row = n; column = j }

-- whether a record begins column j of the row that it makes, so that a trace ends there: none does, all end at the header
abbrev pub opens : Rec → ℕ → Bool
opens (star ts) j = false
opens (plain k) j = false

-- column j of the row after n records, "traced backwards" to a column of the header
unfoldable pub trace : (ℕ → Rec) → ℕ → ℕ → Option Ending
trace recs zero j = some (ending 0 j)
trace recs (suc n) j = cond (opens (recs n) j) (some (ending (suc n) j)) (bind (column_of (origin_in (recs n) j)) (trace recs n))

-- columns i to k have a `*v` each: they stand in one run
abbrev pub InRun : List PathToken → ℕ → ℕ → Type 0
InRun ts i k = (i ≤ k) × ((c : ℕ) → i ≤ c → c ≤ k → is_join (token_at ts c) ≡ true)

abbrev pub Joined : Rec → ℕ → ℕ → Type 0
Joined (star ts) i k = InRun ts i k
Joined (plain m) i k = ⊥

-- "whichever line of a join it follows": column j of the row after n records, traced backwards, may end at this row and column, or at none. A join comes
-- from its first `*v` and from any other of its run.
pub data MayEnd (recs : ℕ → Rec) : ℕ → ℕ → Option Ending → Type 0 where
  at_header : {j : ℕ} → MayEnd recs 0 j (some (ending 0 j))
  at_later : {n j : ℕ} → opens (recs n) j ≡ true → MayEnd recs (suc n) j (some (ending (suc n) j))
  from_none : {n j : ℕ} → opens (recs n) j ≡ false → column_of (origin_in (recs n) j) ≡ none → MayEnd recs (suc n) j none
  from_one : {n j i : ℕ} {e : Option Ending} → column_of (origin_in (recs n) j) ≡ some i → MayEnd recs n i e → MayEnd recs (suc n) j e
  from_join : {n j i k : ℕ} {e : Option Ending} → column_of (origin_in (recs n) j) ≡ some i → Joined (recs n) i k → MayEnd recs n k e → MayEnd recs (suc n) j e

-- how many of the header's columns left of column k are `**kern`
unfoldable pub kerns_before : List Bool → ℕ → ℕ
kerns_before h zero = 0
kerns_before [] (suc k) = 0
kerns_before (true ∷ h) (suc k) = suc (kerns_before h k)
kerns_before (false ∷ h) (suc k) = kerns_before h k

-- "a part one `**kern` header column (numbered from 0)": h says which columns are `**kern`, and the parts are numbered on from p
unfoldable pub part_from : ℕ → List Bool → ℕ → Option ℕ
part_from p h k = cond (get_or h k false) (some (p + kerns_before h k)) none

-- how many parts a record makes, and how many there are after n records: those of the header
abbrev pub made_in : Rec → ℕ
made_in (star ts) = 0
made_in (plain k) = 0

unfoldable pub parts_to : List Bool → (ℕ → Rec) → ℕ → ℕ
parts_to h recs zero = kerns_before h (length h)
parts_to h recs (suc n) = parts_to h recs n + made_in (recs n)

-- the part of column j where a record begins it, numbered on from p
abbrev pub opened_part : ℕ → Rec → ℕ → Option ℕ
opened_part p (star ts) j = none
opened_part p (plain k) j = none

-- the part of the column at which a trace ends
unfoldable pub part_at_end : List Bool → (ℕ → Rec) → ℕ → ℕ → Option ℕ
part_at_end h recs zero j = part_from 0 h j
part_at_end h recs (suc n) j = opened_part (parts_to h recs n) (recs n) j

abbrev pub end_part : List Bool → (ℕ → Rec) → Ending → Option ℕ
end_part h recs e = part_at_end h recs e.row e.column

-- "Its part is the `**kern` header column reached; a column that reaches none is outside kern."
unfoldable pub part : List Bool → (ℕ → Rec) → ℕ → ℕ → Option ℕ
part h recs n j = bind (trace recs n j) (end_part h recs)

-- "lines of one part, or lines all outside kern": no run of `*v` of record n mixes origins
abbrev pub Unmixed : List Bool → (ℕ → Rec) → ℕ → Type 0
Unmixed h recs n = (i k : ℕ) → Joined (recs n) i k → part h recs n i ≡ part h recs n k

-- "a run of `*v` mixes origins; figure the first such run's first column, from 1": two columns of one run are of different origins, none to their left
-- stands in that run, and no run further left mixes
pub record FirstMixed (h : List Bool) (recs : ℕ → Rec) (n f : ℕ) : Type 0 where
  pub column : ℕ
  pub other : ℕ
  pub joined : Joined (recs n) column other
  pub mixes : part h recs n column ≢ part h recs n other
  pub begins : (i : ℕ) → i < column → Joined (recs n) i column → ⊥
  pub first : (i k : ℕ) → i < column → Joined (recs n) i k → part h recs n i ≡ part h recs n k
  pub figure : f ≡ column + 1

-- "Active spines and lines are the row's columns": how many the row after n records has
abbrev pub width_in : Rec → ℕ → ℕ
width_in (star ts) k = width ts
width_in (plain m) k = k

unfoldable pub columns : List Bool → (ℕ → Rec) → ℕ → ℕ
columns h recs zero = length h
columns h recs (suc n) = width_in (recs n) (columns h recs n)

-- how many of the numbers below n pass a test
unfoldable pub count : (ℕ → Bool) → ℕ → ℕ
count test zero = 0
count test (suc n) = cond (test n) (suc (count test n)) (count test n)

abbrev pub is_part : ℕ → Option ℕ → Bool
is_part p none = false
is_part p (some q) = eqb p q

-- "A part would hold over four lines when the next row, voices aside, has over four of it": how many the row after n records has
unfoldable pub lines : List Bool → (ℕ → Rec) → ℕ → ℕ → ℕ
lines h recs n p = count (λ j. is_part p (part h recs n j)) (columns h recs n)

-- whether it is no branch
abbrev pub is_line : Origin → Bool
is_line (from i) = true
is_line (branch_of i) = false
is_line nowhere = true

-- "Kern branches get voices afterwards, left to right": column i of the row that record n makes has its voice before a branch at column j gets one,
-- as it is a line, or a branch further left
unfoldable pub precedes : (ℕ → Rec) → ℕ → ℕ → ℕ → Bool
precedes recs n j i = is_line (origin_in (recs n) i) || ltb i j

-- how many columns of part p in that row have their voice before a branch at column j gets one
unfoldable pub rivals : List Bool → (ℕ → Rec) → ℕ → ℕ → ℕ → ℕ
rivals h recs n p j = count (λ i. is_part p (part h recs (suc n) i) && precedes recs n j i) (columns h recs (suc n))

-- "the part of the first that doesn't": q is the part of the first branch in that row, left to right, that finds all four voices taken
pub record FirstWithout (h : List Bool) (recs : ℕ → Rec) (n q : ℕ) : Type 0 where
  pub column : ℕ
  pub parent : ℕ
  pub is_branch : origin_in (recs n) column ≡ branch_of parent
  pub in_part : part h recs (suc n) column ≡ some q
  pub taken : 4 ≤ rivals h recs n q column
  pub first : (j k p : ℕ) → j < column → origin_in (recs n) j ≡ branch_of k → part h recs (suc n) j ≡ some p → rivals h recs n p j < 4
