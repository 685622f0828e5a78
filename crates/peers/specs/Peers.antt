-- The length that a token without one takes from its record: "missing lengths `uniform_peer_reciprocal`".
use Rattle.std.specs.Prelude.{◌≡◌, ℕ, suc, List, [], ◌∷◌, Bool, true, false, cond, not, ◌&&◌, ◌||◌, eqb, leb, length, take, drop, Option, Some, None}
use Rattle.std.specs.Borrow.{Bor}
use Rattle.slices.specs.Compare.{same_bytes}
use Rattle.duration.specs.Ratio.{spelled_value}
use Rattle.duration.specs.declared.Value.{Value}
use Rattle.notation.specs.Bytes.{contains, trim_start}
use Rattle.items.specs.Items.{is_digit, is_letter, first_piece}
use Rattle.token.specs.Token.{signs}

-- ---- `plain_pitch_without_duration`: one run of a letter, followed by nothing but signs
unfoldable pub only_signs : List ℕ → Bool
only_signs [] = true
only_signs (x ∷ xs) = contains x signs && only_signs xs

unfoldable pub is_bare : List ℕ → Bool
is_bare [] = false
is_bare (x ∷ xs) = is_letter x && only_signs (trim_start x (x ∷ xs))

-- ---- `uniform_peer_reciprocal`
-- the length that a token begins with, as it is spelled: digits, or a ratio; none where no digit begins it
unfoldable pub leading : List ℕ → List ℕ
leading [] = []
leading (x ∷ xs) = cond (is_digit x) (take (first_piece (x ∷ xs)) (x ∷ xs)) []

-- a blank, a point or a `%` anywhere
unfoldable pub forbids : List ℕ → Bool
forbids t = contains 32 t || (contains 46 t || contains 37 t)

abbrev pub if_value : Option Value → List ℕ → List ℕ
if_value None ds = []
if_value (Some v) ds = ds

-- what a neighbour offers: the length that it begins with, if more follows, in which nothing forbids it, and if it has a value; else none. "Among
-- neighbours a ratio counts as a reciprocal does, by its spelling."
unfoldable pub offer_of : List ℕ → List ℕ
offer_of t =
    cond (forbids (drop (length (leading t)) t)) []
    (cond (eqb (length (leading t)) (length t)) [] (if_value (spelled_value (leading t)) (leading t)))

-- the tokens of the kern columns other than `column`, where the first is column i
unfoldable pub peers_from : ℕ → ℕ → List (List ℕ) → List Bool → List (List ℕ)
peers_from i column [] ks = []
peers_from i column (t ∷ ts) [] = []
peers_from i column (t ∷ ts) (k ∷ ks) = cond (k && not (eqb i column)) (t ∷ peers_from (suc i) column ts ks) (peers_from (suc i) column ts ks)

unfoldable pub all_offer : List ℕ → List (List ℕ) → Bool
all_offer ds [] = true
all_offer ds (t ∷ ts) = same_bytes (offer_of t) ds && all_offer ds ts

-- what at least two neighbours offer, all in the same spelling
unfoldable pub uniform : List (List ℕ) → List ℕ
uniform [] = []
uniform (t ∷ []) = []
uniform (t ∷ u ∷ ts) = cond (all_offer (offer_of t) (u ∷ ts)) (offer_of t) []

-- by the tokens of a record, whether each column is a kern spine, and the column
abbrev pub peer_reciprocal : List (List ℕ) → List Bool → ℕ → List ℕ
peer_reciprocal ts kern column = uniform (peers_from 0 column ts kern)

-- a row's cells: below 8 a spine outside kern
unfoldable pub kern_cells : List ℕ → List Bool
kern_cells [] = []
kern_cells (c ∷ cs) = leb 8 c ∷ kern_cells cs

-- the length of an answer
abbrev pub digits_of : Option (Bor (List ℕ)) → List ℕ
digits_of None = []
digits_of (Some ds) = ds.now

-- what is kept of a length that a token offers: some bytes, all of them of its spelling, with a value
pub record Offered (ds : List ℕ) : Type 0 where
  pub some : length ds ≡ 0 → ⊥
  pub digits : leading ds ≡ ds
  pub valued : if_value (spelled_value ds) ds ≡ ds

-- ---- one neighbour after the other
pub data Tally : Type 0 where
  none : Tally
  one : List ℕ → Tally
  more : List ℕ → Tally
  broken : Tally

abbrev pub begun_by : List ℕ → Tally
begun_by [] = broken
begun_by (x ∷ xs) = one (x ∷ xs)

abbrev pub met : Tally → List ℕ → Tally
met none t = begun_by (offer_of t)
met (one ds) t = cond (same_bytes (offer_of t) ds) (more ds) broken
met (more ds) t = cond (same_bytes (offer_of t) ds) (more ds) broken
met broken t = broken

abbrev pub settled : Tally → List ℕ
settled none = []
settled (one ds) = []
settled (more ds) = ds
settled broken = []

-- ---- one pass over the columns, by a summary whose size doesn't grow with them
-- whether a kern column that offers nothing was met, and what the others offer; a second one that offers nothing breaks their agreement
pub record Agreement : Type 0 where
  pub lacking : Bool
  pub tally : Tally

-- the first column that offers nothing is left out: it may be the bare one, whose neighbours the others are
abbrev pub first_lacking : List ℕ → Tally → List ℕ → Agreement
first_lacking [] y t = record { lacking = true; tally = y }
first_lacking (d ∷ ds) y t = record { lacking = false; tally = met y t }

-- one kern column more
abbrev pub column_met : Bool → Tally → List ℕ → Agreement
column_met true y t = record { lacking = true; tally = met y t }
column_met false y t = first_lacking (offer_of t) y t

abbrev pub summed : Agreement → List (List ℕ) → Agreement
summed a [] = a
summed a (t ∷ ts) = summed (column_met a.lacking a.tally t) ts

-- the tokens of the kern columns
unfoldable pub kern_tokens : List (List ℕ) → List Bool → List (List ℕ)
kern_tokens [] ks = []
kern_tokens (t ∷ ts) [] = []
kern_tokens (t ∷ ts) (k ∷ ks) = cond k (t ∷ kern_tokens ts ks) (kern_tokens ts ks)

abbrev pub nothing_met : Agreement
nothing_met = record { lacking = false; tally = none }

abbrev pub summary_of : List (List ℕ) → List Bool → Agreement
summary_of ts kern = summed nothing_met (kern_tokens ts kern)

-- the length that the summary of a record gives each bare column
abbrev pub agreed_digits : List (List ℕ) → List Bool → List ℕ
agreed_digits ts kern = settled (summary_of ts kern).tally
