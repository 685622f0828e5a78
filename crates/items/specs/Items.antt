-- A token as items: runs of digits, ratios, runs of one letter, blanks, and single bytes.
use Rattle.std.specs.Prelude.{ℕ, zero, suc, ◌+◌, List, [], ◌∷◌, Bool, true, false, cond, ◌++◌, ◌&&◌, ◌||◌, eqb, length, take, drop, get_or}
use Rattle.pitch.specs.Pitch.{within}
use Rattle.duration.specs.Ratio.{is_ratio, spelled_value}
use Rattle.items.specs.declared.Item.{Item}
use Rattle.items.specs.declared.Item.TheVariants.{Digits, Ratio, Letters, Blank, Mark}
use Rattle.items.specs.declared.Next.{Next}

abbrev pub is_digit : ℕ → Bool
is_digit x = within 48 57 x

-- the letters of the steps, a to g and A to G
unfoldable pub is_letter : ℕ → Bool
is_letter x = within 97 103 x || within 65 71 x

-- whether x and the byte y right behind it stand in one run: two digits, or the same letter twice
unfoldable pub joins : ℕ → ℕ → Bool
joins x y = cond (is_digit x) (is_digit y) (is_letter x && eqb y x)

-- a byte in front of the runs behind it: it joins the first, or is one by itself
unfoldable pub into : ℕ → List (List ℕ) → List (List ℕ)
into x [] = (x ∷ []) ∷ []
into x ([] ∷ rs) = (x ∷ []) ∷ rs
into x ((y ∷ r) ∷ rs) = cond (joins x y) ((x ∷ y ∷ r) ∷ rs) ((x ∷ []) ∷ (y ∷ r) ∷ rs)

unfoldable pub runs : List ℕ → List (List ℕ)
runs [] = []
runs (x ∷ xs) = into x (runs xs)

-- whether a run is of digits, and whether it is a `%`
abbrev pub is_number : List ℕ → Bool
is_number r = is_digit (get_or r 0 0)

abbrev pub is_percent : List ℕ → Bool
is_percent r = eqb (length r) 1 && eqb (get_or r 0 0) 37

-- "n%m": a run of digits, a `%` and a run of digits are one piece, from the left
unfoldable pub pieces : List (List ℕ) → List (List ℕ)
pieces [] = []
pieces (r ∷ []) = r ∷ []
pieces (r ∷ p ∷ []) = r ∷ p ∷ []
pieces (r ∷ p ∷ s ∷ rs) = cond (is_number r && is_percent p && is_number s) ((r ++ (p ++ s)) ∷ pieces rs) (r ∷ pieces (p ∷ s ∷ rs))

-- the pieces of a token
abbrev pub pieces_of : List ℕ → List (List ℕ)
pieces_of token = pieces (runs token)

-- a length is known by the value that it writes
abbrev pub length_item : List ℕ → Item
length_item s = cond (is_ratio s) (Ratio (spelled_value s)) (Digits (spelled_value s))

-- what a piece is, by its first byte
unfoldable pub item_of : List ℕ → Item
item_of [] = Blank
item_of (x ∷ xs) =
    cond (is_digit x) (length_item (x ∷ xs))
    (cond (is_letter x) (Letters x (suc (length xs)))
    (cond (eqb x 32) Blank (Mark x)))

unfoldable pub items_of : List (List ℕ) → List Item
items_of [] = []
items_of (r ∷ rs) = item_of r ∷ items_of rs

-- the items of a token
abbrev pub items : List ℕ → List Item
items token = items_of (pieces_of token)

-- how many bytes behind x are of its run
unfoldable pub more : ℕ → List ℕ → ℕ
more x [] = zero
more x (y ∷ ys) = let rest = suc (more y ys) in cond (joins x y) rest zero

-- the length of the first run
unfoldable pub first : List ℕ → ℕ
first [] = zero
first (x ∷ xs) = suc (more x xs)

-- whether a `%` and a digit stand at the front
unfoldable pub goes_on : List ℕ → Bool
goes_on [] = false
goes_on (x ∷ []) = false
goes_on (x ∷ y ∷ ys) = eqb x 37 && is_digit y

-- the length of the first piece, whose first run is k bytes long
abbrev pub piece_by : Bool → ℕ → List ℕ → ℕ
piece_by true k rest = k + suc (first (drop 1 rest))
piece_by false k rest = k

unfoldable pub first_piece : List ℕ → ℕ
first_piece s = piece_by (is_number s && goes_on (drop (first s) s)) (first s) (drop (first s) s)

-- the item that begins at an index, and where it ends; past the end a blank that is no byte long
unfoldable pub next_item : List ℕ → ℕ → Next
next_item token from =
    record { item = item_of (take (first_piece (drop from token)) (drop from token)); end = from + first_piece (drop from token) }
