-- A token has at most as many items as bytes, and an item gives at most one pitch, one articulation and one signifier.
use Prim.Native.Nat.{ℕ, ◌+◌, ◌≤◌}
use native.Mathlib.Omega.{arith}
use mathlib.Core.List.{List, [], ◌∷◌, ◌++◌}
use mathlib.Core.Bool.{Bool, true, false, cond, ◌&&◌}
use lib.Dec.{ltb}
use lib.ListN.{length, length-append}
use Rattle.token.specs.Outcome.{reported, note_pitches}
use Rattle.pitch.specs.Pitch.{pitch_of}
use Rattle.pitch.specs.declared.Pitch.{Pitch}
use Rattle.std.specs.Prelude.{Option, Some, None}
use Rattle.token.specs.declared.pitches.Tone.{Tone}
use Rattle.items.specs.Items.{joins, into, runs, is_number, is_percent, pieces, pieces_of, items_of, items}
use Rattle.items.specs.declared.Item.{Item}
use Rattle.items.specs.declared.Item.TheVariants.{Digits, Ratio, Letters, Blank, Mark}
use Rattle.token.specs.Token.{marks, articulation, articulations_in, fits, begun, signed, given, heard, passes, signifiers, is_bad, rest_of, articulations_of, pitches_of, signifiers_of}

into_few : (x : ℕ) (rs : List (List ℕ)) → length (into x rs) ≤ length rs + 1
unfolding into
into_few x [] = omega arith
into_few x ([] ∷ rs) = omega arith
into_few x ((y ∷ r) ∷ rs) = go (joins x y)
  where
    go : (t : Bool) → length (cond t ((x ∷ y ∷ r) ∷ rs) ((x ∷ []) ∷ (y ∷ r) ∷ rs)) ≤ length ((y ∷ r) ∷ rs) + 1
    go true = omega arith
    go false = omega arith

runs_few : (s : List ℕ) → length (runs s) ≤ length s
unfolding runs
runs_few [] = omega arith
runs_few (x ∷ xs) = omega (arith, into_few x (runs xs), runs_few xs)

of_few : (rs : List (List ℕ)) → length (items_of rs) ≤ length rs
unfolding items_of
of_few [] = omega arith
of_few (r ∷ rs) = omega (arith, of_few rs)

pieces_few : (rs : List (List ℕ)) → length (pieces rs) ≤ length rs
unfolding pieces
pieces_few [] = omega arith
pieces_few (r ∷ []) = omega arith
pieces_few (r ∷ p ∷ []) = omega arith
pieces_few (r ∷ p ∷ s ∷ rs) = go (is_number r && is_percent p && is_number s) (pieces_few rs) (pieces_few (p ∷ s ∷ rs))
  where
    go : (t : Bool) → length (pieces rs) ≤ length rs → length (pieces (p ∷ s ∷ rs)) ≤ length (p ∷ s ∷ rs)
        → length (cond t ((r ++ (p ++ s)) ∷ pieces rs) (r ∷ pieces (p ∷ s ∷ rs))) ≤ length (r ∷ p ∷ s ∷ rs)
    go true h k = omega arith
    go false h k = omega arith

pub items_few : (token : List ℕ) → length (items token) ≤ length token
items_few token = omega (arith, of_few (pieces_of token), pieces_few (runs token), runs_few token)

begun_few : (s : Option Tone) (p : Option Pitch) → length (given (begun s p)) ≤ length (given s) + 1
begun_few None (Some p) = omega arith
begun_few None None = omega arith
begun_few (Some t) p = omega arith

signed_few : (s : Option Tone) (b : ℕ) → length (given (signed s b)) ≤ length (given s)
signed_few None b = omega arith
signed_few (Some t) b = omega arith

pub heard_few : (s : Option Tone) (is : List Item) → length (heard s is) ≤ length (given s) + length is
unfolding heard
heard_few s [] = omega arith
heard_few s (Digits v ∷ is) = omega (arith, heard_few s is)
heard_few s (Ratio v ∷ is) = omega (arith, heard_few s is)
heard_few s (Letters c n ∷ is) = omega (arith, heard_few (begun s (pitch_of c n)) is, begun_few s (pitch_of c n))
heard_few s (Blank ∷ is) = omega (arith, length-append (given s) (heard None is), heard_few None is)
heard_few s (Mark b ∷ is) = omega (arith, heard_few (signed s b) is, signed_few s b)

pub marks_few : (is : List Item) → length (marks is) ≤ length is
unfolding marks
marks_few [] = omega arith
marks_few (Digits v ∷ is) = omega (arith, marks_few is)
marks_few (Ratio v ∷ is) = omega (arith, marks_few is)
marks_few (Letters c n ∷ is) = omega (arith, marks_few is)
marks_few (Blank ∷ is) = omega (arith, marks_few is)
marks_few (Mark b ∷ is) = omega (arith, marks_few is)

-- one of two lists, of which neither is longer than a number
pub either_few : {A : Type 0} {n : ℕ} (t : Bool) (xs ys : List A) → length xs ≤ n → length ys ≤ n → length (cond t xs ys) ≤ n
either_few true xs ys p q = p
either_few false xs ys p q = q

pub articulations_few : (bs : List ℕ) → length (articulations_in bs) ≤ length bs
unfolding articulations_in
articulations_few [] = omega arith
articulations_few (b ∷ bs) =
    either_few (ltb (articulation b) 5) (articulation b ∷ articulations_in bs) (articulations_in bs) (omega (arith, articulations_few bs))
    (omega (arith, articulations_few bs))

pub signifiers_few : (s : Bool) (is : List Item) → length (signifiers s is) ≤ length is
unfolding signifiers
signifiers_few s [] = omega arith
signifiers_few s (Digits v ∷ is) = omega (arith, signifiers_few s is)
signifiers_few s (Ratio v ∷ is) = omega (arith, signifiers_few s is)
signifiers_few s (Letters c n ∷ is) =
    either_few (fits s (pitch_of c n)) (signifiers true is) (c ∷ signifiers s is) (omega (arith, signifiers_few true is))
    (omega (arith, signifiers_few s is))
signifiers_few s (Blank ∷ is) = omega (arith, signifiers_few false is)
signifiers_few s (Mark b ∷ is) =
    either_few (passes s b) (signifiers s is) (b ∷ signifiers s is) (omega (arith, signifiers_few s is)) (omega (arith, signifiers_few s is))

-- what a token gives of each list: no more than it has bytes
pub record Gives (token : List ℕ) : Type 0 where
  pub pitches : length (note_pitches token) ≤ length token
  pub articulations : length (articulations_of (items token)) ≤ length token
  pub signifiers : length (reported token) ≤ length token

pub gives : (token : List ℕ) → Gives token
gives token =
    let few = items_few token in
    record {
      pitches =
          either_few (rest_of (items token)) [] (pitches_of (items token)) (omega arith) (omega (arith, heard_few None (items token)));
      articulations = omega (arith, articulations_few (marks (items token)), marks_few (items token));
      signifiers =
          either_few (is_bad (items token)) [] (signifiers_of (items token)) (omega arith)
          (omega (arith, signifiers_few false (items token)));
    }
