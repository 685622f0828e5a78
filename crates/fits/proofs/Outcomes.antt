-- What becomes of a token: a note whose numbers have room, or a notice that isn't 17.
use mathlib.Core.Path.{◌≡◌, refl}
use mathlib.Core.Bool.{Bool, true, false, cond}
use mathlib.Core.List.{List, [], ◌∷◌}
use Prim.Native.Nat.{ℕ}
use native.Mathlib.Omega.{arith}
use lib.Dec.{eqb}
use Rattle.sheet.specs.Fits.{All, U8}
use Rattle.duration.specs.Ratio.{spelled_value}
use Rattle.duration.specs.declared.Value.{Value}
use Rattle.duration.specs.declared.Value.TheVariants.{Plain, Tuplet}
use Rattle.items.specs.Items.{items}
use Rattle.items.specs.declared.Item.{Item}
use Rattle.items.specs.declared.Item.TheVariants.{Digits, Ratio, Letters, Blank, Mark}
use Rattle.token.specs.Token.{is_blank, given_by, up_to_blank, first_sub, given_in, dots_of}
use Rattle.token.specs.Scan.{scan_items, scan_of}
use Rattle.token.specs.Outcome.{Outcome, notice_number, note_of, by_value, noted, from_peers, without_digits, by_given, measured, outcome_of, read_token}
use Rattle.token.specs.declared.scan.Scan.{Scan}
use Rattle.token.specs.declared.scan.Given.{Given}
use Rattle.token.specs.declared.scan.Given.TheVariants.{Nothing, NoValue, Length}
use Rattle.token.specs.declared.outcome.Note.{Note}
use Rattle.std.specs.Prelude.{Option, Some, None, Ok, Err}
use Rattle.token.specs.declared.outcome.Unread.{Unread}
use Rattle.token.specs.declared.outcome.Unread.TheVariants.{BadLength, NoPitch, BadReciprocal, NoLength}
use Rattle.fits.proofs.Items.{ValueFits, ItemFits, value_fits, items_fit}

-- a notice's number whose NOTICE no bytes follow
abbrev pub Plainly : ℕ → Type 0
Plainly n = U8 n × (eqb n 17 ≡ false)

-- a note's own numbers
pub record Sized (n : Note) : Type 0 where
  pub value : U8 n.value
  pub actual : U8 n.actual
  pub normal : U8 n.normal
  pub dots : U8 n.dots

abbrev pub OutcomeFits : Outcome → Type 0
OutcomeFits (Ok None) = Unit {0}
OutcomeFits (Err why) = Plainly (notice_number why)
OutcomeFits (Ok (Some n)) = Sized n

plainly : (why : Unread) → Plainly (notice_number why)
plainly BadLength = (omega arith, refl)
plainly NoPitch = (omega arith, refl)
plainly BadReciprocal = (omega arith, refl)
plainly NoLength = (omega arith, refl)

-- ---- the first sub-token

up_fits : (is : List Item) → All ItemFits is → All ItemFits (up_to_blank is)
unfolding up_to_blank
up_fits [] h = tt
up_fits (i ∷ is) h = go (is_blank i) (up_fits is h.1)
  where
    go : (t : Bool) → All ItemFits (up_to_blank is) → All ItemFits (cond t [] (i ∷ up_to_blank is))
    go true k = tt
    go false k = (h.0, k)

first_fits : (is : List Item) → All ItemFits is → All ItemFits (first_sub is)
unfolding first_sub
first_fits [] h = tt
first_fits (i ∷ is) h = go (is_blank i) (first_fits is h.1) (up_fits is h.1)
  where
    go : (t : Bool) → All ItemFits (first_sub is) → All ItemFits (up_to_blank is) → All ItemFits (cond t (first_sub is) (i ∷ up_to_blank is))
    go true k l = k
    go false k l = (h.0, l)

abbrev GivenFits : Given → Type 0
GivenFits Nothing = Unit {0}
GivenFits NoValue = Unit {0}
GivenFits (Length v) = ValueFits (Some v)

given_by_lem : (v : Option Value) → ValueFits v → GivenFits (given_by v)
given_by_lem None h = tt
given_by_lem (Some v) h = h

given_in_lem : (is : List Item) → All ItemFits is → GivenFits (given_in is)
unfolding given_in
given_in_lem [] h = tt
given_in_lem (Digits v ∷ is) h = given_by_lem v h.0
given_in_lem (Ratio v ∷ is) h = given_by_lem v h.0
given_in_lem (Letters c n ∷ is) h = given_in_lem is h.1
given_in_lem (Blank ∷ is) h = given_in_lem is h.1
given_in_lem (Mark b ∷ is) h = given_in_lem is h.1

few_dots : (is : List Item) → U8 (dots_of is)
unfolding dots_of
few_dots is = omega arith

-- ---- the outcome

module _ (s : Scan) (few : U8 s.dots) where
  note_of_lem : (i : Bool) (v a n : ℕ) → U8 v → U8 a → U8 n → Sized (note_of i v a n s)
  unfolding note_of
  note_of_lem i v a n h k l = record { value = h; actual = k; normal = l; dots = few }

  value_sized : (why : Unread) (i : Bool) (v : Option Value) → ValueFits v → OutcomeFits (by_value why i v s)
  value_sized why i None h = plainly why
  value_sized why i (Some (Plain v)) h = note_of_lem i v 0 0 h (omega arith) (omega arith)
  value_sized why i (Some (Tuplet v a n)) h = note_of_lem i v a n h.0 h.1 h.2

  by_given_lem : (g : Given) (v : Option Value) → GivenFits g → ValueFits v → OutcomeFits (by_given g s v)
  unfolding without_digits
  by_given_lem Nothing v g h = go (eqb s.grace 0)
    where
      go : (t : Bool) → OutcomeFits (cond t (from_peers v s) (noted (Some (Plain 5)) s))
      go true = value_sized NoLength true v h
      go false = value_sized BadReciprocal false (Some (Plain 5)) (omega arith)
  by_given_lem NoValue v g h = plainly BadReciprocal
  by_given_lem (Length w) v g h = value_sized BadReciprocal false (Some w) g

  outcome_fits : (v : Option Value) → GivenFits s.given → ValueFits v → OutcomeFits (outcome_of s v)
  unfolding outcome_of
  outcome_fits v g h = go s.silent s.bad s.rest (eqb s.pitches 0) (measured s v) (by_given_lem s.given v g h)
    where
      go : (a b c d : Bool) (m : Outcome) → OutcomeFits m → OutcomeFits (cond a (Ok None) (cond b (Err BadLength) (cond c m (cond d (Err NoPitch) m))))
      go true b c d m k = tt
      go false true c d m k = plainly BadLength
      go false false true d m k = k
      go false false false true m k = plainly NoPitch
      go false false false false m k = k

pub token_fits : (token peers : List ℕ) → All U8 token → OutcomeFits (read_token token peers)
unfolding scan_items
token_fits token peers h =
    outcome_fits (scan_of token) (few_dots (items token)) (spelled_value peers)
    (given_in_lem (first_sub (items token)) (first_fits (items token) (items_fit token h))) (value_fits peers)
