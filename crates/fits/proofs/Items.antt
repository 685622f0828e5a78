-- The items of a token: each a byte of it or a value.
use mathlib.Core.Path.{◌≡◌, refl}
use mathlib.Core.Bool.{Bool, true, false, cond, ◌&&◌}
use mathlib.Core.List.{List, [], ◌∷◌, ◌++◌}
use Prim.Native.Nat.{ℕ, suc, ◌+◌}
use native.Mathlib.Omega.{arith}
use native.Mathlib.Nat.{mod-lt}
use lib.Dec.{eqb, ltb}
use lib.ListN.{length}
use borrow.Author.Tests.{ltb-true}
use Rattle.sheet.specs.Fits.{All, U8}
use Rattle.duration.specs.Ratio.{is_ratio, spelled_value}
use Rattle.duration.specs.declared.Value.{Value}
use Rattle.duration.specs.declared.Value.TheVariants.{Plain, Tuplet}
use Rattle.std.specs.Prelude.{Option, Some, None}
use Rattle.duration.proofs.Spelled.{Ranged, no_value, plain_value, tuplet_value, spelled_ranged}
use Rattle.pitch.specs.Pitch.{pitch_of, twos_complement}
use Rattle.pitch.specs.declared.Pitch.{Pitch}
use Rattle.pitch.proofs.PitchLaws.{pitch_bounds}
use Rattle.pitch.proofs.SignLaws.{altered_byte}
use Rattle.items.specs.Items.{is_digit, is_letter, joins, into, runs, is_number, is_percent, pieces, pieces_of, item_of, items_of, items}
use Rattle.items.specs.declared.Item.{Item}
use Rattle.items.specs.declared.Item.TheVariants.{Digits, Ratio, Letters, Blank, Mark}
use Rattle.token.specs.Token.{fits, passes, begun, signed, given, heard, signifiers, articulation, articulations_in}
use Rattle.token.specs.declared.pitches.Tone.{Tone}
use Rattle.fits.proofs.Each.{all_append}

-- ---- values

abbrev pub ValueFits : Option Value → Type 0
ValueFits None = Unit {0}
ValueFits (Some (Plain v)) = U8 v
ValueFits (Some (Tuplet v a n)) = U8 v × U8 a × U8 n

pub value_fits : (s : List ℕ) → ValueFits (spelled_value s)
value_fits s = go (spelled_ranged s)
  where
    go : {r : Option Value} → Ranged r → ValueFits r
    go (no_value e) = rw e tt
    go (plain_value v h e) = rw e (omega arith)
    go (tuplet_value v a b h k l m e) = rw e (omega arith, omega arith, omega arith)

-- ---- pieces and items

into_bytes : (x : ℕ) (rs : List (List ℕ)) → U8 x → All (All U8) rs → All (All U8) (into x rs)
unfolding into
into_bytes x [] h k = ((h, tt), tt)
into_bytes x ([] ∷ rs) h k = ((h, tt), k.1)
into_bytes x ((y ∷ r) ∷ rs) h k = go (joins x y)
  where
    go : (t : Bool) → All (All U8) (cond t ((x ∷ y ∷ r) ∷ rs) ((x ∷ []) ∷ (y ∷ r) ∷ rs))
    go true = ((h, k.0), k.1)
    go false = ((h, tt), k)

runs_bytes : (s : List ℕ) → All U8 s → All (All U8) (runs s)
unfolding runs
runs_bytes [] h = tt
runs_bytes (x ∷ s) h = into_bytes x (runs s) h.0 (runs_bytes s h.1)

pieces_bytes : (rs : List (List ℕ)) → All (All U8) rs → All (All U8) (pieces rs)
unfolding pieces
pieces_bytes [] h = tt
pieces_bytes (r ∷ []) h = h
pieces_bytes (r ∷ p ∷ []) h = h
pieces_bytes (r ∷ p ∷ s ∷ rs) h = go (is_number r && is_percent p && is_number s) (pieces_bytes rs h.1.1.1) (pieces_bytes (p ∷ s ∷ rs) h.1)
  where
    go : (t : Bool) → All (All U8) (pieces rs) → All (All U8) (pieces (p ∷ s ∷ rs)) → All (All U8) (cond t ((r ++ (p ++ s)) ∷ pieces rs) (r ∷ pieces (p ∷ s ∷ rs)))
    go true k l = (all_append U8 r (p ++ s) h.0 (all_append U8 p s h.1.0 h.1.1.0), k)
    go false k l = (h.0, l)

abbrev pub ItemFits : Item → Type 0
ItemFits (Digits v) = ValueFits v
ItemFits (Ratio v) = ValueFits v
ItemFits (Letters c n) = U8 c
ItemFits Blank = Unit {0}
ItemFits (Mark b) = U8 b

item_fits : (r : List ℕ) → All U8 r → ItemFits (item_of r)
unfolding item_of
item_fits [] h = tt
item_fits (x ∷ xs) h = go (is_digit x) (is_ratio (x ∷ xs)) (is_letter x) (eqb x 32)
  where
    go : (d r l b : Bool) → ItemFits (cond d (cond r (Ratio (spelled_value (x ∷ xs))) (Digits (spelled_value (x ∷ xs)))) (cond l (Letters x (suc (length xs))) (cond b Blank (Mark x))))
    go true true l b = value_fits (x ∷ xs)
    go true false l b = value_fits (x ∷ xs)
    go false r true b = h.0
    go false r false true = tt
    go false r false false = h.0

all_items : (rs : List (List ℕ)) → All (All U8) rs → All ItemFits (items_of rs)
unfolding items_of
all_items [] h = tt
all_items (r ∷ rs) h = (item_fits r h.0, all_items rs h.1)

pub items_fit : (s : List ℕ) → All U8 s → All ItemFits (items s)
items_fit s h = all_items (pieces_of s) (pieces_bytes (runs s) (runs_bytes s h))

-- ---- articulations

pub articulations_fit : (bs : List ℕ) → All U8 (articulations_in bs)
unfolding articulations_in
articulations_fit [] = tt
articulations_fit (b ∷ bs) = go (ltb (articulation b) 5) refl (articulations_fit bs)
  where
    go : (t : Bool) → ltb (articulation b) 5 ≡ t → All U8 (articulations_in bs)
        → All U8 (cond t (articulation b ∷ articulations_in bs) (articulations_in bs))
    go true e h = (omega (arith, ltb-true (articulation b) 5 e), h)
    go false e h = h

-- ---- pitches

abbrev pub ToneFits : Tone → Type 0
ToneFits t = U8 t.step × U8 t.octave × U8 t.alter

abbrev SoundFits : Option Tone → Type 0
SoundFits None = Unit {0}
SoundFits (Some t) = ToneFits t

begun_fits : (s : Option Tone) (c n : ℕ) → SoundFits s → SoundFits (begun s (pitch_of c n))
begun_fits s c n h = go s h (pitch_of c n) refl
  where
    go : (s : Option Tone) → SoundFits s → (p : Option Pitch) → p ≡ pitch_of c n → SoundFits (begun s p)
    go None h (Some p) e = let b = pitch_bounds c n p e in (omega arith, omega arith, omega arith)
    go None h None e = tt
    go (Some t) h p e = h

signed_fits : (s : Option Tone) (b : ℕ) → SoundFits s → SoundFits (signed s b)
signed_fits None b h = tt
signed_fits (Some t) b h = (h.0, h.1, altered_byte t.alter b h.2)

given_fits : (s : Option Tone) → SoundFits s → All ToneFits (given s)
given_fits None h = tt
given_fits (Some t) h = (h, tt)

pub heard_fits : (s : Option Tone) (is : List Item) → SoundFits s → All ToneFits (heard s is)
unfolding heard
heard_fits s [] h = given_fits s h
heard_fits s (Digits v ∷ is) h = heard_fits s is h
heard_fits s (Ratio v ∷ is) h = heard_fits s is h
heard_fits s (Letters c n ∷ is) h = heard_fits (begun s (pitch_of c n)) is (begun_fits s c n h)
heard_fits s (Blank ∷ is) h = all_append ToneFits (given s) (heard None is) (given_fits s h) (heard_fits None is tt)
heard_fits s (Mark b ∷ is) h = heard_fits (signed s b) is (signed_fits s b h)

pub alter_fits : (a : ℕ) → U8 (twos_complement a)
unfolding twos_complement
alter_fits a = mod-lt (a + 128) {m = 256} (omega arith)

-- ---- signifiers

pub signifiers_fit : (s : Bool) (is : List Item) → All ItemFits is → All U8 (signifiers s is)
unfolding signifiers
signifiers_fit s [] h = tt
signifiers_fit s (Digits v ∷ is) h = signifiers_fit s is h.1
signifiers_fit s (Ratio v ∷ is) h = signifiers_fit s is h.1
signifiers_fit s (Letters c n ∷ is) h = go (fits s (pitch_of c n)) (signifiers_fit true is h.1) (signifiers_fit s is h.1)
  where
    go : (t : Bool) → All U8 (signifiers true is) → All U8 (signifiers s is) → All U8 (cond t (signifiers true is) (c ∷ signifiers s is))
    go true a b = a
    go false a b = (h.0, b)
signifiers_fit s (Blank ∷ is) h = signifiers_fit false is h.1
signifiers_fit s (Mark b ∷ is) h = go (passes s b) (signifiers_fit s is h.1)
  where
    go : (t : Bool) → All U8 (signifiers s is) → All U8 (cond t (signifiers s is) (b ∷ signifiers s is))
    go true a = a
    go false a = (h.0, a)
