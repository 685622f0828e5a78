-- The items of a token by its runs: digits, a letter, and single bytes.
use mathlib.Core.Path.{◌≡◌, refl, sym, ap, ◌∙◌}
use Prim.Native.Nat.{ℕ, suc}
use mathlib.Core.List.{List, [], ◌∷◌, ◌++◌}
use mathlib.Core.Bool.{Bool, true, false, cond, not, ◌&&◌, ◌||◌}
use lib.Dec.{eqb}
use lib.ListN.{length}
use borrow.Author.Tests.{eq-eqb, eqb-true, not-true}
use Rattle.notation.specs.Bytes.{contains}
use Rattle.pitch.specs.Pitch.{within, pitch_of}
use Rattle.pitch.specs.declared.Pitch.{Pitch}
use Rattle.std.specs.Prelude.{Option, Some, None}
use Rattle.duration.specs.Duration.{duration_of}
use Rattle.duration.specs.Ratio.{is_ratio}
use Rattle.items.specs.Items.{is_digit, is_letter, joins, into, runs, is_number, pieces, goes_on, item_of, items_of, items}
use Rattle.items.specs.declared.Item.{Item}
use Rattle.items.specs.declared.Item.TheVariants.{Digits, Letters, Mark}
use Rattle.plain.proofs.ByteLaws.{each, among}
use Rattle.slices.proofs.TestLaws.{clash, and_left, and_right, not_both}
use Rattle.items.proofs.ItemLaws.{length_digits}
use Rattle.items.proofs.PieceLaws.{Pieces, no_percent, pieces_behind}
use Rattle.items.proofs.NextLaws.{digit_joins}

-- ---- the first byte of a run
record Head (y : ℕ) (rs : List (List ℕ)) : Type 0 where
  first : List ℕ
  others : List (List ℕ)
  same : rs ≡ (y ∷ first) ∷ others

head_by : (x y : ℕ) (r : List ℕ) (rs : List (List ℕ)) (t : Bool) → Head x (cond t ((x ∷ y ∷ r) ∷ rs) ((x ∷ []) ∷ (y ∷ r) ∷ rs))
head_by x y r rs true = record { first = y ∷ r; others = rs; same = refl }
head_by x y r rs false = record { first = []; others = (y ∷ r) ∷ rs; same = refl }

head : (x : ℕ) (rs : List (List ℕ)) → Head x (into x rs)
unfolding into
head x [] = record { first = []; others = []; same = refl }
head x ([] ∷ rs) = record { first = []; others = rs; same = refl }
head x ((y ∷ r) ∷ rs) = head_by x y r rs (joins x y)

-- whether a list begins with a byte that passes a test
abbrev pub begins : (ℕ → Bool) → List ℕ → Bool
begins test [] = false
begins test (y ∷ ys) = test y

-- a byte that does not join what is behind it is a run
alone : (x : ℕ) (rest : List ℕ) → begins (joins x) rest ≡ false → runs (x ∷ rest) ≡ (x ∷ []) ∷ runs rest
unfolding runs into
alone x [] e = refl
alone x (y ∷ ys) e =
    let h = head y (runs ys) in
    ap (into x) h.same
    ∙ ap (λ (t : Bool). cond t ((x ∷ y ∷ h.first) ∷ h.others) ((x ∷ []) ∷ (y ∷ h.first) ∷ h.others)) e
    ∙ ap (λ (r : List (List ℕ)). (x ∷ []) ∷ r) (sym h.same)

begins_same : (f g : ℕ → Bool) → ((y : ℕ) → f y ≡ g y) → (l : List ℕ) → begins f l ≡ begins g l
begins_same f g e [] = refl
begins_same f g e (y ∷ ys) = e y

-- bytes that pass a test, where those that join such a byte are those that pass it, are a run
run_of : (test : ℕ → Bool) → ((a b : ℕ) → test a ≡ true → joins a b ≡ test b) → (x : ℕ) (xs rest : List ℕ) → test x ≡ true
    → each test xs ≡ true → begins test rest ≡ false → runs (x ∷ (xs ++ rest)) ≡ (x ∷ xs) ∷ runs rest
unfolding runs into each
run_of test join x [] rest p q e = alone x rest (begins_same (joins x) test (λ y. join x y p) rest ∙ e)
run_of test join x (y ∷ ys) rest p q e =
    let u : test y ≡ true = and_left (test y) (each test ys) q in
    ap (into x) (run_of test join y ys rest u (and_right (test y) (each test ys) q) e)
    ∙ ap (λ (t : Bool). cond t ((x ∷ y ∷ ys) ∷ runs rest) ((x ∷ []) ∷ (y ∷ ys) ∷ runs rest)) (join x y p ∙ u)

-- a first run with no ratio behind it is an item
items_run : (r rest : List ℕ) → runs (r ++ rest) ≡ r ∷ runs rest → (is_number r && goes_on rest) ≡ false → items (r ++ rest) ≡ item_of r ∷ items rest
unfolding items_of
items_run r rest e t = ap (λ (rs : List (List ℕ)). items_of (pieces rs)) e ∙ ap items_of (pieces_behind r rest ∙ ap (λ (b : Bool). Pieces b r rest) t)

-- ---- digits
no_ratio : (ds : List ℕ) → each is_digit ds ≡ true → is_ratio ds ≡ false
unfolding each is_ratio
no_ratio [] e = refl
no_ratio (d ∷ ds) e = rw (no_percent d (and_left (is_digit d) (each is_digit ds) e)) (no_ratio ds (and_right (is_digit d) (each is_digit ds) e))

ends_here : (l : List ℕ) → begins (λ x. eqb x 37) l ≡ false → goes_on l ≡ false
unfolding goes_on
ends_here [] e = refl
ends_here (x ∷ []) e = refl
ends_here (x ∷ y ∷ ys) e = rw e

pub items_digits : (d : ℕ) (ds rest : List ℕ) → each is_digit (d ∷ ds) ≡ true → begins is_digit rest ≡ false → begins (λ x. eqb x 37) rest ≡ false
    → items ((d ∷ ds) ++ rest) ≡ Digits (duration_of (d ∷ ds)) ∷ items rest
unfolding item_of each
items_digits d ds rest p e n =
    let u : is_digit d ≡ true = and_left (is_digit d) (each is_digit ds) p in
    items_run (d ∷ ds) rest (run_of is_digit digit_joins d ds rest u (and_right (is_digit d) (each is_digit ds) p) e) (rw (u, ends_here rest n))
    ∙ rw (u, ← length_digits (d ∷ ds) (no_ratio (d ∷ ds) p) refl)

-- ---- a run of one letter
letter_join : (c : ℕ) → is_digit c ≡ false → is_letter c ≡ true → (a b : ℕ) → eqb a c ≡ true → joins a b ≡ eqb b c
unfolding joins
letter_join c d l a b e = rw (eqb-true a c e, d, l)

pub items_letters : (c : ℕ) (cs rest : List ℕ) → is_digit c ≡ false → is_letter c ≡ true → each (λ x. eqb x c) cs ≡ true
    → begins (λ x. eqb x c) rest ≡ false → items ((c ∷ cs) ++ rest) ≡ Letters c (suc (length cs)) ∷ items rest
unfolding item_of
items_letters c cs rest d l p e =
    items_run (c ∷ cs) rest (run_of (λ x. eqb x c) (letter_join c d l) c cs rest (eq-eqb c c refl) p e) (rw d) ∙ rw (d, l)

-- ---- single bytes
unfoldable pub single : ℕ → Bool
single b = not (is_digit b) && (not (is_letter b) && not (eqb b 32))

-- bytes as marks in front of items
abbrev pub marked : List ℕ → List Item → List Item
marked [] is = is
marked (x ∷ xs) is = Mark x ∷ marked xs is

begins_none : (l : List ℕ) → begins (λ y. false) l ≡ false
begins_none [] = refl
begins_none (y ∷ ys) = refl

item_mark : (x : ℕ) (rest : List ℕ) → single x ≡ true → items (x ∷ rest) ≡ Mark x ∷ items rest
unfolding item_of single joins
item_mark x rest e =
    let d : is_digit x ≡ false = not-true (is_digit x) (and_left (not (is_digit x)) (not (is_letter x) && not (eqb x 32)) e) in
    let m : (not (is_letter x) && not (eqb x 32)) ≡ true = and_right (not (is_digit x)) (not (is_letter x) && not (eqb x 32)) e in
    let l : is_letter x ≡ false = not-true (is_letter x) (and_left (not (is_letter x)) (not (eqb x 32)) m) in
    let s : eqb x 32 ≡ false = not-true (eqb x 32) (and_right (not (is_letter x)) (not (eqb x 32)) m) in
    let j : (y : ℕ) → joins x y ≡ false = λ y. rw (d, l) in
    items_run (x ∷ []) rest (alone x rest (begins_same (joins x) (λ y. false) j rest ∙ begins_none rest)) (rw d) ∙ rw (d, l, s)

pub items_marks : (xs rest : List ℕ) → each single xs ≡ true → items (xs ++ rest) ≡ marked xs (items rest)
unfolding each
items_marks [] rest e = refl
items_marks (x ∷ xs) rest e =
    item_mark x (xs ++ rest) (and_left (single x) (each single xs) e)
    ∙ ap (λ (is : List Item). Mark x ∷ is) (items_marks xs rest (and_right (single x) (each single xs) e))

-- ---- a pitch is written by a letter
letter_by : (t u v : Bool) (l h : Option Pitch) {p : Pitch} → cond t None (cond u l (cond v h None)) ≡ Some p → (u || v) ≡ true
letter_by true u v l h e = clash cc
letter_by false true v l h e = refl
letter_by false false true l h e = refl
letter_by false false false l h e = clash cc

pub letter_of : (c n : ℕ) {p : Pitch} → pitch_of c n ≡ Some p → is_letter c ≡ true
unfolding pitch_of is_letter
letter_of c n e = letter_by (eqb n 0) (within 97 103 c) (within 65 71 c) _ _ e

-- a byte of a word without letters is no letter
pub not_letter : (word : List ℕ) → each (λ x. not (is_letter x)) word ≡ true → (c : ℕ) → is_letter c ≡ true → contains c word ≡ false
not_letter word e c l = go (contains c word) refl
  where
    go : (t : Bool) → contains c word ≡ t → contains c word ≡ false
    go true q = absurd (not_both l (not-true (is_letter c) (among (λ x. not (is_letter x)) word e c q)))
    go false q = q

pub begins_over : (test : ℕ → Bool) (xs rest : List ℕ) → each (λ x. not (test x)) xs ≡ true → begins test rest ≡ false
    → begins test (xs ++ rest) ≡ false
unfolding each
begins_over test [] rest p e = e
begins_over test (x ∷ xs) rest p e = not-true (test x) (and_left (not (test x)) (each (λ y. not (test y)) xs) p)
