-- The first run of a token and its first piece, with those behind them: what a reading from left to right finds.
use mathlib.Core.Path.{◌≡◌, refl, sym, ap, subst, ◌∙◌}
use Prim.Native.Nat.{ℕ, zero, suc, ◌+◌, ◌≤◌, ◌<◌}
use native.Mathlib.Nat.{not-suc-le-zero, le_of_suc-le-suc}
use native.Mathlib.Omega.{arith}
use mathlib.Core.List.{List, [], ◌∷◌, ◌++◌}
use mathlib.Core.Bool.{Bool, true, false, cond, ◌&&◌, and-false}
use lib.Dec.{eqb}
use borrow.Author.Tests.{eq-eqb, ne_eqb, eqb-true}
use lib.ListN.{length, take, drop, get_or, length-drop}
use lib.Seq.{drop-drop, take-add}
use Rattle.slices.proofs.TestLaws.{clash, both}
use Rattle.pitch.specs.Pitch.{within}
use Rattle.pitch.proofs.Letters.{within_low}
use Rattle.duration.specs.Ratio.{is_ratio}
use Rattle.items.specs.Items.{is_digit, is_letter, joins, into, runs, is_number, is_percent, pieces, pieces_of, more, first, goes_on, piece_by, first_piece}

-- ---- the first run, and the runs behind it
run_by : (x y k : ℕ) (ys : List ℕ) (t : Bool) → runs (y ∷ ys) ≡ (y ∷ take k ys) ∷ runs (drop k ys)
    → cond t ((x ∷ y ∷ take k ys) ∷ runs (drop k ys)) ((x ∷ []) ∷ (y ∷ take k ys) ∷ runs (drop k ys))
    ≡ (x ∷ take (cond t (suc k) zero) (y ∷ ys)) ∷ runs (drop (cond t (suc k) zero) (y ∷ ys))
run_by x y k ys true ih = refl
run_by x y k ys false ih = ap (λ (rs : List (List ℕ)). (x ∷ []) ∷ rs) (sym ih)

pub run_first : (x : ℕ) (xs : List ℕ) → runs (x ∷ xs) ≡ (x ∷ take (more x xs) xs) ∷ runs (drop (more x xs) xs)
unfolding runs into more
run_first x [] = refl
run_first x (y ∷ ys) = ap (into x) (run_first y ys) ∙ run_by x y (more y ys) ys (joins x y) (run_first y ys)

pub first_run : (s : List ℕ) → 0 < length s → runs s ≡ take (first s) s ∷ runs (drop (first s) s)
unfolding first
first_run [] h = absurd (not-suc-le-zero h)
first_run (x ∷ xs) h = run_first x xs

more_by : (k n : ℕ) (t : Bool) → k ≤ n → cond t (suc k) zero ≤ suc n
more_by k n true h = omega arith
more_by k n false h = omega arith

more_low : (x : ℕ) (xs : List ℕ) → more x xs ≤ length xs
unfolding more
more_low x [] = omega arith
more_low x (y ∷ ys) = more_by (more y ys) (length ys) (joins x y) (more_low y ys)

pub first_low : (s : List ℕ) → 0 < length s → (0 < first s) × (first s ≤ length s)
unfolding first
first_low [] h = absurd (not-suc-le-zero h)
first_low (x ∷ xs) h = omega (arith, more_low x xs)

-- ---- the pieces of a first run r and of what is behind it
abbrev pub Pieces : Bool → List ℕ → List ℕ → List (List ℕ)
Pieces true r rest = (r ++ take (suc (first (drop 1 rest))) rest) ∷ pieces_of (drop (suc (first (drop 1 rest))) rest)
Pieces false r rest = r ∷ pieces_of rest

-- a `%` joins nothing
percent_alone : (ys : List ℕ) → more 37 ys ≡ 0
unfolding more joins is_letter within
percent_alone [] = refl
percent_alone (y ∷ ys) = refl

percent_one : runs (37 ∷ []) ≡ (37 ∷ []) ∷ []
unfolding runs into
percent_one = refl

percent_two : (z : ℕ) (zs : List ℕ) → runs (37 ∷ z ∷ zs) ≡ (37 ∷ []) ∷ (z ∷ take (more z zs) zs) ∷ runs (drop (more z zs) zs)
percent_two z zs = run_first 37 (z ∷ zs) ∙ rw (percent_alone (z ∷ zs)) (ap (λ (l : List (List ℕ)). (37 ∷ []) ∷ l) (run_first z zs))

behind_percent : (r ys : List ℕ) → pieces (r ∷ runs (37 ∷ ys)) ≡ Pieces (is_number r && goes_on (37 ∷ ys)) r (37 ∷ ys)
unfolding pieces goes_on first
behind_percent r [] = ap (λ (l : List (List ℕ)). pieces (r ∷ l)) percent_one ∙ sym (rw (and-false (is_number r), percent_one))
behind_percent r (z ∷ zs) = ap (λ (l : List (List ℕ)). pieces (r ∷ l)) (percent_two z zs) ∙ go (is_number r) (is_digit z)
  where
    go : (b d : Bool) → cond ((b && true) && d) ((r ++ ((37 ∷ []) ++ (z ∷ take (more z zs) zs))) ∷ pieces (runs (drop (more z zs) zs))) (r ∷ pieces ((37 ∷ []) ∷ (z ∷ take (more z zs) zs) ∷ runs (drop (more z zs) zs))) ≡ Pieces (b && d) r (37 ∷ z ∷ zs)
    go true true = refl
    go true false = ap (λ (l : List (List ℕ)). r ∷ pieces l) (sym (percent_two z zs))
    go false d = ap (λ (l : List (List ℕ)). r ∷ pieces l) (sym (percent_two z zs))

behind_other : (r : List ℕ) (y : ℕ) (ys : List ℕ) → eqb y 37 ≡ false → pieces (r ∷ runs (y ∷ ys)) ≡ r ∷ pieces (runs (y ∷ ys))
unfolding pieces
behind_other r y ys e = rw (run_first y ys) (go (runs (drop (more y ys) ys)))
  where
    none_of : (a b c d : Bool) → b ≡ false → ((a && (c && b)) && d) ≡ false
    none_of true b true d h = rw h
    none_of true b false d h = refl
    none_of false b c d h = refl

    go : (rs : List (List ℕ)) → pieces (r ∷ (y ∷ take (more y ys) ys) ∷ rs) ≡ r ∷ pieces ((y ∷ take (more y ys) ys) ∷ rs)
    go [] = refl
    go (q ∷ rs) = rw (none_of (is_number r) (eqb y 37) (eqb (length (y ∷ take (more y ys) ys)) 1) (is_number q) e)

on_other : (y : ℕ) (ys : List ℕ) → eqb y 37 ≡ false → goes_on (y ∷ ys) ≡ false
unfolding goes_on
on_other y [] e = refl
on_other y (z ∷ zs) e = rw e

pub pieces_behind : (r rest : List ℕ) → pieces (r ∷ runs rest) ≡ Pieces (is_number r && goes_on rest) r rest
unfolding pieces runs goes_on
pieces_behind r [] = rw (and-false (is_number r))
pieces_behind r (y ∷ ys) = go (eqb y 37) refl
  where
    go : (t : Bool) → eqb y 37 ≡ t → pieces (r ∷ runs (y ∷ ys)) ≡ Pieces (is_number r && goes_on (y ∷ ys)) r (y ∷ ys)
    go true e = subst (λ (v : ℕ). pieces (r ∷ runs (v ∷ ys)) ≡ Pieces (is_number r && goes_on (v ∷ ys)) r (v ∷ ys)) (sym (eqb-true y 37 e)) (behind_percent r ys)
    go false e = rw (on_other y ys e, and-false (is_number r)) (behind_other r y ys e)

-- a token's pieces are its first piece and those of the rest
joined : (k m : ℕ) (s : List ℕ) → (take k s ++ take m (drop k s)) ∷ pieces_of (drop m (drop k s)) ≡ take (k + m) s ∷ pieces_of (drop (k + m) s)
joined k m s = rw (take-add k m s, drop-drop m k s)

pub first_piece_lem : (s : List ℕ) → 0 < length s → pieces_of s ≡ take (first_piece s) s ∷ pieces_of (drop (first_piece s) s)
unfolding first_piece first
first_piece_lem [] h = absurd (not-suc-le-zero h)
first_piece_lem (x ∷ xs) h = ap pieces (run_first x xs) ∙ pieces_behind (x ∷ take (more x xs) xs) (drop (more x xs) xs) ∙ go (is_digit x && goes_on (drop (more x xs) xs))
  where
    go : (b : Bool) → Pieces b (x ∷ take (more x xs) xs) (drop (more x xs) xs)
        ≡ take (piece_by b (suc (more x xs)) (drop (more x xs) xs)) (x ∷ xs) ∷ pieces_of (drop (piece_by b (suc (more x xs)) (drop (more x xs) xs)) (x ∷ xs))
    go true = joined (suc (more x xs)) (suc (first (drop 1 (drop (more x xs) xs)))) (x ∷ xs)
    go false = refl

-- its length, by what stands behind the first run
pub piece_plain : (s : List ℕ) → (is_number s && goes_on (drop (first s) s)) ≡ false → first_piece s ≡ first s
unfolding first_piece
piece_plain s e = rw e

pub piece_ratio : (s : List ℕ) → (is_number s && goes_on (drop (first s) s)) ≡ true → first_piece s ≡ first s + suc (first (drop 1 (drop (first s) s)))
unfolding first_piece
piece_ratio s e = rw e

pub on_more : (s : List ℕ) → goes_on s ≡ true → (suc zero < length s) × (get_or s 0 0 ≡ 37) × (is_digit (get_or s 1 0) ≡ true)
unfolding goes_on
on_more [] e = clash cc
on_more (x ∷ []) e = clash cc
on_more (x ∷ y ∷ ys) e = let b = both (eqb x 37) (is_digit y) e in (omega arith, eqb-true x 37 b.0, b.1)

pub piece_low : (s : List ℕ) → 0 < length s → (0 < first_piece s) × (first_piece s ≤ length s)
unfolding first_piece
piece_low s h = go (is_number s) (goes_on (drop (first s) s)) refl
  where
    go : (b c : Bool) → goes_on (drop (first s) s) ≡ c → (0 < piece_by (b && c) (first s) (drop (first s) s)) × (piece_by (b && c) (first s) (drop (first s) s) ≤ length s)
    go true true e =
        let m = on_more (drop (first s) s) e in
        let l = first_low (drop 1 (drop (first s) s)) (omega (arith, m.0, length-drop 1 (drop (first s) s))) in
        omega (arith, m.0, l, first_low s h, length-drop 1 (drop (first s) s), length-drop (first s) s)
    go true false e = first_low s h
    go false c e = first_low s h

-- ---- whether a `%` stands in it
pub no_percent : (x : ℕ) → is_digit x ≡ true → eqb x 37 ≡ false
no_percent x d = ne_eqb x 37 (λ e. omega (arith, within_low 48 57 x d))

digits_more : (x : ℕ) (xs : List ℕ) → is_digit x ≡ true → is_ratio (x ∷ take (more x xs) xs) ≡ false
unfolding is_ratio more joins
digits_more x [] d = rw (no_percent x d)
digits_more x (y ∷ ys) d = rw (no_percent x d, d) (go (is_digit y) (digits_more y ys))
  where
    go : (t : Bool) → (t ≡ true → is_ratio (y ∷ take (more y ys) ys) ≡ false) → is_ratio (take (cond t (suc (more y ys)) zero) (y ∷ ys)) ≡ false
    go true rest = rest refl
    go false rest = refl

pub digits_alone : (s : List ℕ) → is_number s ≡ true → is_ratio (take (first s) s) ≡ false
unfolding first is_ratio
digits_alone [] d = refl
digits_alone (x ∷ xs) d = digits_more x xs d

pub percent_in : (s : List ℕ) (k : ℕ) → k < length s → get_or s k 0 ≡ 37 → is_ratio s ≡ true
unfolding is_ratio
percent_in [] k h e = absurd (not-suc-le-zero h)
percent_in (x ∷ xs) zero h e = rw (eq-eqb x 37 e)
percent_in (x ∷ xs) (suc k) h e = go (eqb x 37) (percent_in xs k (le_of_suc-le-suc h) e)
  where
    go : (t : Bool) → is_ratio xs ≡ true → cond t true (is_ratio xs) ≡ true
    go true rest = refl
    go false rest = rest

-- ---- the three runs of a ratio
pub percent_byte : (p : List ℕ) → is_percent p ≡ true → p ≡ 37 ∷ []
percent_byte [] e = cc
percent_byte (x ∷ []) e = ap (λ (y : ℕ). y ∷ []) (eqb-true x 37 e)
percent_byte (x ∷ y ∷ p) e = let l = eqb-true _ _ (both (eqb (length (x ∷ y ∷ p)) 1) (eqb x 37) e).0 in absurd (omega arith)

pub number_append : (r t : List ℕ) → is_number r ≡ true → is_number (r ++ t) ≡ true
unfolding within
number_append [] t d = cc
number_append (x ∷ r) t d = d

pub record Three (r p q : List ℕ) : Type 0 where
  pub first : is_number r ≡ true
  pub percent : is_percent p ≡ true
  pub second : is_number q ≡ true

pub three : (r p q : List ℕ) → (is_number r && is_percent p && is_number q) ≡ true → Three r p q
three r p q e =
    let b = both (is_number r && is_percent p) (is_number q) e in
    let a = both (is_number r) (is_percent p) b.0 in
    record { first = a.0; percent = a.1; second = b.1 }
