-- The laws by which a loop goes from piece to piece of a text.
use mathlib.Core.Path.{◌≡◌, refl, sym, ap, ◌∙◌}
use Prim.Native.Nat.{ℕ, zero, suc, ◌+◌, ◌-◌, ◌≤◌, ◌<◌}
use native.Mathlib.Nat.{not-suc-le-zero, le_of_suc-le-suc, suc-add, zero-add}
use native.Mathlib.Numerals.{add-one}
use native.Mathlib.Omega.{arith}
use mathlib.Core.List.{List, [], ◌∷◌}
use mathlib.Core.Bool.{Bool, true, false, cond}
use lib.Dec.{eqb}
use lib.ListN.{length, take, drop, get_or}
use lib.Seq.{drop-cons}
use Rattle.slices.specs.Split.{join, split, pieces, index_of}

-- the first piece, and the pieces behind it
first_by : (b x : ℕ) (xs : List ℕ) (t : Bool) → split b xs ≡ take (index_of b xs) xs ∷ pieces b (suc (index_of b xs)) xs
    → join t x (split b xs) ≡ take (cond t zero (suc (index_of b xs))) (x ∷ xs) ∷ pieces b (suc (cond t zero (suc (index_of b xs)))) (x ∷ xs)
unfolding join pieces
first_by b x xs true ih = refl
first_by b x xs false ih = ap (join false x) ih

pub first_piece : (b : ℕ) (xs : List ℕ) → split b xs ≡ take (index_of b xs) xs ∷ pieces b (suc (index_of b xs)) xs
unfolding split pieces index_of
first_piece b [] = refl
first_piece b (x ∷ xs) = first_by b x xs (eqb x b) (first_piece b xs)

pub pieces_drop : (b n : ℕ) (xs : List ℕ) → n ≤ length xs → (j : ℕ) → pieces b (n + j) xs ≡ pieces b j (drop n xs)
unfolding pieces
pieces_drop b zero xs h j = ap (λ (k : ℕ). pieces b k xs) (zero-add j)
pieces_drop b (suc n) [] h j = absurd (not-suc-le-zero h)
pieces_drop b (suc n) (x ∷ xs) h j =
    ap (λ (k : ℕ). pieces b k (x ∷ xs)) (suc-add n j) ∙ pieces_drop b n xs (le_of_suc-le-suc h) j

-- the piece at n, which ends before the index e, and the pieces behind it
pub next_piece : (b n e : ℕ) (xs : List ℕ) → n ≤ length xs → e ≡ n + index_of b (drop n xs)
    → pieces b n xs ≡ take (e - n) (drop n xs) ∷ pieces b (e + 1) xs
unfolding pieces
next_piece b n e xs h at =
    let k : ℕ = index_of b (drop n xs) in
    let z : n ≡ n + 0 = omega arith in
    let s : n + suc k ≡ e + 1 = omega arith in
    let d : k ≡ e - n = omega arith in
    ap (λ (m : ℕ). pieces b m xs) z
    ∙ pieces_drop b n xs h 0
    ∙ first_piece b (drop n xs)
    ∙ ap (λ (r : List (List ℕ)). take k (drop n xs) ∷ r) (sym (pieces_drop b n xs h (suc k)) ∙ ap (λ (m : ℕ). pieces b m xs) s)
    ∙ ap (λ (m : ℕ). take m (drop n xs) ∷ pieces b (e + 1) xs) d

pub no_piece : (b n : ℕ) (xs : List ℕ) → length xs < n → pieces b n xs ≡ []
unfolding pieces
no_piece b zero xs h = absurd (not-suc-le-zero h)
no_piece b (suc n) [] h = refl
no_piece b (suc n) (x ∷ xs) h = no_piece b n xs (le_of_suc-le-suc h)

pub all_pieces : (b : ℕ) (xs : List ℕ) → pieces b 0 xs ≡ split b xs
unfolding pieces
all_pieces b xs = refl

-- one byte more of a count
count_by : (b x : ℕ) (xs : List ℕ) (t : Bool) → length (join t x (split b xs)) ≡ cond t 1 0 + length (split b xs)
unfolding join
count_by b x xs true = omega arith
count_by b x xs false =
    ap (λ (r : List (List ℕ)). length (join false x r)) (first_piece b xs)
    ∙ sym (zero-add _ ∙ ap length (first_piece b xs))

pub count_more : (b x : ℕ) (xs : List ℕ) → length (split b (x ∷ xs)) ≡ cond (eqb x b) 1 0 + length (split b xs)
unfolding split
count_more b x xs = count_by b x xs (eqb x b)

-- one byte more of a search
pub index_more : (b x : ℕ) (xs : List ℕ) → index_of b (x ∷ xs) ≡ cond (eqb x b) 0 (suc (index_of b xs))
unfolding index_of
index_more b x xs = refl

pub index_none : (b : ℕ) → index_of b [] ≡ 0
unfolding index_of
index_none b = refl

-- a search ends within the list
pub index_inside : (b : ℕ) (s : List ℕ) → index_of b s ≤ length s
unfolding index_of
index_inside b [] = omega arith
index_inside b (x ∷ s) = go (eqb x b) (index_inside b s)
  where
    go : (t : Bool) → index_of b s ≤ length s → cond t 0 (suc (index_of b s)) ≤ suc (length s)
    go true h = omega arith
    go false h = omega arith

pub count_none : (b : ℕ) → length (split b []) ≡ 1
unfolding split
count_none b = refl

-- ---- a loop over the indices: what is left from i on, and from i + 1 on
pub at_index : (xs : List ℕ) (i : ℕ) → i < length xs → drop i xs ≡ get_or xs i 0 ∷ drop (i + 1) xs
at_index xs i h = rw (add-one, drop-cons xs i 0)
