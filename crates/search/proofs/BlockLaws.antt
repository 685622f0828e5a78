-- A list searched and counted by parts: what each part says of the whole.
use mathlib.Core.Path.{◌≡◌, refl, sym, ap, ◌∙◌}
use mathlib.Core.Bool.{Bool, true, false, cond}
use Prim.Native.Nat.{ℕ, zero, suc, ◌+◌, ◌*◌, ◌/◌, ◌≤◌, ◌<◌}
use native.Mathlib.Nat.{not-suc-le-zero, le_of_suc-le-suc, mul-zero, mul-suc, mul-le-mul_left, mul-div-le, add_comm}
use native.Mathlib.Numerals.{add-one}
use native.Mathlib.Omega.{arith}
use mathlib.Core.List.{List, [], ◌∷◌}
use lib.Dec.{eqb}
use lib.ListN.{length, take, drop, get_or, length-drop}
use lib.Seq.{drop-drop, take-add, length-take-le}
use Rattle.std.specs.List.{count_by}
use Rattle.std.specs.Simd.{first_chunks}
use Rattle.std.proofs.lemmas.List.Sums.{sum_by-append, sum_by-cons, sum_by-take-drop, count_by-le-length}
use Rattle.slices.specs.Split.{split, index_of}
use Rattle.slices.proofs.SplitLaws.{count_more, count_none}
use Rattle.search.specs.Blocks.{Without}

-- ---- searching
-- the first n bytes decide, where b is among them
index_early : (b n : ℕ) (s : List ℕ) → index_of b (take n s) < n → n ≤ length s → index_of b (take n s) ≡ index_of b s
unfolding index_of
index_early b zero s h low = absurd (not-suc-le-zero h)
index_early b (suc n) [] h low = refl
index_early b (suc n) (x ∷ s) h low = go (eqb x b) h (index_early b n s)
  where
    go : (t : Bool) → cond t 0 (suc (index_of b (take n s))) < suc n → (index_of b (take n s) < n → n ≤ length s → index_of b (take n s) ≡ index_of b s)
        → cond t 0 (suc (index_of b (take n s))) ≡ cond t 0 (suc (index_of b s))
    go true h ih = refl
    go false h ih = ap suc (ih (omega arith) (omega arith))

-- a search goes on behind the first n bytes, where none of them is b
index_front : (b n : ℕ) (s : List ℕ) → n ≤ length s → index_of b (take n s) ≡ n → index_of b s ≡ n + index_of b (drop n s)
unfolding index_of
index_front b zero s low e = omega arith
index_front b (suc n) [] low e = absurd (not-suc-le-zero low)
index_front b (suc n) (x ∷ s) low e = go (eqb x b) e (index_front b n s)
  where
    go : (t : Bool) → cond t 0 (suc (index_of b (take n s))) ≡ suc n → (n ≤ length s → index_of b (take n s) ≡ n → index_of b s ≡ n + index_of b (drop n s))
        → cond t 0 (suc (index_of b s)) ≡ suc n + index_of b (drop n s)
    go true e ih = absurd (omega arith)
    go false e ih = omega (arith, ih (omega arith) (omega arith))

-- the first n bytes one by one, and then the rest
module _ (b n : ℕ) (s : List ℕ) {i : ℕ} (low : n ≤ length s) (e : (i ≡ index_of b (take n s)) × (i ≤ length (take n s))) where
  pub far_early : i < n → (i ≡ index_of b s) × (i ≤ length s)
  far_early h = (e.0 ∙ index_early b n s (omega (arith, e.0)) low, omega arith)

  pub far_late : {r : ℕ} → n ≤ i → (r ≡ n + index_of b (drop n s)) × (r ≤ length s) → (r ≡ index_of b s) × (r ≤ length s)
  far_late h q = (q.0 ∙ sym (index_front b n s low (omega (arith, e, length-take-le n s low))), q.1)

-- a block of n bytes more
pub without_block : {b : ℕ} {s : List ℕ} {from i : ℕ} → Without b s from i → (n : ℕ) → i + n ≤ length s → index_of b (take n (drop i s)) ≡ n → Without b s from (i + n)
without_block {b} {s} {from} {i} inv n h e =
    let on : index_of b (drop i s) ≡ n + index_of b (drop n (drop i s)) = index_front b n (drop i s) (omega (arith, length-drop i s)) e in
    record { low = omega (arith, inv.low); high = h; same = omega (arith, inv.low, inv.same, on, ap (index_of b) (drop-drop n i s)) }

-- no byte b, no place of one
pub none_index : (b : ℕ) (s : List ℕ) → count_by (λ x. eqb x b) s ≡ 0 → index_of b s ≡ length s
unfolding index_of
none_index b [] e = refl
none_index b (x ∷ s) e = go (eqb x b) (rw (sum_by-cons (λ x. cond (eqb x b) 1 0) x s) at e) (none_index b s)
  where
    go : (t : Bool) → cond t 1 0 + count_by (λ x. eqb x b) s ≡ 0 → (count_by (λ x. eqb x b) s ≡ 0 → index_of b s ≡ length s) → cond t 0 (suc (index_of b s)) ≡ suc (length s)
    go true e ih = absurd (omega arith)
    go false e ih = ap suc (ih (omega arith))

-- ---- the blocks of n bytes
pub block_at : (n k j : ℕ) (s d : List ℕ) → j < k → get_or (first_chunks n k s) j d ≡ take n (drop (n * j) s)
block_at n zero j s d h = absurd (not-suc-le-zero h)
block_at n (suc k) zero s d h = rw mul-zero
block_at n (suc k) (suc j) s d h =
    block_at n k j (drop n s) d (le_of_suc-le-suc h) ∙ ap (take n) (drop-drop (n * j) n s ∙ ap (λ (m : ℕ). drop m s) (add_comm n (n * j) ∙ sym (mul-suc n j)))

-- a block stands in the list
block_inside : (n j m : ℕ) → j < m / n → n * j + n ≤ m
block_inside n j m h = omega (arith, add-one j, mul-suc n j, mul-le-mul_left n h, mul-div-le m n)

-- a block without b more
pub blocks_more : {b : ℕ} {s : List ℕ} {from i : ℕ} → Without b s from i → (n j : ℕ) → i ≡ from + n * j
    → (x : List ℕ) → x ≡ get_or (first_chunks n (length (drop from s) / n) (drop from s)) j x → j < length (drop from s) / n
    → count_by (λ x. eqb x b) x ≡ 0 → Without b s from (i + n) × (i + n ≡ from + n * (j + 1))
blocks_more {b} {s} {from} {i} inv n j at x e h none =
    let high : n * j + n ≤ length (drop from s) = block_inside n j _ h in
    let here : x ≡ take n (drop i s) = e ∙ block_at n _ j (drop from s) x h ∙ ap (take n) (drop-drop (n * j) from s ∙ ap (λ (m : ℕ). drop m s) (sym at)) in
    let fits : i + n ≤ length s = omega (arith, length-drop from s) in
    let all : length (take n (drop i s)) ≡ n = length-take-le n (drop i s) (omega (arith, length-drop i s)) in
    let next : n * (j + 1) ≡ n * j + n = rw (add-one, mul-suc) in
    (without_block inv n fits (ap (index_of b) (sym here) ∙ none_index b x none ∙ ap length here ∙ all), omega arith)

-- ---- counting
pub split_count : (b : ℕ) (s : List ℕ) → length (split b s) ≡ count_by (λ x. eqb x b) s + 1
split_count b [] = count_none b
split_count b (x ∷ s) = omega (arith, count_more b x s, split_count b s, sum_by-cons (λ x. cond (eqb x b) 1 0) x s)

-- the bytes in the first n, and in the m behind them
count_on : (b n m : ℕ) (s : List ℕ) → count_by (λ x. eqb x b) (take (n + m) s) ≡ count_by (λ x. eqb x b) (take n s) + count_by (λ x. eqb x b) (take m (drop n s))
count_on b n m s = ap (count_by (λ x. eqb x b)) (take-add n m s) ∙ sum_by-append (λ x. cond (eqb x b) 1 0) (take n s) (take m (drop n s))

-- a block more
pub count_turn : (b n j : ℕ) (s : List ℕ) (l : List (List ℕ)) → l ≡ first_chunks n (length s / n) s → j < length s / n
    → count_by (λ x. eqb x b) (take (n * j) s) + count_by (λ x. eqb x b) (get_or l j []) ≡ count_by (λ x. eqb x b) (take (n * (j + 1)) s)
count_turn b n j s l e h =
    let here : get_or l j [] ≡ take n (drop (n * j) s) = ap (λ (m : List (List ℕ)). get_or m j []) e ∙ block_at n _ j s [] h in
    let next : n * (j + 1) ≡ n * j + n = rw (add-one, mul-suc) in
    rw (here, next) (sym (count_on b (n * j) n s))

-- all blocks, and the rest behind them
pub count_all : (b n k r : ℕ) (s : List ℕ) → k ≡ count_by (λ x. eqb x b) (take n s) → r ≡ count_by (λ x. eqb x b) (drop n s)
    → (k + r + 1 ≡ length (split b s)) × (k + r + 1 ≤ length s + 1)
count_all b n k r s p q =
    omega (arith, split_count b s, sum_by-take-drop (λ x. cond (eqb x b) 1 0) s n, count_by-le-length (λ x. eqb x b) s)
