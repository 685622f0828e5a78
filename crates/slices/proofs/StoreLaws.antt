-- A result stored at the start of a buffer, or of the unwritten end of one.
use mathlib.Core.Path.{◌≡◌, sym}
use mathlib.Core.List.{List, [], ◌∷◌, ◌++◌, append_assoc, append-nil}
use Prim.Native.Nat.{ℕ, suc, ◌+◌, ◌-◌, ◌≤◌, ◌<◌}
use native.Mathlib.Nat.{add-zero, add-suc, suc-add, zero-add}
use native.Mathlib.Omega.{arith}
use native.Mathlib.Numerals.{add-one}
use lib.ListN.{length, get_or, take, drop, set, length-drop, drop_of_length-le}
use lib.Seq.{sets, sets-eq, take_all, drop-drop, take-suc, length-take-le}
use borrow.Author.Tests.{le-leb, lt-leb}
use Rattle.slices.specs.Store.{stored}

pub sets_append : (vs ws l : List ℕ) (i : ℕ) → sets (sets l i vs) (i + length vs) ws ≡ sets l i (vs ++ ws)
sets_append [] ws l i = rw add-zero
sets_append (v ∷ vs) ws l i = rw (add-suc i (length vs), ← suc-add i (length vs)) (sets_append vs ws (set l i v) (suc i))

-- what fits is stored as a run from the start
pub stored_sets : (old bytes : List ℕ) → length bytes ≤ length old → stored old bytes ≡ sets old 0 bytes
unfolding stored
stored_sets old bytes h =
    let z : 0 + length bytes ≤ length old = omega arith in
    rw (le-leb _ _ h) (sym (rw zero-add at (sets-eq bytes old 0 z)))

-- what is copied to the start is stored
pub stored_front : (old bytes : List ℕ) → length bytes ≤ length old → bytes ++ drop (length bytes) old ≡ stored old bytes
unfolding stored
stored_front old bytes h = rw (le-leb _ _ h)

pub stored_not : (old bytes : List ℕ) → length old < length bytes → stored old bytes ≡ old
unfolding stored
stored_not old bytes h = rw (lt-leb _ _ h)

-- the whole's end from `at` on is lent, and comes back with a result stored at its start
pub stored_tail : (bytes xs ys : List ℕ) (at : ℕ) → at + length bytes ≤ length xs → ys ≡ stored (take (length xs - at) (drop at xs)) bytes
    → take at xs ++ (ys ++ drop (length xs - at) (drop at xs)) ≡ sets xs at bytes
stored_tail bytes xs ys at h e =
    let n : length (drop at xs) ≡ length xs - at = length-drop at xs in
    let whole : take (length xs - at) (drop at xs) ≡ drop at xs = take_all (length xs - at) (drop at xs) (omega arith) in
    let none : drop (length xs - at) (drop at xs) ≡ [] = drop_of_length-le (drop at xs) {i = length xs - at} (omega arith) in
    let fits : length bytes ≤ length (drop at xs) = omega arith in
    let l : sets (drop at xs) 0 bytes ≡ bytes ++ drop (length bytes) (drop at xs) = rw zero-add at (sets-eq bytes (drop at xs) 0 (omega arith)) in
    rw (e, whole, none, append-nil, stored_sets (drop at xs) bytes fits, l, sets-eq bytes xs at h, append_assoc, drop-drop)

-- one more byte of a copy
pub copy_more : (l s : List ℕ) (i : ℕ) → i < length s → set (sets l 0 (take i s)) i (get_or s i 0) ≡ sets l 0 (take (i + 1) s)
copy_more l s i h =
    let n : length (take i s) ≡ i = length-take-le i s (omega arith) in
    rw (add-one, take-suc s i 0 h) (rw (zero-add, n) at (sets_append (take i s) (get_or s i 0 ∷ []) l 0))
