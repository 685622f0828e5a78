-- A line's trailing CRs: by the last byte that is none, and the line cut there.
use mathlib.Core.Path.{◌≡◌, refl, sym, ap}
use Prim.Native.Nat.{ℕ, zero, suc, ◌+◌, ◌-◌, ◌≤◌, ◌<◌}
use native.Mathlib.Nat.{not-suc-le-zero}
use native.Mathlib.Omega.{arith}
use mathlib.Core.List.{List, [], ◌∷◌}
use mathlib.Core.Bool.{Bool, true, false, cond}
use lib.Dec.{eqb}
use lib.ListN.{length, take, get_or}
use borrow.Author.Tests.{ne_eqb}
use Rattle.std.proofs.Common.{Option, None, Some}
use Rattle.std.specs.Option.{MatchOption, option_map_or}
use Rattle.lines.specs.Lines.{keep, without_crs}

-- nothing but CRs
pub none_kept : (s : List ℕ) → ((k : ℕ) → k < length s → get_or s k 0 ≡ 13) → without_crs s ≡ []
unfolding without_crs keep
none_kept [] all = refl
none_kept (x ∷ xs) all = rw (none_kept xs (λ k h. all (suc k) (omega arith)), all 0 (omega arith))

keep_some : (x : ℕ) (ys : List ℕ) → 0 < length ys → length (keep x ys) ≡ suc (length ys)
unfolding keep
keep_some x [] h = absurd (not-suc-le-zero h)
keep_some x (y ∷ ys) h = refl

-- the last byte that is no CR is the last that stays
pub last_kept : (s : List ℕ) (i : ℕ) → i < length s → (get_or s i 0 ≡ 13 → ⊥) → ((k : ℕ) → i < k → k < length s → get_or s k 0 ≡ 13)
    → length (without_crs s) ≡ i + 1
unfolding without_crs keep
last_kept [] i h other crs = absurd (not-suc-le-zero h)
last_kept (x ∷ xs) zero h other crs = rw (none_kept xs (λ k l. crs (suc k) (omega arith) (omega arith)), ne_eqb x 13 other)
last_kept (x ∷ xs) (suc i) h other crs =
    let e : length (without_crs xs) ≡ i + 1 = last_kept xs i (omega arith) other (λ k l m. crs (suc k) (omega arith) (omega arith)) in
    omega (arith, e, keep_some x (without_crs xs) (omega arith))

-- a line whose last byte is no CR stays whole
pub whole_kept : (s : List ℕ) → 0 < length s → (get_or s (length s - 1) 0 ≡ 13 → ⊥) → length (without_crs s) ≡ length s
whole_kept s some other =
    let e = last_kept s (length s - 1) (omega (arith, some)) other (λ k l m. absurd (omega (arith, l, m))) in
    omega (arith, some, e)

-- nothing but one CR
pub cr_alone : (s : List ℕ) → length s ≡ 1 → get_or s (length s - 1) 0 ≡ 13 → length (without_crs s) ≡ 0
cr_alone s one cr = ap length (none_kept s (λ k l. let at : k ≡ length s - 1 = omega (arith, one, l) in rw at cr))

-- one CR behind a byte that is none
pub cr_dropped : (s : List ℕ) → 1 < length s → get_or s (length s - 1) 0 ≡ 13 → (get_or s (length s - 1 - 1) 0 ≡ 13 → ⊥)
    → length (without_crs s) ≡ length s - 1
cr_dropped s some cr other =
    let e = last_kept s (length s - 1 - 1) (omega (arith, some)) other (λ k l m. let at : k ≡ length s - 1 = omega (arith, some, l, m) in rw at cr) in
    omega (arith, some, e)

-- cutting a line at the length of its content leaves the content
pub content_take : (s : List ℕ) → take (length (without_crs s)) s ≡ without_crs s
unfolding without_crs keep
content_take [] = refl
content_take (x ∷ xs) = go (without_crs xs) (content_take xs)
  where
    one : (t : Bool) → take (length (cond t [] (x ∷ []))) (x ∷ xs) ≡ cond t [] (x ∷ [])
    one true = refl
    one false = refl

    go : (w : List ℕ) → take (length w) xs ≡ w → take (length (keep x w)) (x ∷ xs) ≡ keep x w
    go [] e = one (eqb x 13)
    go (y ∷ ys) e = ap (λ (l : List ℕ). x ∷ l) e

keep_short : (x : ℕ) (ys : List ℕ) → length (keep x ys) ≤ suc (length ys)
unfolding keep
keep_short x [] = go (eqb x 13)
  where
    go : (t : Bool) → length (cond t [] (x ∷ [])) ≤ 1
    go true = omega arith
    go false = omega arith
keep_short x (y ∷ ys) = omega arith

-- it is no longer than the line
pub content_short : (s : List ℕ) → length (without_crs s) ≤ length s
unfolding without_crs
content_short [] = omega arith
content_short (x ∷ xs) = omega (arith, keep_short x (without_crs xs), content_short xs)

-- the place behind the last byte that is no CR
pub content_is : (s : List ℕ) (r : Option ℕ) → MatchOption r ((k : ℕ) → k < length s → get_or s k 0 ≡ 13)
    (λ i. (i < length s) × (get_or s i 0 ≡ 13 → ⊥) × ((k : ℕ) → i < k → k < length s → get_or s k 0 ≡ 13))
    → option_map_or (λ i. i + 1) r 0 ≡ length (without_crs s)
content_is s None e = sym (ap length (none_kept s e))
content_is s (Some i) e = sym (last_kept s i e.0 e.1 e.2)
