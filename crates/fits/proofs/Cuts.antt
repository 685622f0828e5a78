-- The pieces of a text have its bytes, and a repaired record no more but its `*`.
use mathlib.Core.Path.{◌≡◌, refl, ap}
use mathlib.Core.Bool.{Bool, true, false, cond}
use mathlib.Core.List.{List, [], ◌∷◌, ◌++◌}
use Prim.Native.Nat.{ℕ, zero, suc, ◌+◌, ◌-◌, ◌≤◌}
use native.Mathlib.Omega.{arith}
use lib.Dec.{eqb}
use lib.ListN.{length, replicate, length-take, length-append, length-replicate}
use Rattle.sheet.specs.Fits.{All, U8}
use Rattle.slices.specs.Split.{join, split}
use Rattle.slices.proofs.TotalLaws.{total, take_total}
use Rattle.lines.specs.Lines.{keep, without_crs}
use Rattle.repair.specs.Repair.{repair_by}
use Rattle.repair.specs.declared.Repair.{Repair}
use Rattle.repair.specs.declared.Repair.TheVariants.{Whole, Cut, Stars, Bars}
use Rattle.reading.specs.Notices.{Token, placed}
use Rattle.fits.proofs.Each.{all_append, all_take, all_replicate}

join_bytes : (t : Bool) (x : ℕ) (ps : List (List ℕ)) → U8 x → All (All U8) ps → All (All U8) (join t x ps)
unfolding join
join_bytes true x ps h k = (tt, k)
join_bytes false x [] h k = ((h, tt), tt)
join_bytes false x (p ∷ ps) h k = ((h, k.0), k.1)

pub split_bytes : (b : ℕ) (s : List ℕ) → All U8 s → All (All U8) (split b s)
unfolding split
split_bytes b [] h = (tt, tt)
split_bytes b (x ∷ s) h = join_bytes (eqb x b) x (split b s) h.0 (split_bytes b s h.1)

-- ---- without trailing CRs

keep_bytes : (x : ℕ) (ys : List ℕ) → U8 x → All U8 ys → All U8 (keep x ys)
unfolding keep
keep_bytes x [] h k = go (eqb x 13)
  where
    go : (t : Bool) → All U8 (cond t [] (x ∷ []))
    go true = tt
    go false = (h, tt)
keep_bytes x (y ∷ ys) h k = (h, k)

pub content_bytes : (s : List ℕ) → All U8 s → All U8 (without_crs s)
unfolding without_crs
content_bytes [] h = tt
content_bytes (x ∷ s) h = keep_bytes x (without_crs s) h.0 (content_bytes s h.1)

-- ---- a repaired record: `*` is all that is filled in, but for barlines

total_append : (ps qs : List (List ℕ)) → total (ps ++ qs) ≡ total ps + total qs
unfolding total
total_append [] qs = omega arith
total_append (p ∷ ps) qs = omega (arith, total_append ps qs)

total_stars : (n : ℕ) → total (replicate n (42 ∷ [])) ≡ n
unfolding total
total_stars zero = omega arith
total_stars (suc n) = omega (arith, total_stars n)

pub repaired_total : (r : Repair) (n : ℕ) (ts : List (List ℕ)) → (r ≡ Bars → ⊥)
    → total (repair_by r n ts) + length (repair_by r n ts) ≤ total ts + length ts + n + n
unfolding repair_by
repaired_total Whole n ts h = omega arith
repaired_total Cut n ts h = omega (arith, take_total n ts, length-take n ts)
repaired_total Stars n ts h =
    omega (
      arith,
      total_append ts (replicate (n - length ts) (42 ∷ [])),
      total_stars (n - length ts),
      length-append ts (replicate (n - length ts) (42 ∷ [])),
      length-replicate {A = List ℕ} (n - length ts) (42 ∷ []),
    )
repaired_total Bars n ts h = absurd (h refl)

pub repaired_bytes : (r : Repair) (n : ℕ) (ts : List (List ℕ)) → (r ≡ Bars → ⊥) → All (All U8) ts → All (All U8) (repair_by r n ts)
unfolding repair_by
repaired_bytes Whole n ts h k = k
repaired_bytes Cut n ts h k = all_take (All U8) n ts k
repaired_bytes Stars n ts h k =
    all_append (All U8) ts (replicate (n - length ts) (42 ∷ [])) k (all_replicate (All U8) (n - length ts) (42 ∷ []) (omega arith, tt))
repaired_bytes Bars n ts h k = absurd (h refl)

-- ---- tokens

-- a token of bytes that ends below 2 ^ 27, twice the longest text
pub record TokenFits (t : Token) : Type 0 where
  pub ends : t.at + length t.bytes ≤ 134217728
  pub bytes : All U8 t.bytes

pub placed_fit : (at : ℕ) (ts : List (List ℕ)) → at + (total ts + length ts) ≤ 134217728 → All (All U8) ts → All TokenFits (placed at ts)
unfolding placed total
placed_fit at [] h k = tt
placed_fit at (t ∷ ts) h k = (record { ends = omega arith; bytes = k.0 }, placed_fit (at + length t + 1) ts (omega arith) k.1)

pub placed_length : (at : ℕ) (ts : List (List ℕ)) → length (placed at ts) ≡ length ts
unfolding placed
placed_length at [] = refl
placed_length at (t ∷ ts) = ap suc (placed_length (at + length t + 1) ts)
