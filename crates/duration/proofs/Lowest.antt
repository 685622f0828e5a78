-- The written value is the largest power of two not above the reciprocal, the rest a tuplet in lowest terms: one computed fact over all 255.
use mathlib.Core.Path.{◌≡◌}
use mathlib.Core.Logic.{◌⊎◌, inl, inr}
use mathlib.Core.Bool.{Bool, true, false, ◌&&◌}
use mathlib.Core.List.{List, [], ◌∷◌}
use Prim.Native.Nat.{ℕ, zero, suc, ◌-◌, ◌*◌, ◌^◌, ◌≤◌, ◌<◌, ◌∣◌}
use native.Mathlib.Nat.{eq-one_of_dvd-one}
use native.Mathlib.Omega.{arith}
use lib.Dec.{T, eqb, leb, ltb, leb→le, ltb→lt, eqb→eq}
use Rattle.slices.specs.Finite.{below, both_left, both_right}
use Rattle.slices.proofs.TestLaws.{clash}
use Rattle.duration.specs.Duration.{gcd_in, gcd_of, exponent_of, written, written_at, duration_of}
use Rattle.duration.specs.Reciprocal.{decimal}
use Rattle.duration.specs.declared.Value.{Value}
use Rattle.duration.specs.declared.Value.TheVariants.{Plain, Tuplet}
use Rattle.std.specs.Prelude.{Some}
use Rattle.duration.proofs.Divisors.{gcd_greatest}
use Rattle.duration.proofs.Kept.{Outcome, breve, longa, reciprocal, none, outcome}

-- value v stands for the power 2 ^ (v - 2), the largest not above n, and actual to normal is n to that power, in lowest terms
pub record Ratio (n v actual normal : ℕ) : Type 0 where
  pub low : 2 ^ (v - 2) ≤ n
  pub high : n < 2 * 2 ^ (v - 2)
  pub same : actual * 2 ^ (v - 2) ≡ n * normal
  pub lowest : gcd_of actual normal ≡ 1
  pub value : (2 ≤ v) × (v ≤ 9)
  pub actual_range : (1 ≤ actual) × (actual ≤ 255)
  pub normal_range : (1 ≤ normal) × (normal ≤ 255)

-- in lowest terms: nothing but 1 divides both
pub lowest_terms : {n v a d : ℕ} → Ratio n v a d → (k : ℕ) → k ∣ a → k ∣ d → k ≡ 1
lowest_terms {a = a} {d = d} r k h l = eq-one_of_dvd-one (rw r.lowest at (gcd_greatest k a d h l))

-- the same as a test
between : ℕ → ℕ → ℕ → Bool
between lo x hi = leb lo x && leb x hi

between_is : (lo x hi : ℕ) → T (between lo x hi) → (lo ≤ x) × (x ≤ hi)
unfolding between
between_is lo x hi t =
    (leb→le lo x (both_left (leb lo x) (leb x hi) t), leb→le x hi (both_right (leb lo x) (leb x hi) t))

ratio : ℕ → ℕ → ℕ → ℕ → Bool
ratio n v a d =
    leb (2 ^ (v - 2)) n
    && ltb n (2 * 2 ^ (v - 2))
    && eqb (a * 2 ^ (v - 2)) (n * d)
    && eqb (gcd_of a d) 1
    && between 2 v 9
    && between 1 a 255
    && between 1 d 255

seven : (a b c d e f g : Bool) → T (a && b && c && d && e && f && g) → T a × T b × T c × T d × T e × T f × T g
seven true true true true true true true t = (tt, tt, tt, tt, tt, tt, tt)
seven true true true true true true false t = absurd t
seven true true true true true false g t = absurd t
seven true true true true false f g t = absurd t
seven true true true false e f g t = absurd t
seven true true false d e f g t = absurd t
seven true false c d e f g t = absurd t
seven false b c d e f g t = absurd t

ratio_is : (n v a d : ℕ) → T (ratio n v a d) → Ratio n v a d
unfolding ratio
ratio_is n v a d t =
    let p = 2 ^ (v - 2) in
    let r = seven (leb p n) (ltb n (2 * p)) (eqb (a * p) (n * d)) (eqb (gcd_of a d) 1) (between 2 v 9) (between 1 a 255) (between 1 d 255) t in
    record {
      low = leb→le _ _ r.0;
      high = ltb→lt _ _ r.1;
      same = eqb→eq _ _ r.2;
      lowest = eqb→eq _ _ r.3;
      value = between_is _ _ _ r.4;
      actual_range = between_is _ _ _ r.5;
      normal_range = between_is _ _ _ r.6;
    }

-- a plain value is 1 to 1, and a tuplet is not
fair : ℕ → Value → Bool
fair n (Plain v) = ratio n v 1 1
fair n (Tuplet v a d) = ltb d a && ratio n v a d

fair_at : ℕ → Bool
fair_at k = fair (suc k) (written (suc k))

each_fair : (k : ℕ) → k < 255 → T (fair_at k)
unfolding fair_at fair ratio between written written_at exponent_of gcd_in
each_fair = below fair_at 255 tt

fair_written : (n : ℕ) → 1 ≤ n → n ≤ 255 → T (fair n (written n))
unfolding fair_at
fair_written zero lo hi = absurd (omega arith)
fair_written (suc k) lo hi = each_fair k hi

pub written_plain : (n v : ℕ) → 1 ≤ n → n ≤ 255 → written n ≡ Plain v → Ratio n v 1 1
unfolding fair
written_plain n v lo hi e = ratio_is n v 1 1 (rw e at (fair_written n lo hi))

pub written_tuplet : (n v a d : ℕ) → 1 ≤ n → n ≤ 255 → written n ≡ Tuplet v a d → (d < a) × Ratio n v a d
unfolding fair
written_tuplet n v a d lo hi e =
    let t : T (ltb d a && ratio n v a d) = rw e at (fair_written n lo hi) in
    (ltb→lt d a (both_left (ltb d a) (ratio n v a d) t), ratio_is n v a d (both_right (ltb d a) (ratio n v a d) t))

-- ---- of the digits
pub duration_tuplet : (s : List ℕ) (v a d : ℕ) → duration_of s ≡ Some (Tuplet v a d) → (d < a) × Ratio (decimal s) v a d
duration_tuplet s v a d e = go (outcome s)
  where
    go : Outcome s (duration_of s) → (d < a) × Ratio (decimal s) v a d
    go (breve _ r) = clash cc
    go (longa _ r) = clash cc
    go (reciprocal w r) = written_tuplet (decimal s) v a d w.low w.high cc
    go (none _ _ _ r) = clash cc

pub duration_plain : (s : List ℕ) (v : ℕ) → duration_of s ≡ Some (Plain v)
    → ((s ≡ 48 ∷ []) × (v ≡ 1)) ⊎ (((s ≡ 48 ∷ 48 ∷ []) × (v ≡ 0)) ⊎ Ratio (decimal s) v 1 1)
duration_plain s v e = go (outcome s)
  where
    go : Outcome s (duration_of s) → ((s ≡ 48 ∷ []) × (v ≡ 1)) ⊎ (((s ≡ 48 ∷ 48 ∷ []) × (v ≡ 0)) ⊎ Ratio (decimal s) v 1 1)
    go (breve q r) = inl (q, cc)
    go (longa q r) = inr (inl (q, cc))
    go (reciprocal w r) = inr (inr (written_plain (decimal s) v w.low w.high cc))
    go (none _ _ _ r) = clash cc

pub duration_value : (s : List ℕ) (v : ℕ) → duration_of s ≡ Some (Plain v) → v ≤ 9
duration_value s v e = go (duration_plain s v e)
  where
    go : ((s ≡ 48 ∷ []) × (v ≡ 1)) ⊎ (((s ≡ 48 ∷ 48 ∷ []) × (v ≡ 0)) ⊎ Ratio (decimal s) v 1 1) → v ≤ 9
    go (inl q) = omega arith
    go (inr (inl q)) = omega arith
    go (inr (inr q)) = q.value.1
