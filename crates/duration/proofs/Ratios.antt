-- A ratio's value: the smallest of the ten that is not below it, with a tuplet in lowest terms; with its dots it lasts exactly what the two numbers say, for
-- all numbers: by algebra.
use mathlib.Core.Path.{◌≡◌, refl, sym, ap, ◌∙◌}
use mathlib.Core.Logic.{◌↔◌}
use mathlib.Core.Bool.{Bool, true, false, cond}
use Prim.Native.Nat.{ℕ, zero, suc, ◌*◌, ◌/◌, ◌^◌, ◌≤◌, ◌<◌, ◌∣◌}
use native.Mathlib.Nat.{mul_comm, mul_assoc, mul_left_comm, add-mul, mul-one, mul-pos, mul-le-mul, div-mul_cancel, mul-dvd-mul_right, dvd_of_mul-dvd-mul_right, eq-one_of_dvd-one, one-mul, mul-suc, le_refl, le_of_dvd, dvd-mul_right, pow-suc, eq_of_mul-eq-mul_right, dvd_refl}
use native.Mathlib.Omega.{arith}
use lib.Dec.{eqb, leb}
use lib.Pow.{pow_pos}
use borrow.Author.Tests.{leb-true, leb-false, eqb-true, eqb-false, le-leb, ne_eqb}
use Rattle.slices.proofs.TestLaws.{clash}
use Rattle.duration.specs.Duration.{gcd_of}
use Rattle.duration.specs.Length.{Fraction, ◌over◌, ◌times◌, SameLength, value_length, dot_factor, tuplet_factor, note_length}
use Rattle.duration.specs.Reciprocal.{added, dotted}
use Rattle.duration.specs.Ratio.{smallest_of, reduced_at, ratio_at, ratio_of}
use Rattle.duration.specs.declared.Value.{Value}
use Rattle.duration.specs.declared.Value.TheVariants.{Plain, Tuplet}
use Rattle.std.specs.Prelude.{Option, Some, None}
use Rattle.duration.proofs.Divisors.{gcd_divides, gcd_greatest, gcd_positive}
use Rattle.duration.proofs.Reference.{lasting}

-- ---- "the smallest of the ten that is not below m/n"
pub record Smallest (n m v : ℕ) : Type 0 where
  pub ten : v ≤ 9
  pub not_below : m * 2 ^ v ≤ 4 * n
  pub next_below : (w : ℕ) → v < w → w ≤ 9 → 4 * n < m * 2 ^ w

-- of those up to k
abbrev Smallest_to : ℕ → ℕ → ℕ → ℕ → Type 0
Smallest_to k n m v = (v ≤ k) × (m * 2 ^ v ≤ 4 * n) × ((w : ℕ) → v < w → w ≤ k → 4 * n < m * 2 ^ w)

below_by : (k n m v : ℕ) → 4 * n < m * 2 ^ suc k → ((w : ℕ) → v < w → w ≤ k → 4 * n < m * 2 ^ w) → (w : ℕ) → v < w → w ≤ suc k → 4 * n < m * 2 ^ w
below_by k n m v last rest w lo hi = go (eqb w (suc k)) refl
  where
    go : (b : Bool) → eqb w (suc k) ≡ b → 4 * n < m * 2 ^ w
    go true e = rw (eqb-true w (suc k) e) last
    go false e = let ne = eqb-false w (suc k) e in rest w lo (omega arith)

smallest_to : (k n m : ℕ) → m ≤ 4 * n → Smallest_to k n m (smallest_of k n m)
unfolding smallest_of
smallest_to zero n m h = (le_refl 0, rw (mul-one m) h, λ w lo hi. absurd (omega arith))
smallest_to (suc k) n m h = go (leb (m * 2 ^ suc k) (4 * n)) refl (smallest_to k n m h)
  where
    go : (t : Bool) → leb (m * 2 ^ suc k) (4 * n) ≡ t → Smallest_to k n m (smallest_of k n m) → Smallest_to (suc k) n m (cond t (suc k) (smallest_of k n m))
    go true t rest = (le_refl (suc k), leb-true _ _ t, λ w lo hi. absurd (omega arith))
    go false t rest = (omega (arith, rest.0), rest.1, below_by k n m (smallest_of k n m) (leb-false _ _ t) rest.2)

pub smallest_is : (n m : ℕ) → m ≤ 4 * n → Smallest n m (smallest_of 9 n m)
smallest_is n m h =
    let r = smallest_to 9 n m h in
    record { ten = r.0; not_below = r.1; next_below = r.2 }

-- ---- "normal to actual in lowest terms": the tuplet of a, in the place of b
pub quotient : (a g : ℕ) → g ∣ a → a / g * g ≡ a
quotient a g h = div-mul_cancel g h

quotient_some : (a g : ℕ) → g ∣ a → 0 < a → 0 < a / g
quotient_some a g h some = go (a / g) refl
  where
    go : (q : ℕ) → a / g ≡ q → 0 < q
    go zero e = absurd (let z : 0 * g ≡ a = rw e at (quotient a g h) in omega arith)
    go (suc q) e = omega arith

pub lowest : (a b k : ℕ) → 0 < a → k ∣ (a / gcd_of a b) → k ∣ (b / gcd_of a b) → k ≡ 1
lowest a b k some h l =
    let g = gcd_of a b in
    let d = gcd_divides a b in
    let x : (k * g) ∣ a = rw (quotient a g d.0) at (mul-dvd-mul_right k h g) in
    let y : (k * g) ∣ b = rw (quotient b g d.1) at (mul-dvd-mul_right k l g) in
    let z : (k * g) ∣ (1 * g) = rw (one-mul g) (gcd_greatest (k * g) a b x y) in
    eq-one_of_dvd-one (dvd_of_mul-dvd-mul_right {k = g} k (gcd_positive b a b some) z)

cross : (n v g m : ℕ) → g ∣ (4 * n) → g ∣ (m * 2 ^ v) → 4 * (m * 2 ^ v / g) * n ≡ m * (2 ^ v * (4 * n / g))
cross n v g m h k =
    let a = 4 * n / g in
    let b = m * 2 ^ v / g in
    let p : a * g ≡ 4 * n = quotient (4 * n) g h in
    let q : b * g ≡ m * 2 ^ v = quotient (m * 2 ^ v) g k in
    let left : 4 * b * n ≡ b * (a * g) = rw p (simp (mul_assoc, mul_left_comm, mul_comm)) in
    let right : m * (2 ^ v * a) ≡ a * (b * g) = rw q (simp (mul_left_comm, mul_comm)) in
    left ∙ (mul_left_comm b a g ∙ sym right)

-- what is less has the smaller quotient, where nothing is left
pub quotient_below : (a b g : ℕ) → g ∣ a → g ∣ b → b < a → b / g < a / g
quotient_below a b g h k l = go (leb (a / g) (b / g)) refl
  where
    go : (t : Bool) → leb (a / g) (b / g) ≡ t → b / g < a / g
    go true e =
        let m : a / g * g ≤ b / g * g = mul-le-mul (leb-true _ _ e) (le_refl g) in
        absurd (omega (arith, quotient a g h, quotient b g k))
    go false e = leb-false _ _ e

-- value v with b in the place of a lasts m/n
pub record Reduced (n m v a b : ℕ) : Type 0 where
  pub same : 4 * b * n ≡ m * (2 ^ v * a)
  pub lowest : (k : ℕ) → k ∣ a → k ∣ b → k ≡ 1
  pub some : 1 ≤ b
  pub below : b < a

reduced : (n m v : ℕ) → 0 < n → 0 < m → m * 2 ^ v < 4 * n
    → Reduced n m v (4 * n / gcd_of (4 * n) (m * 2 ^ v)) (m * 2 ^ v / gcd_of (4 * n) (m * 2 ^ v))
reduced n m v hn hm l =
    let d = gcd_divides (4 * n) (m * 2 ^ v) in
    record {
      same = cross n v (gcd_of (4 * n) (m * 2 ^ v)) m d.0 d.1;
      lowest = λ k. lowest (4 * n) (m * 2 ^ v) k (omega arith);
      some = quotient_some (m * 2 ^ v) (gcd_of (4 * n) (m * 2 ^ v)) d.1 (mul-pos hm (pow_pos v));
      below = quotient_below (4 * n) (m * 2 ^ v) (gcd_of (4 * n) (m * 2 ^ v)) d.0 d.1 l;
    }

-- ---- what n%m writes, by cases: a in the place of b, where a is
abbrev pub actual_of : ℕ → ℕ → ℕ
actual_of n m = 4 * n / gcd_of (4 * n) (m * 2 ^ smallest_of 9 n m)

pub data RatioOutcome (n m : ℕ) (r : Option Value) : Type 0 where
  plain : (v : ℕ) → Smallest n m v → 4 * n ≡ m * 2 ^ v → actual_of n m ≤ 255 → r ≡ Some (Plain v) → RatioOutcome n m r
  tuplet : (v b : ℕ) → Smallest n m v → Reduced n m v (actual_of n m) b → actual_of n m ≤ 255 → r ≡ Some (Tuplet v (actual_of n m) b) → RatioOutcome n m r
  above : 4 * n < m → r ≡ None → RatioOutcome n m r
  too_high : 255 < actual_of n m → r ≡ None → RatioOutcome n m r

-- 1 to 1
pub one_to_one : (a b : ℕ) → 0 < a → a ≡ b → a / gcd_of a b ≤ 255
one_to_one a b some e =
    let g = gcd_of a b in
    let h : a ≤ g = le_of_dvd (gcd_positive b a b some) (gcd_greatest a a b (dvd_refl a) (rw e (dvd_refl b))) in
    let q : a / g * g ≡ a = quotient a g (gcd_divides a b).0 in
    go (leb (a / g) 1) refl h q
  where
    go : (t : Bool) → leb (a / gcd_of a b) 1 ≡ t → a ≤ gcd_of a b → a / gcd_of a b * gcd_of a b ≡ a → a / gcd_of a b ≤ 255
    go true t h q = omega (arith, leb-true _ _ t)
    go false t h q =
        let l : 2 ≤ a / gcd_of a b = leb-false _ _ t in
        let m : 2 * gcd_of a b ≤ a / gcd_of a b * gcd_of a b = mul-le-mul l (le_refl (gcd_of a b)) in
        absurd (omega arith)

pub ratio_outcome : (n m : ℕ) → 0 < n → 0 < m → RatioOutcome n m (ratio_of n m)
unfolding ratio_of ratio_at reduced_at
ratio_outcome n m hn hm = go (leb m (4 * n)) (eqb (4 * n) (m * 2 ^ v)) (leb (actual_of n m) 255) refl refl refl
  where
    v : ℕ
    v = smallest_of 9 n m

    b : ℕ
    b = m * 2 ^ v / gcd_of (4 * n) (m * 2 ^ v)

    go : (p q r : Bool) → leb m (4 * n) ≡ p → eqb (4 * n) (m * 2 ^ v) ≡ q → leb (actual_of n m) 255 ≡ r
        → RatioOutcome n m (cond p (cond q (Some (Plain v)) (cond r (Some (Tuplet v (actual_of n m) b)) None)) None)
    go true true r e f g =
        let same = eqb-true (4 * n) (m * 2 ^ v) f in
        plain v (smallest_is n m (leb-true _ _ e)) same (one_to_one (4 * n) (m * 2 ^ v) (omega arith) same) refl
    go true false true e f g =
        let s = smallest_is n m (leb-true _ _ e) in
        let other = eqb-false _ _ f in
        tuplet v b s (reduced n m v hn hm (omega (arith, s.not_below, other))) (leb-true _ _ g) refl
    go true false false e f g = too_high (leb-false _ _ g) refl
    go false q r e f g = above (leb-false _ _ e) refl

at_most : {n m v : ℕ} → Smallest n m v → m ≤ 4 * n
at_most {n} {m} {v} s =
    let p : m * 1 ≤ m * 2 ^ v = mul-le-mul (le_refl m) (pow_pos v) in
    omega (arith, s.not_below)

-- "A ratio above 4, or whose tuplet doesn't fit a u8" has no value; each other has one
pub kept_ratio : (n m : ℕ) → 0 < n → 0 < m → (ratio_of n m ≡ None → ⊥) ↔ ((m ≤ 4 * n) × (actual_of n m ≤ 255))
kept_ratio n m hn hm = (λ h. to h (ratio_outcome n m hn hm), λ f e. from f e (ratio_outcome n m hn hm))
  where
    to : (ratio_of n m ≡ None → ⊥) → RatioOutcome n m (ratio_of n m) → (m ≤ 4 * n) × (actual_of n m ≤ 255)
    to h (plain v s e f r) = (at_most s, f)
    to h (tuplet v b s t f r) = (at_most s, f)
    to h (above l r) = absurd (h r)
    to h (too_high l r) = absurd (h r)

    from : (m ≤ 4 * n) × (actual_of n m ≤ 255) → ratio_of n m ≡ None → RatioOutcome n m (ratio_of n m) → ⊥
    from k e (plain v s p f r) = clash cc
    from k e (tuplet v b s t f r) = clash cc
    from k e (above l r) = omega (arith, k.0)
    from k e (too_high l r) = omega (arith, k.1)

-- a ratio of at most 1 always fits: its value is a whole note or less, so that 4 divides both sides
by_four : (q r n : ℕ) → q * r ≡ n → 0 < n → q ≤ n
by_four q zero n e p = absurd (omega arith)
by_four q (suc r) n e p = omega (arith, mul-suc q r)

four_divides : (m v : ℕ) → 2 ≤ v → 4 ∣ (m * 2 ^ v)
four_divides m zero h = absurd (omega arith)
four_divides m (suc zero) h = absurd (omega arith)
four_divides m (suc (suc v)) h =
    let e : m * 2 ^ suc (suc v) ≡ 4 * (m * 2 ^ v) = rw (pow-suc 2 (suc v), pow-suc 2 v) (simp (mul_assoc, mul_left_comm, mul_comm) (omega arith)) in
    rw e (dvd-mul_right 4 (m * 2 ^ v))

at_least_two : {n m v : ℕ} → Smallest n m v → m ≤ n → 2 ≤ v
at_least_two {n} {m} {v} s l = go (leb 2 v) refl
  where
    go : (t : Bool) → leb 2 v ≡ t → 2 ≤ v
    go true e = leb-true _ _ e
    go false e = absurd (omega (arith, s.next_below 2 (leb-false _ _ e)))

pub fits_below : (n m : ℕ) → 0 < n → n ≤ 255 → m ≤ n → actual_of n m ≤ 255
fits_below n m hn few l =
    let s : Smallest n m (smallest_of 9 n m) = smallest_is n m (omega arith) in
    let g = gcd_of (4 * n) (m * 2 ^ smallest_of 9 n m) in
    let d : 4 ∣ g = gcd_greatest 4 (4 * n) (m * 2 ^ smallest_of 9 n m) (dvd-mul_right 4 n) (four_divides m (smallest_of 9 n m) (at_least_two s l)) in
    let q = 4 * n / g in
    let e : q * g ≡ 4 * n = quotient (4 * n) g (gcd_divides (4 * n) (m * 2 ^ smallest_of 9 n m)).0 in
    let f : g / 4 * 4 ≡ g = quotient g 4 d in
    let c : q * (g / 4) * 4 ≡ n * 4 = mul_assoc q (g / 4) 4 ∙ ap (λ (x : ℕ). q * x) f ∙ e ∙ mul_comm 4 n in
    omega (arith, by_four q (g / 4) n (eq_of_mul-eq-mul_right 4 (omega arith) (q * (g / 4)) n c) hn)

pub kept_below : (n m : ℕ) → 0 < n → n ≤ 255 → 0 < m → m ≤ n → ratio_of n m ≡ None → ⊥
kept_below n m hn few hm l = (kept_ratio n m hn hm).1 (omega arith, fits_below n m hn few l)

-- ---- dots
dotted_is : (d : ℕ) → d ≤ 3 → (m n : ℕ) → SameLength (dotted d (m over n)) ((m over n) times dot_factor d)
unfolding dotted added dot_factor
dotted_is zero h m n = simp (mul-one)
dotted_is (suc zero) h m n = simp (add-mul, mul_assoc, mul_left_comm, mul_comm) (omega arith)
dotted_is (suc (suc zero)) h m n = simp (add-mul, mul_assoc, mul_left_comm, mul_comm) (omega arith)
dotted_is (suc (suc (suc zero))) h m n = simp (add-mul, mul_assoc, mul_left_comm, mul_comm) (omega arith)
dotted_is (suc (suc (suc (suc d)))) h m n = absurd (omega arith)

-- lengths that equal a third are equal
through : (f g h : Fraction) → 0 < h.denominator → SameLength f h → SameLength g h → SameLength f g
through f g h pos p q =
    eq_of_mul-eq-mul_right h.denominator pos (f.numerator * g.denominator) (g.numerator * f.denominator)
    (let left : f.numerator * g.denominator * h.denominator ≡ h.numerator * f.denominator * g.denominator = rw (← p) (simp (mul_assoc, mul_left_comm, mul_comm)) in
    let right : g.numerator * f.denominator * h.denominator ≡ h.numerator * g.denominator * f.denominator = rw (← q) (simp (mul_assoc, mul_left_comm, mul_comm)) in
    left ∙ (simp (mul_assoc, mul_left_comm, mul_comm) refl ∙ sym right))

dot_positive : (d : ℕ) → 0 < (dot_factor d).denominator
unfolding dot_factor
dot_positive zero = omega arith
dot_positive (suc zero) = omega arith
dot_positive (suc (suc zero)) = omega arith
dot_positive (suc (suc (suc d))) = omega arith

factored : (m n v a b p q : ℕ) → 4 * b * n ≡ m * (2 ^ v * a) → 4 * p * b * (n * q) ≡ m * p * (2 ^ v * q * a)
factored m n v a b p q e =
    let left : 4 * p * b * (n * q) ≡ p * q * (4 * b * n) = simp (mul_assoc, mul_left_comm, mul_comm) in
    let right : m * p * (2 ^ v * q * a) ≡ p * q * (m * (2 ^ v * a)) = simp (mul_assoc, mul_left_comm, mul_comm) in
    left ∙ (ap (λ (x : ℕ). p * q * x) e ∙ sym right)

module _ (n m v d : ℕ) (ten : v ≤ 9) (few : d ≤ 3) (some : 0 < n) where
  exact : (a b : ℕ) → 0 < a → 4 * b * n ≡ m * (2 ^ v * a) → SameLength (note_length v d a b false) (dotted d (m over n))
  unfolding note_length value_length tuplet_factor
  exact a b pos same =
      through (note_length v d a b false) (dotted d (m over n)) ((m over n) times dot_factor d) (mul-pos some (dot_positive d))
      (rw (le-leb v 9 ten, ne_eqb a 0 (λ z. omega arith)) (factored m n v a b (dot_factor d).numerator (dot_factor d).denominator same))
      (dotted_is d few m n)

  exact_plain : 4 * n ≡ m * 2 ^ v → SameLength (note_length v d 0 0 false) (dotted d (m over n))
  unfolding note_length tuplet_factor
  exact_plain e = exact 1 1 (omega arith) (rw (mul-one (2 ^ v)) (omega arith))

-- "n%m lasts m/n", with d dots times their factor: "exact lengths hold for ratios too"
pub ratio_lasts : (n m d : ℕ) → 0 < n → 0 < m → d ≤ 3 → (ratio_of n m ≡ None → ⊥) → SameLength (lasting (ratio_of n m) d) (dotted d (m over n))
ratio_lasts n m d hn hm few h = go (ratio_outcome n m hn hm)
  where
    go : RatioOutcome n m (ratio_of n m) → SameLength (lasting (ratio_of n m) d) (dotted d (m over n))
    go (plain v s e f r) = rw r (exact_plain n m v d s.ten few hn e)
    go (tuplet v b s t f r) = rw r (exact n m v d s.ten few hn (actual_of n m) b (omega (arith, t.below)) t.same)
    go (above l r) = absurd (h r)
    go (too_high l r) = absurd (h r)
