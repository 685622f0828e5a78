-- WHICH RATIOS HAVE A VALUE, in the request's words: nothing here that is said names the search for the value, the divisor or the division of the reading.
use mathlib.Core.Path.{◌≡◌, refl, sym, ap, subst, ◌∙◌}
use mathlib.Core.Logic.{◌↔◌}
use mathlib.Core.Bool.{Bool, true, false}
use mathlib.Core.List.{List}
use Prim.Native.Nat.{ℕ, zero, suc, ◌*◌, ◌/◌, ◌^◌, ◌≤◌, ◌<◌, ◌∣◌}
use native.Mathlib.Nat.{mul_comm, mul_assoc, mul-pos, dvd-zero, dvd-mul_left, dvd-mul_right, dvd_of_mul-dvd-mul_right, eq_of_mul-eq-mul_right, le_of_dvd, one-mul}
use native.Mathlib.Omega.{arith}
use lib.Dec.{leb}
use borrow.Author.Tests.{leb-true, leb-false}
use Rattle.duration.specs.Duration.{gcd_of}
use Rattle.duration.specs.Reciprocal.{decimal}
use Rattle.duration.specs.Ratio.{smallest_of, ratio_value}
use Rattle.std.specs.Prelude.{None}
use Rattle.duration.proofs.Divisors.{gcd_divides, gcd_greatest, gcd_positive}
use Rattle.duration.proofs.Kept.{Worth}
use Rattle.duration.proofs.Ratios.{Smallest, smallest_is, quotient, lowest, actual_of}
use Rattle.duration.proofs.Spelled.{kept_digits}

-- ---- what is said
-- a to b is 4n to m 2^v "in lowest terms", 4 over 2^v being what value v lasts
pub record LowestTerms (n m v a b : ℕ) : Type 0 where
  pub same : 4 * n * b ≡ m * 2 ^ v * a
  pub lowest : (k : ℕ) → k ∣ a → k ∣ b → k ≡ 1

-- "the smallest of the ten that is not below m/n, with normal to actual in lowest terms": there is one, and its actual number fits a u8
pub record Fits (n m : ℕ) : Type 0 where
  pub value : ℕ
  pub actual : ℕ
  pub normal : ℕ
  pub smallest : Smallest n m value
  pub terms : LowestTerms n m value actual normal
  pub byte : actual ≤ 255

-- "n and m each 1 to 4 digits worth 1 to 255", no "ratio above 4, or whose tuplet doesn't fit a u8"
pub record RatioSaid (n m : List ℕ) : Type 0 where
  pub n_counts : Worth n
  pub m_counts : Worth m
  pub at_most_4 : decimal m ≤ 4 * decimal n
  pub fits : Fits (decimal n) (decimal m)

-- ---- there is one such value
smallest_one : (n m v w : ℕ) → Smallest n m v → Smallest n m w → v ≡ w
smallest_one n m v w s t = go (leb v w) (leb w v) refl refl
  where
    go : (p q : Bool) → leb v w ≡ p → leb w v ≡ q → v ≡ w
    go false q e f = absurd (omega (arith, t.next_below v (leb-false _ _ e) s.ten, s.not_below))
    go true false e f = absurd (omega (arith, s.next_below w (leb-false _ _ f) t.ten, t.not_below))
    go true true e f = omega (arith, leb-true _ _ e, leb-true _ _ f)

-- ---- divided by the greatest common divisor it is in lowest terms
same_terms : (a b g : ℕ) → g ∣ a → g ∣ b → a * (b / g) ≡ b * (a / g)
same_terms a b g h k =
    let x = a / g in
    let y = b / g in
    let p : x * g ≡ a = quotient a g h in
    let q : y * g ≡ b = quotient b g k in
    let r : x * g * y ≡ y * g * x = mul_comm (x * g) y ∙ (ap (λ (z : ℕ). y * z) (mul_comm x g) ∙ sym (mul_assoc y g x)) in
    ap (λ (z : ℕ). z * y) (sym p) ∙ (r ∙ ap (λ (z : ℕ). z * x) q)

terms_of : (n m v : ℕ) → 0 < n → LowestTerms n m v (4 * n / gcd_of (4 * n) (m * 2 ^ v)) (m * 2 ^ v / gcd_of (4 * n) (m * 2 ^ v))
terms_of n m v some =
    let d = gcd_divides (4 * n) (m * 2 ^ v) in
    record {
      same = same_terms (4 * n) (m * 2 ^ v) (gcd_of (4 * n) (m * 2 ^ v)) d.0 d.1;
      lowest = λ k. lowest (4 * n) (m * 2 ^ v) k (omega arith);
    }

-- ---- and what is in lowest terms is not above it
-- of two numbers with no common divisor: what divides both times c divides c
divides_common : (x y c d : ℕ) → 0 < c → ((k : ℕ) → k ∣ x → k ∣ y → k ≡ 1) → d ∣ (x * c) → d ∣ (y * c) → d ∣ c
divides_common x y c d pos one p q =
    let h = gcd_of (x * c) (y * c) in
    let e = gcd_divides (x * c) (y * c) in
    let r = h / c in
    let s : r * c ≡ h = quotient h c (gcd_greatest c (x * c) (y * c) (dvd-mul_left c x) (dvd-mul_left c y)) in
    let a : r ∣ x = dvd_of_mul-dvd-mul_right {k = c} r pos (subst (λ (z : ℕ). z ∣ (x * c)) (sym s) e.0) in
    let b : r ∣ y = dvd_of_mul-dvd-mul_right {k = c} r pos (subst (λ (z : ℕ). z ∣ (y * c)) (sym s) e.1) in
    let t : h ≡ c = sym s ∙ (ap (λ (z : ℕ). z * c) (one r a b) ∙ one-mul c) in
    subst (λ (z : ℕ). d ∣ z) t (gcd_greatest d (x * c) (y * c) p q)

some_actual : (n m v a b : ℕ) → 0 < n → LowestTerms n m v a b → 0 < a
some_actual n m v (suc a) b some t = omega arith
some_actual n m v zero zero some t = absurd (let z : 2 ≡ 1 = t.lowest 2 (dvd-zero 2) (dvd-zero 2) in omega arith)
some_actual n m v zero (suc b) some t =
    let four : 0 < 4 * n = omega arith in
    let p : 0 < 4 * n * suc b = mul-pos four (omega arith) in
    absurd (omega (arith, t.same))

crossed : (a b x y g p q : ℕ) → 0 < g → x * g ≡ p → y * g ≡ q → p * b ≡ q * a → x * b ≡ y * a
crossed a b x y g p q pos e f s =
    let l : x * b * g ≡ x * g * b = mul_assoc x b g ∙ (ap (λ (z : ℕ). x * z) (mul_comm b g) ∙ sym (mul_assoc x g b)) in
    let r : y * a * g ≡ y * g * a = mul_assoc y a g ∙ (ap (λ (z : ℕ). y * z) (mul_comm a g) ∙ sym (mul_assoc y g a)) in
    eq_of_mul-eq-mul_right g pos (x * b) (y * a) (l ∙ (ap (λ (z : ℕ). z * b) e ∙ (s ∙ (sym (ap (λ (z : ℕ). z * a) f) ∙ sym r))))

least : (n m v a b : ℕ) → 0 < n → LowestTerms n m v a b → 4 * n / gcd_of (4 * n) (m * 2 ^ v) ≤ a
least n m v a b some t =
    let g = gcd_of (4 * n) (m * 2 ^ v) in
    let d = gcd_divides (4 * n) (m * 2 ^ v) in
    let x = 4 * n / g in
    let y = m * 2 ^ v / g in
    let four : 0 < 4 * n = omega arith in
    let pos : 0 < a = some_actual n m v a b some t in
    let e : x * b ≡ y * a = crossed a b x y g (4 * n) (m * 2 ^ v) (gcd_positive (m * 2 ^ v) (4 * n) (m * 2 ^ v) four) (quotient (4 * n) g d.0) (quotient (m * 2 ^ v) g d.1) t.same in
    le_of_dvd pos (divides_common x y a x pos (λ k. lowest (4 * n) (m * 2 ^ v) k four) (dvd-mul_right x a) (subst (λ (z : ℕ). x ∣ z) e (dvd-mul_right x b)))

-- ---- so the tuplet that the reading finds fits exactly where one does
fits_is : (n m : ℕ) → 0 < n → m ≤ 4 * n → (actual_of n m ≤ 255) ↔ Fits n m
fits_is n m some low = (to, from)
  where
    to : actual_of n m ≤ 255 → Fits n m
    to h = record {
      value = smallest_of 9 n m;
      actual = actual_of n m;
      normal = m * 2 ^ smallest_of 9 n m / gcd_of (4 * n) (m * 2 ^ smallest_of 9 n m);
      smallest = smallest_is n m low;
      terms = terms_of n m (smallest_of 9 n m) some;
      byte = h;
    }

    from : Fits n m → actual_of n m ≤ 255
    from f =
        let e : f.value ≡ smallest_of 9 n m = smallest_one n m f.value (smallest_of 9 n m) f.smallest (smallest_is n m low) in
        let t : LowestTerms n m (smallest_of 9 n m) f.actual f.normal = subst (λ (v : ℕ). LowestTerms n m v f.actual f.normal) e f.terms in
        omega (arith, least n m (smallest_of 9 n m) f.actual f.normal some t, f.byte)

-- a ratio's digits have a value exactly where the request says so
pub digits_said : (n m : List ℕ) → (ratio_value n m ≡ None → ⊥) ↔ RatioSaid n m
digits_said n m = (λ h. to ((kept_digits n m).0 h), λ r. (kept_digits n m).1 (from r))
  where
    to : Worth n × Worth m × (decimal m ≤ 4 * decimal n) × (actual_of (decimal n) (decimal m) ≤ 255) → RatioSaid n m
    to (w, v, l, f) = record { n_counts = w; m_counts = v; at_most_4 = l; fits = (fits_is (decimal n) (decimal m) w.low l).0 f }

    from : RatioSaid n m → Worth n × Worth m × (decimal m ≤ 4 * decimal n) × (actual_of (decimal n) (decimal m) ≤ 255)
    from r = (r.n_counts, r.m_counts, r.at_most_4, (fits_is (decimal n) (decimal m) r.n_counts.low r.at_most_4).1 r.fits)
