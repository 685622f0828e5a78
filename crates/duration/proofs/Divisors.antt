-- Euclid's algorithm: what the loop of `gcd` keeps, and that the result is the greatest common divisor.
use mathlib.Core.Path.{◌≡◌, refl, sym, subst}
use mathlib.Core.Bool.{Bool, true, false, cond}
use Prim.Native.Nat.{ℕ, zero, suc, ◌%◌, ◌≤◌, ◌<◌, ◌∣◌}
use native.Mathlib.Nat.{mod-lt, le_refl, dvd_refl, dvd-zero, dvd-mod_iff}
use native.Mathlib.Omega.{arith}
use lib.Dec.{eqb}
use borrow.Author.Tests.{eqb-true, eqb-false, ne_eqb}
use Rattle.duration.specs.Duration.{gcd_in, gcd_of}

-- the loop of `gcd`: a and b have the divisor g, found in as many steps as are left, which b bounds
pub record Euclid (a b g : ℕ) : Type 0 where
  pub steps : ℕ
  pub enough : b ≤ steps
  pub same : gcd_in steps a b ≡ g

pub euclid_turn : {a b g : ℕ} → Euclid a b g → (b ≡ 0 → ⊥) → Euclid b (a % b) g
unfolding gcd_in
euclid_turn {a} {b} {g} l nz = go l.steps l.enough l.same
  where
    go : (f : ℕ) → b ≤ f → gcd_in f a b ≡ g → Euclid b (a % b) g
    go zero le e = absurd (nz (omega arith))
    go (suc f) le e =
        let lt : a % b < b = mod-lt a (omega arith) in
        record { steps = f; enough = omega arith; same = rw (ne_eqb b 0 nz) at e }

pub euclid_past : {a b g : ℕ} → Euclid a b g → b ≡ 0 → a ≡ g
unfolding gcd_in
euclid_past {a} {b} {g} l z = go l.steps l.same
  where
    go : (f : ℕ) → gcd_in f a b ≡ g → a ≡ g
    go zero e = e
    go (suc f) e = rw z at e

-- a divisor of something is not 0
either : (a b g : ℕ) (t : Bool) → eqb b 0 ≡ t → 0 < a → (0 < b → 0 < g) → 0 < cond t a g
either a b g true e h k = h
either a b g false e h k = k (let nz = eqb-false b 0 e in omega arith)

pub gcd_positive : (f a b : ℕ) → 0 < a → 0 < gcd_in f a b
unfolding gcd_in
gcd_positive zero a b h = h
gcd_positive (suc f) a b h = either a b (gcd_in f b (a % b)) (eqb b 0) refl h (λ k. gcd_positive f b (a % b) k)

-- whatever divides both divides it
greatest_by : (d a g : ℕ) (t : Bool) → d ∣ a → d ∣ g → d ∣ cond t a g
greatest_by d a g true h k = h
greatest_by d a g false h k = k

greatest : (d f a b : ℕ) → d ∣ a → d ∣ b → d ∣ gcd_in f a b
unfolding gcd_in
greatest d zero a b h k = h
greatest d (suc f) a b h k =
    greatest_by d a (gcd_in f b (a % b)) (eqb b 0) h (greatest d f b (a % b) k ((dvd-mod_iff d k).1 h))

pub gcd_greatest : (d a b : ℕ) → d ∣ a → d ∣ b → d ∣ gcd_of a b
gcd_greatest d a b = greatest d b a b

-- it divides both
divides_by : (a b g : ℕ) (t : Bool) → eqb b 0 ≡ t → ((b ≡ 0 → ⊥) → (g ∣ a) × (g ∣ b)) → (cond t a g ∣ a) × (cond t a g ∣ b)
divides_by a b g true e k = (dvd_refl a, subst (λ (x : ℕ). a ∣ x) (sym (eqb-true b 0 e)) (dvd-zero a))
divides_by a b g false e k = k (eqb-false b 0 e)

divides : (f a b : ℕ) → b ≤ f → (gcd_in f a b ∣ a) × (gcd_in f a b ∣ b)
unfolding gcd_in
divides zero a b h = (dvd_refl a, subst (λ (x : ℕ). a ∣ x) (omega arith) (dvd-zero a))
divides (suc f) a b h =
    divides_by a b (gcd_in f b (a % b)) (eqb b 0) refl
    (λ nz.
    let lt : a % b < b = mod-lt a (omega arith) in
    let d = divides f b (a % b) (omega arith) in
    ((dvd-mod_iff (gcd_in f b (a % b)) d.0).0 d.1, d.0))

pub gcd_divides : (a b : ℕ) → (gcd_of a b ∣ a) × (gcd_of a b ∣ b)
gcd_divides a b = divides b a b (le_refl b)
