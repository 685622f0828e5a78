-- The bounds of a power of two determine its exponent: what `exponent` gives is the definition's.
use mathlib.Core.Path.{◌≡◌, sym, ◌∙◌}
use mathlib.Core.Logic.{⊎_elim}
use Prim.Native.Nat.{ℕ, zero, suc, ◌+◌, ◌-◌, ◌*◌, ◌%◌, ◌^◌, ◌≤◌, ◌<◌}
use native.Mathlib.Nat.{eq-or-lt_of_le, lt_of_not-le, le_of_suc-le-suc}
use native.Mathlib.Numerals.{add-one}
use native.Mathlib.Omega.{arith}
use lib.Count.{count_leading_zeros, leading_top}
use lib.Dec.{lit<}
use lib.Pow.{pow_mono, shl_exact}
use borrow.Author.Tests.{le-leb, lt-leb}
use Rattle.duration.specs.Duration.{exponent_of}

-- leading zeros and the place of the highest set bit make 31
pub leading : (n : ℕ) → 1 ≤ n → n < 2 ^ 32
    → (count_leading_zeros 32 n ≤ 31) × (2 ^ (31 - count_leading_zeros 32 n) ≤ n) × (n < 2 ^ (31 - count_leading_zeros 32 n + 1))
leading n pos h =
    let top = leading_top 32 n pos h in
    let e : 31 - count_leading_zeros 32 n ≡ top.0 = omega (arith, top.1) in
    (omega (arith, top.1), rw e top.2, rw (e, add-one top.0) top.3)

exponent_is : (f k n : ℕ) → k ≤ f → 2 ^ k ≤ n → n < 2 ^ suc k → exponent_of f n ≡ k
unfolding exponent_of
exponent_is zero k n le lo hi = omega arith
exponent_is (suc f) k n le lo hi =
    ⊎_elim (λ (e : k ≡ suc f). let lo' : 2 ^ suc f ≤ n = rw (← e) lo in rw (le-leb (2 ^ suc f) n lo') (sym e))
    (λ (l : k < suc f).
    let m : 2 ^ suc k ≤ 2 ^ suc f = pow_mono l in
    let h : n < 2 ^ suc f = omega arith in
    rw (lt-leb (2 ^ suc f) n h) (exponent_is f k n (le_of_suc-le-suc l) lo hi))
    (eq-or-lt_of_le le)

exponent_small : (j k n : ℕ) → 2 ^ k ≤ n → n < 2 ^ j → k < j
exponent_small j k n lo hi = lt_of_not-le (λ (h : j ≤ k). let m : 2 ^ j ≤ 2 ^ k = pow_mono h in omega arith)

-- a power of two that is a byte
pub power_small : (k : ℕ) → 2 ^ k ≤ 255 → k < 8
power_small k h = exponent_small 8 k (2 ^ k) (omega arith) (omega arith)

-- of a reciprocal up to 255 the exponent is below 8, and the shift gives the power
pub record Base (n k : ℕ) : Type 0 where
  pub small : k < 8
  pub is : exponent_of 7 n ≡ k
  pub power : 1 * 2 ^ k % 4294967296 ≡ 2 ^ k
  pub low : 2 ^ k ≤ n

pub base : {n k : ℕ} → n ≤ 255 → (2 ^ k ≤ n) × (n < 2 ^ (k + 1)) → Base n k
base {n} {k} h b =
    let s : k < 8 = exponent_small 8 k n b.0 (omega arith) in
    record {
      small = s;
      is = exponent_is 7 k n (omega arith) b.0 (rw add-one at b.1);
      power = shl_exact {a = 1} 1 k 32 (lit< tt) (omega arith) ∙ (omega arith);
      low = b.0;
    }

-- what the exponent's bounds give
pub ruleset powers = (base, power_small)
