-- Letters by their ranges, and their places in the rows of steps.
use mathlib.Core.Path.{◌≡◌}
use Prim.Native.Nat.{ℕ, ◌+◌, ◌-◌, ◌%◌, ◌≤◌}
use native.Mathlib.Omega.{arith}
use mathlib.Core.Bool.{Bool, true}
use lib.Dec.{T, eqb, leb, eqb→eq, leb→le}
use Rattle.slices.specs.Split.{index_of}
use Rattle.slices.specs.Finite.{all, below, both_left, both_right}
use Rattle.pitch.specs.Pitch.{within, lower_case, upper_case}

module _ (low high b : ℕ) (e : within low high b ≡ true) where
  pub within_low : low ≤ b
  unfolding within
  within_low = leb→le low b (both_left (leb low b) (leb b high) (rw e tt))

  pub within_high : b ≤ high
  unfolding within
  within_high = leb→le b high (both_right (leb low b) (leb b high) (rw e tt))

-- a test that passes at the seven letters from `low` on
pub seven : (f : ℕ → Bool) (low : ℕ) → T (all (λ k. f (low + k)) 7) → (b : ℕ) → within low (low + 6) b ≡ true → T (f b)
seven f low t b e =
    let l : low ≤ b = within_low low (low + 6) b e in
    let h : b ≤ low + 6 = within_high low (low + 6) b e in
    let back : low + (b - low) ≡ b = omega arith in
    rw back at (below (λ k. f (low + k)) 7 t (b - low) (omega arith))

-- a to g are A 5, B 6, C 0 to G 4
pub lower_place : (b : ℕ) → within 97 103 b ≡ true → index_of b lower_case ≡ (b - 97 + 5) % 7
unfolding index_of lower_case
lower_place b e = eqb→eq _ _ (seven (λ b. eqb (index_of b lower_case) ((b - 97 + 5) % 7)) 97 tt b e)

pub upper_place : (b : ℕ) → within 65 71 b ≡ true → index_of b upper_case ≡ (b - 65 + 5) % 7
unfolding index_of upper_case
upper_place b e = eqb→eq _ _ (seven (λ b. eqb (index_of b upper_case) ((b - 65 + 5) % 7)) 65 tt b e)
