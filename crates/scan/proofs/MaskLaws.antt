-- The unknown marks as the bits of two numbers.
use mathlib.Core.Path.{◌≡◌, refl, ap, ◌∙◌}
use Prim.Native.Nat.{ℕ, ◌+◌, ◌-◌, ◌/◌, ◌%◌, ◌^◌, ◌≤◌, ◌<◌}
use native.Mathlib.Nat.{sub-zero}
use native.Mathlib.Omega.{arith}
use mathlib.Core.Bool.{Bool, true, false, not}
use lib.Bits.{bit_and, and_mask}
use lib.Dec.{T, eqb}
use Rattle.slices.specs.Finite.{all, below}
use Rattle.notation.specs.Bytes.{contains}
use Rattle.pitch.specs.Pitch.{within}
use Rattle.items.specs.Items.{is_letter}
use Rattle.token.specs.Token.{is_unknown}

agree : Bool → Bool → Bool
agree true y = y
agree false y = not y

agreed : (x y : Bool) → T (agree x y) → x ≡ y
unfolding agree
agreed true true t = refl
agreed true false t = absurd t
agreed false true t = absurd t
agreed false false t = refl

-- the bits of a mask are the bytes from `low` on that pass a test
right : (ℕ → Bool) → ℕ → ℕ → ℕ → Bool
right f mask low k = agree (eqb (mask / 2 ^ k % 2) 1) (f (low + k))

bits_are : (f : ℕ → Bool) (mask low : ℕ) → T (all (right f mask low) 64) → (b : ℕ) → low ≤ b → b < low + 64 → eqb (bit_and (mask / 2 ^ (b - low)) 1) 1 ≡ f b
unfolding right
bits_are f mask low t b l h =
    let at : low + (b - low) ≡ b = omega arith in
    rw (and_mask (mask / 2 ^ (b - low)) 1) (agreed _ _ (below (right f mask low) 64 t (b - low) (omega arith)) ∙ ap f at)

pub low_unknown : (b : ℕ) → b < 64 → eqb (bit_and (17582224842730504191 / 2 ^ b) 1) 1 ≡ is_unknown b
unfolding right agree contains is_unknown is_letter within
low_unknown b h = rw (sub-zero b) at (bits_are is_unknown 17582224842730504191 0 tt b (omega arith) (omega arith))

pub high_unknown : (b : ℕ) → 64 ≤ b → b < 128 → eqb (bit_and (13828794142235159297 / 2 ^ (b - 64)) 1) 1 ≡ is_unknown b
unfolding right agree contains is_unknown is_letter within
high_unknown b l h = bits_are is_unknown 13828794142235159297 64 tt b l (omega arith)

-- every byte from 128 on is unknown
pub all_unknown : (b : ℕ) → 128 ≤ b → b < 256 → true ≡ is_unknown b
unfolding agree contains is_unknown is_letter within
all_unknown b l h =
    let at : 128 + (b - 128) ≡ b = omega arith in
    agreed true _ (below (λ k. agree true (is_unknown (128 + k))) 128 tt (b - 128) (omega arith)) ∙ ap is_unknown at
