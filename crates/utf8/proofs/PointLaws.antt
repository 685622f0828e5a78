-- The code point, from the bytes of its character.
use mathlib.Core.Path.{◌≡◌, refl, sym, ap, ◌∙◌}
use mathlib.Core.List.{List, [], ◌∷◌}
use Prim.Native.Nat.{ℕ, zero, suc, ◌+◌, ◌*◌, ◌%◌, ◌≤◌, ◌<◌}
use native.Mathlib.Nat.{not-suc-le-zero, le_of_suc-le-suc}
use native.Mathlib.Omega.{arith}
use lib.ListN.{length, take, get_or}
use lib.Seq.{take-take}
use Rattle.utf8.specs.Utf8.{char_length, bits, code_point}
use Rattle.utf8.proofs.LengthLaws.{char_inside, char_take, char_whole}
use Rattle.utf8.proofs.TableLaws.{char_most}

pub point_none : (s : List ℕ) → char_length s ≡ 0 → code_point s ≡ 0
unfolding code_point bits
point_none s e = rw e

bits_1 : (s : List ℕ) → 1 ≤ length s → bits (take 1 s) ≡ get_or s 0 0
unfolding bits
bits_1 [] h = absurd (not-suc-le-zero h)
bits_1 (a ∷ s) h = refl

bits_2 : (s : List ℕ) → 2 ≤ length s → bits (take 2 s) ≡ get_or s 0 0 % 32 * 64 + get_or s 1 0 % 64
unfolding bits
bits_2 [] h = absurd (not-suc-le-zero h)
bits_2 (a ∷ []) h = absurd (not-suc-le-zero (le_of_suc-le-suc h))
bits_2 (a ∷ b ∷ s) h = refl

bits_3 : (s : List ℕ) → 3 ≤ length s → bits (take 3 s) ≡ (get_or s 0 0 % 16 * 64 + get_or s 1 0 % 64) * 64 + get_or s 2 0 % 64
unfolding bits
bits_3 [] h = absurd (not-suc-le-zero h)
bits_3 (a ∷ []) h = absurd (not-suc-le-zero (le_of_suc-le-suc h))
bits_3 (a ∷ b ∷ []) h = absurd (not-suc-le-zero (le_of_suc-le-suc (le_of_suc-le-suc h)))
bits_3 (a ∷ b ∷ c ∷ s) h = refl

bits_4 : (s : List ℕ) → 4 ≤ length s
    → bits (take 4 s) ≡ ((get_or s 0 0 % 8 * 64 + get_or s 1 0 % 64) * 64 + get_or s 2 0 % 64) * 64 + get_or s 3 0 % 64
unfolding bits
bits_4 [] h = absurd (not-suc-le-zero h)
bits_4 (a ∷ []) h = absurd (not-suc-le-zero (le_of_suc-le-suc h))
bits_4 (a ∷ b ∷ []) h = absurd (not-suc-le-zero (le_of_suc-le-suc (le_of_suc-le-suc h)))
bits_4 (a ∷ b ∷ c ∷ []) h = absurd (not-suc-le-zero (le_of_suc-le-suc (le_of_suc-le-suc (le_of_suc-le-suc h))))
bits_4 (a ∷ b ∷ c ∷ d ∷ s) h = refl

module _ (s : List ℕ) where
  point : (n : ℕ) → char_length s ≡ n → code_point s ≡ bits (take n s)
  unfolding code_point
  point n e = rw e

  pub point_1 : char_length s ≡ 1 → code_point s ≡ get_or s 0 0
  point_1 e = point 1 e ∙ bits_1 s (omega (arith, char_inside s))

  pub point_2 : char_length s ≡ 2 → code_point s ≡ get_or s 0 0 % 32 * 64 + get_or s 1 0 % 64
  point_2 e = point 2 e ∙ bits_2 s (omega (arith, char_inside s))

  pub point_3 : char_length s ≡ 3 → code_point s ≡ (get_or s 0 0 % 16 * 64 + get_or s 1 0 % 64) * 64 + get_or s 2 0 % 64
  point_3 e = point 3 e ∙ bits_3 s (omega (arith, char_inside s))

  pub point_4 : char_length s ≡ 4 → code_point s ≡ ((get_or s 0 0 % 8 * 64 + get_or s 1 0 % 64) * 64 + get_or s 2 0 % 64) * 64 + get_or s 3 0 % 64
  point_4 e = point 4 e ∙ bits_4 s (omega (arith, char_inside s))

-- the code point by the character's length, which its text has and which is at most 4
pub ruleset points = (char_inside, char_most, point_none, point_1, point_2, point_3, point_4)

-- a character alone has the same code point, and a byte at which none stands has none
pub point_whole : (s : List ℕ) (n : ℕ) → char_length s ≡ n → 0 < n → code_point (take n s) ≡ code_point s
point_whole s n e pos =
    point (take n s) n (char_whole s n e pos) ∙ ap bits (take-take n n s (omega arith)) ∙ sym (point s n e)

pub point_single : (s : List ℕ) → char_length s ≡ 0 → code_point (take 1 s) ≡ 0
point_single s e = point_none (take 1 s) (go (char_length (take 1 s)) refl)
  where
    go : (n : ℕ) → char_length (take 1 s) ≡ n → char_length (take 1 s) ≡ 0
    go zero q = q
    go (suc n) q = let z : char_length s ≡ suc n = char_take s 1 (suc n) q (omega arith) in absurd (not-suc-le-zero {n = 0} (omega arith))
