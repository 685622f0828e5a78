-- A key by its three bytes.
use mathlib.Core.Path.{◌≡◌, refl}
use mathlib.Core.Bool.{Bool, true, false}
use mathlib.Core.List.{List, [], ◌∷◌}
use Prim.Native.Nat.{ℕ, ◌≤◌, ◌<◌}
use native.Mathlib.Omega.{arith}
use lib.ListN.{length, get_or}
use Rattle.slices.specs.Compare.{same_bytes}
use Rattle.slices.proofs.CompareLaws.{same_is}
use Rattle.reference.specs.Reference.{key_of}
use Rattle.reference.specs.declared.Key.TheVariants.{Title, Composer, Lyricist, Other}

module _ (k : List ℕ) where
  three : (a b c : ℕ) → 3 ≤ length k → length k < 4 → get_or k 0 0 ≡ a → get_or k 1 0 ≡ b → get_or k 2 0 ≡ c → k ≡ a ∷ b ∷ c ∷ []
  three a b c low high e f g = go k low high e f g
    where
      go : (k : List ℕ) → 3 ≤ length k → length k < 4 → get_or k 0 0 ≡ a → get_or k 1 0 ≡ b → get_or k 2 0 ≡ c → k ≡ a ∷ b ∷ c ∷ []
      go [] low high e f g = absurd (omega arith)
      go (x ∷ []) low high e f g = absurd (omega arith)
      go (x ∷ y ∷ []) low high e f g = absurd (omega arith)
      go (x ∷ y ∷ z ∷ []) low high e f g = cc
      go (x ∷ y ∷ z ∷ w ∷ k) low high e f g = absurd (omega arith)

  pub key_title : 3 ≤ length k → length k < 4 → get_or k 0 0 ≡ 79 → get_or k 1 0 ≡ 84 → get_or k 2 0 ≡ 76 → Title ≡ key_of k
  unfolding key_of same_bytes
  key_title low high e f g = rw (three 79 84 76 low high e f g)

  pub key_composer : 3 ≤ length k → length k < 4 → get_or k 0 0 ≡ 67 → get_or k 1 0 ≡ 79 → get_or k 2 0 ≡ 77 → Composer ≡ key_of k
  unfolding key_of same_bytes
  key_composer low high e f g = rw (three 67 79 77 low high e f g)

  pub key_lyricist : 3 ≤ length k → length k < 4 → get_or k 0 0 ≡ 76 → get_or k 1 0 ≡ 89 → get_or k 2 0 ≡ 82 → Lyricist ≡ key_of k
  unfolding key_of same_bytes
  key_lyricist low high e f g = rw (three 76 89 82 low high e f g)

  -- no word, as its length or one of its bytes is another
  other_word : (a b c : ℕ) → (length k ≡ 3 → get_or k 0 0 ≡ a → get_or k 1 0 ≡ b → get_or k 2 0 ≡ c → ⊥) → same_bytes (a ∷ b ∷ c ∷ []) k ≡ false
  other_word a b c h = go (same_bytes (a ∷ b ∷ c ∷ []) k) refl
    where
      go : (t : Bool) → same_bytes (a ∷ b ∷ c ∷ []) k ≡ t → t ≡ false
      go true e = let q : k ≡ a ∷ b ∷ c ∷ [] = same_is (a ∷ b ∷ c ∷ []) k e in absurd (h (rw q refl) (rw q refl) (rw q refl) (rw q refl))
      go false e = refl

  pub key_other : (length k ≡ 3 → get_or k 0 0 ≡ 79 → get_or k 1 0 ≡ 84 → get_or k 2 0 ≡ 76 → ⊥)
      → (length k ≡ 3 → get_or k 0 0 ≡ 67 → get_or k 1 0 ≡ 79 → get_or k 2 0 ≡ 77 → ⊥)
      → (length k ≡ 3 → get_or k 0 0 ≡ 76 → get_or k 1 0 ≡ 89 → get_or k 2 0 ≡ 82 → ⊥) → Other ≡ key_of k
  unfolding key_of
  key_other title composer lyricist =
      rw (other_word 79 84 76 title, other_word 67 79 77 composer, other_word 76 89 82 lyricist)
