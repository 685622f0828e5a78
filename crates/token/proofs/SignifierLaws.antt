-- What one item adds to the signifiers of a token, by the tests of a scan.
use mathlib.Core.Path.{◌≡◌, refl, sym, ◌∙◌}
use Prim.Native.Nat.{ℕ}
use mathlib.Core.List.{List, [], ◌∷◌}
use mathlib.Core.Bool.{Bool, true, false, cond}
use Rattle.pitch.specs.Pitch.{pitch_of}
use Rattle.duration.specs.Ratio.{is_ratio, spelled_value}
use Rattle.items.specs.Items.{length_item}
use Rattle.items.specs.declared.Item.{Item}
use Rattle.items.specs.declared.Item.TheVariants.{Digits, Ratio, Letters, Blank, Mark}
use Rattle.token.specs.Token.{fits, passes, signifiers}

pub no_signifiers : (s : Bool) → signifiers s [] ≡ []
unfolding signifiers
no_signifiers s = refl

module _ (s : Bool) where
  -- digits, or a ratio
  pub past_length : (r : List ℕ) (is : List Item) → signifiers s (length_item r ∷ is) ≡ signifiers s is
  unfolding signifiers
  past_length r is = go (is_ratio r)
    where
      go : (t : Bool) → signifiers s (cond t (Ratio (spelled_value r)) (Digits (spelled_value r)) ∷ is) ≡ signifiers s is
      go true = refl
      go false = refl

  pub past_pitch : (c n : ℕ) {t : Bool} → t ≡ fits s (pitch_of c n) → t ≡ true → (is : List Item) → signifiers s (Letters c n ∷ is) ≡ signifiers true is
  unfolding signifiers
  past_pitch c n p h is = rw (sym p ∙ h)

  pub past_run : (c n : ℕ) {t : Bool} → t ≡ fits s (pitch_of c n) → t ≡ false → (is : List Item) → signifiers s (Letters c n ∷ is) ≡ c ∷ signifiers s is
  unfolding signifiers
  past_run c n p h is = rw (sym p ∙ h)

  pub past_blank : (is : List Item) → signifiers s (Blank ∷ is) ≡ signifiers false is
  unfolding signifiers
  past_blank is = refl

  pub past_known : (b : ℕ) {t : Bool} → t ≡ passes s b → t ≡ true → (is : List Item) → signifiers s (Mark b ∷ is) ≡ signifiers s is
  unfolding signifiers
  past_known b p h is = rw (sym p ∙ h)

  pub past_unknown : (b : ℕ) {t : Bool} → t ≡ passes s b → t ≡ false → (is : List Item) → signifiers s (Mark b ∷ is) ≡ b ∷ signifiers s is
  unfolding signifiers
  past_unknown b p h is = rw (sym p ∙ h)
