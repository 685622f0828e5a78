-- Comparing byte by byte.
use mathlib.Core.Path.{◌≡◌, refl, sym, ap, ◌∙◌}
use Prim.Native.Nat.{ℕ, suc, ◌<◌}
use native.Mathlib.Nat.{le_of_suc-le-suc, not-suc-le-zero}
use mathlib.Core.List.{List, [], ◌∷◌}
use mathlib.Core.Bool.{Bool, true, false, ◌&&◌}
use lib.Dec.{eqb}
use lib.ListN.{length, take}
use lib.Pointwise.{pointwise}
use borrow.Author.Tests.{eq-eqb, ne_eqb, eqb-true}
use mathlib.Core.Logic.{◌⊎◌, inl, inr}
use Rattle.std.proofs.lemmas.Bool.Decides.{eqb_tells}
use Rattle.slices.specs.Compare.{begins_with, same_bytes}

and_not : (a : Bool) {b : Bool} → b ≡ false → (a && b) ≡ false
and_not true q = q
and_not false q = refl

-- a shorter list doesn't begin with a longer one
pub begins_short : (p s : List ℕ) → length s < length p → begins_with p s ≡ false
unfolding begins_with
begins_short [] s h = absurd (not-suc-le-zero h)
begins_short (x ∷ p) [] h = refl
begins_short (x ∷ p) (y ∷ s) h = and_not (eqb y x) (begins_short p s (le_of_suc-le-suc h))

eqb_turn : (a b : ℕ) → eqb a b ≡ eqb b a
eqb_turn a b = go (eqb_tells a b)
  where
    go : ((eqb a b ≡ true) × (a ≡ b)) ⊎ ((eqb a b ≡ false) × (a ≡ b → ⊥)) → eqb a b ≡ eqb b a
    go (inl h) = h.0 ∙ sym (eq-eqb b a (sym h.1))
    go (inr h) = h.0 ∙ sym (ne_eqb b a (λ e. h.1 (sym e)))

-- `starts_with` of a slice is beginning with the bytes
pub starts_begins : (p s : List ℕ) → pointwise eqb p (take (length p) s) ≡ begins_with p s
unfolding begins_with
starts_begins [] s = refl
starts_begins (x ∷ p) [] = refl
starts_begins (x ∷ p) (y ∷ s) = rw (eqb_turn x y, starts_begins p s)

-- `==` of slices is being the same
pub eq_same : (p s : List ℕ) → pointwise eqb s p ≡ same_bytes p s
unfolding same_bytes
eq_same [] [] = refl
eq_same [] (y ∷ s) = refl
eq_same (x ∷ p) [] = refl
eq_same (x ∷ p) (y ∷ s) = ap (λ (b : Bool). eqb y x && b) (eq_same p s)

pub same_short : (p s : List ℕ) → (length s ≡ length p → ⊥) → same_bytes p s ≡ false
unfolding same_bytes
same_short [] [] e = absurd (e refl)
same_short [] (y ∷ s) e = refl
same_short (x ∷ p) [] e = refl
same_short (x ∷ p) (y ∷ s) e = and_not (eqb y x) (same_short p s (λ q. e (ap suc q)))

-- what the tests say of the lists
pub same_is : (p s : List ℕ) → same_bytes p s ≡ true → s ≡ p
unfolding same_bytes
same_is [] [] e = refl
same_is [] (y ∷ s) e = cc
same_is (x ∷ p) [] e = cc
same_is (x ∷ p) (y ∷ s) e = go (eqb y x) refl (same_is p s) e
  where
    go : (b : Bool) → eqb y x ≡ b → (same_bytes p s ≡ true → s ≡ p) → (b && same_bytes p s) ≡ true → y ∷ s ≡ x ∷ p
    go true q ih r = let u : y ≡ x = eqb-true y x q in let v : s ≡ p = ih r in cc
    go false q ih r = cc

pub begins_is : (p s : List ℕ) → begins_with p s ≡ true → p ≡ take (length p) s
unfolding begins_with
begins_is [] s e = refl
begins_is (x ∷ p) [] e = cc
begins_is (x ∷ p) (y ∷ s) e = go (eqb y x) refl (begins_is p s) e
  where
    go : (b : Bool) → eqb y x ≡ b → (begins_with p s ≡ true → p ≡ take (length p) s) → (b && begins_with p s) ≡ true → x ∷ p ≡ y ∷ take (length p) s
    go true q ih r = let u : y ≡ x = eqb-true y x q in let v : p ≡ take (length p) s = ih r in cc
    go false q ih r = cc
