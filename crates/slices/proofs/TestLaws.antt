-- Truth values of tests: what two that hold together say, and what cannot be.
use mathlib.Core.Path.{◌≡◌, refl, sym, ◌∙◌}
use mathlib.Core.Bool.{Bool, true, false, ◌&&◌, false≢true}
use Prim.Native.Nat.{ℕ}
use native.Mathlib.Omega.{arith}

-- equations that would make 0 and 1 the same, as of two different constructors, prove anything
pub clash : {A : Type 0} → ◌≡◌ {A = ℕ} 0 1 → A
clash e = absurd (omega arith)

pub not_both : {t : Bool} → t ≡ true → t ≡ false → ⊥
not_both p q = false≢true (sym q ∙ p)

pub and_left : (a b : Bool) → (a && b) ≡ true → a ≡ true
and_left true b e = refl
and_left false b e = e

pub and_right : (a b : Bool) → (a && b) ≡ true → b ≡ true
and_right true b e = e
and_right false b e = cc

pub both : (a b : Bool) → (a && b) ≡ true → (a ≡ true) × (b ≡ true)
both a b e = (and_left a b e, and_right a b e)
