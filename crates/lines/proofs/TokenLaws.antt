-- Tokens by their length and first byte.
use mathlib.Core.Path.{◌≡◌, refl, sym}
use Prim.Native.Nat.{ℕ, suc, ◌≤◌, ◌<◌}
use native.Mathlib.Nat.{not-suc-le-zero}
use native.Mathlib.Omega.{arith}
use mathlib.Core.List.{List, [], ◌∷◌}
use mathlib.Core.Bool.{true, false}
use lib.Dec.{eqb}
use lib.ListN.{length, get_or}
use borrow.Author.Tests.{ne_eqb}
use Rattle.slices.specs.Compare.{same_bytes}
use Rattle.slices.proofs.CompareLaws.{same_short}
use Rattle.lines.specs.Tokens.{is_null, is_empty}

pub null_here : (s : List ℕ) → 1 ≤ length s → length s < 2 → get_or s 0 0 ≡ 46 → true ≡ is_null s
unfolding is_null same_bytes
null_here [] some one e = absurd (not-suc-le-zero some)
null_here (x ∷ []) some one e = rw e
null_here (x ∷ y ∷ s) some one e = absurd (omega arith)

pub null_other : (s : List ℕ) → (get_or s 0 0 ≡ 46 → ⊥) → false ≡ is_null s
unfolding is_null same_bytes
null_other [] h = refl
null_other (x ∷ s) h = rw (ne_eqb x 46 h)

pub null_short : (s : List ℕ) → length s < 1 → false ≡ is_null s
unfolding is_null
null_short s h = sym (same_short (46 ∷ []) s (λ e. omega arith))

pub null_long : (s : List ℕ) → 2 ≤ length s → false ≡ is_null s
unfolding is_null
null_long s h = sym (same_short (46 ∷ []) s (λ e. omega arith))

pub empty_is : (s : List ℕ) → eqb (length s) 0 ≡ is_empty s
unfolding is_empty same_bytes
empty_is [] = refl
empty_is (x ∷ s) = ne_eqb (suc (length s)) 0 (λ e. omega arith)

-- each way to tell whether a token is `.`, for `is_null`
pub ruleset nulls = (null_here, null_short, null_other, null_long)
