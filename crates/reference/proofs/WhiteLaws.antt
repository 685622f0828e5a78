-- The code points that are white space, as the code's `match` finds them.
use mathlib.Core.Path.{◌≡◌, refl, sym, ap, subst}
use mathlib.Core.Logic.{inl, inr}
use mathlib.Core.Bool.{Bool, true, false, not, ◌&&◌}
use mathlib.Core.List.{List, [], ◌∷◌}
use Prim.Native.Nat.{ℕ, ◌+◌, ◌-◌, ◌≤◌, ◌<◌}
use native.Mathlib.Omega.{arith}
use types.Run.{OneOf}
use lib.Dec.{T, leb}
use borrow.Author.Tests.{ne_eqb, lt-leb, leb-true}
use Rattle.slices.specs.Finite.{all, below, is_true}
use Rattle.reference.specs.Trim.{white}

abbrev keys : List ℕ
keys = 32 ∷ 133 ∷ 160 ∷ 5760 ∷ 8239 ∷ 8287 ∷ 12288 ∷ []

pub white_key : (c : ℕ) → OneOf keys c → true ≡ white c
unfolding white
white_key c (inl e) = sym (ap white e)
white_key c (inr (inl e)) = sym (ap white e)
white_key c (inr (inr (inl e))) = sym (ap white e)
white_key c (inr (inr (inr (inl e)))) = sym (ap white e)
white_key c (inr (inr (inr (inr (inl e))))) = sym (ap white e)
white_key c (inr (inr (inr (inr (inr (inl e)))))) = sym (ap white e)
white_key c (inr (inr (inr (inr (inr (inr e)))))) = sym (ap white e)

-- a run of n code points from `from` on, all white
pub white_run : (from n : ℕ) → T (all (λ i. white (from + i)) n) → (c : ℕ) → from ≤ c → c < from + n → true ≡ white c
white_run from n t c low high =
    let at : from + (c - from) ≡ c = omega arith in
    sym (subst (λ (k : ℕ). white k ≡ true) at (is_true (white (from + (c - from))) (below (λ i. white (from + i)) n t (c - from) (omega arith))))

-- no printed ASCII character is white
pub white_ink : (c : ℕ) → 32 < c → c < 128 → white c ≡ false
unfolding white
white_ink c low high =
    let at : 33 + (c - 33) ≡ c = omega arith in
    subst (λ (k : ℕ). white k ≡ false) at (is_false (white (33 + (c - 33))) (below (λ i. not (white (33 + i))) 95 tt (c - 33) (omega arith)))
  where
    is_false : (b : Bool) → T (not b) → b ≡ false
    is_false true h = absurd h
    is_false false h = refl

-- the white ASCII characters
pub white_blank : (c : ℕ) → c ≡ 32 → (white c ≡ true) × (c < 128)
unfolding white
white_blank c e = (ap white e, omega arith)

pub white_space : (c : ℕ) → 9 ≤ c → c ≤ 13 → (white c ≡ true) × (c < 128)
unfolding white
white_space c low high =
    (sym (white_run 9 5 tt c low (omega arith)), omega arith)

outside : (lo hi c : ℕ) → (lo ≤ c → hi < c) → (leb lo c && leb c hi) ≡ false
outside lo hi c h = go (leb lo c) refl
  where
    go : (t : Bool) → leb lo c ≡ t → (t && leb c hi) ≡ false
    go true e = lt-leb c hi (h (leb-true lo c e))
    go false e = refl

pub white_not : (c : ℕ) → (OneOf keys c → ⊥) → (9 ≤ c → 13 < c) → (8192 ≤ c → 8202 < c) → (8232 ≤ c → 8233 < c) → false ≡ white c
unfolding white
white_not c none a b d =
    rw (
      outside 9 13 c a,
      outside 8192 8202 c b,
      ne_eqb c 32 (λ e. none (inl e)),
      ne_eqb c 133 (λ e. none (inr (inl e))),
      ne_eqb c 160 (λ e. none (inr (inr (inl e)))),
      ne_eqb c 5760 (λ e. none (inr (inr (inr (inl e))))),
      ne_eqb c 8239 (λ e. none (inr (inr (inr (inr (inl e)))))),
      ne_eqb c 8287 (λ e. none (inr (inr (inr (inr (inr (inl e))))))),
      ne_eqb c 12288 (λ e. none (inr (inr (inr (inr (inr (inr e))))))),
      ne_eqb c 8232 (λ e. let h : 8233 < c = d (omega arith) in omega arith),
      ne_eqb c 8233 (λ e. let h : 8233 < c = d (omega arith) in omega arith),
    )
