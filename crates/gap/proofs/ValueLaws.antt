-- The ticks of a value: what is whole is exact.
use Rattle.std.specs.Prelude.{None, Some, Result, Ok, Err}
use Rattle.std.specs.Result.{OkIff, result_ok}
use mathlib.Core.Path.{◌≡◌, refl, sym, ap, ◌∙◌}
use Prim.Native.Nat.{ℕ, zero, suc, ◌*◌, ◌/◌, ◌%◌, ◌^◌, ◌≤◌, ◌<◌}
use native.Mathlib.Nat.{div-add-mod', mod-eq_of_lt, one-mul, zero-div, zero-mul}
use native.Mathlib.Omega.{arith}
use mathlib.Core.Bool.{Bool, true, false, cond, ◌&&◌}
use lib.Dec.{eqb, ltb, leb}
use lib.Pow.{pow-lt}
use borrow.Author.Tests.{eq-eqb, ne_eqb, lt-ltb, le-ltb, le-leb, lt-leb, eqb-true, ltb-true}
use Rattle.slices.proofs.TestLaws.{clash}
use Rattle.gap.specs.Values.{ticks_of}

-- ticks are above 0 and make up the sixteen quarters of a longa
pub record Whole (divisions value base : ℕ) : Type 0 where
  pub some : 0 < base
  pub exact : base * 2 ^ value ≡ divisions * 16

pub ticks_whole : (divisions value : ℕ) {base : ℕ} → ticks_of divisions value ≡ Some base → Whole divisions value base
unfolding ticks_of
ticks_whole divisions value =
    go (eqb (divisions * 16 % 2 ^ value) 0) (ltb 0 (divisions * 16 / 2 ^ value)) (leb (divisions * 16 / 2 ^ value) 4294967295) refl refl
  where
    go : (a b c : Bool) → eqb (divisions * 16 % 2 ^ value) 0 ≡ a → ltb 0 (divisions * 16 / 2 ^ value) ≡ b
        → {base : ℕ} → cond (a && (b && c)) (Some (divisions * 16 / 2 ^ value)) None ≡ Some base → Whole divisions value base
    go true true true e l {base} q =
        let is : divisions * 16 / 2 ^ value ≡ base = cc in record {
          some = omega (arith, is, ltb-true 0 (divisions * 16 / 2 ^ value) l);
          exact = ap (λ (n : ℕ). n * 2 ^ value) (sym is) ∙ omega (arith, div-add-mod' (divisions * 16) (2 ^ value), eqb-true (divisions * 16 % 2 ^ value) 0 e);
        }
    go true true false e l q = clash cc
    go true false c e l q = clash cc
    go false b c e l q = clash cc

-- a shift of 1 by a value
pub unit_is : (value : ℕ) → value < 10 → 1 * 2 ^ value % 18446744073709551616 ≡ 2 ^ value
unit_is value h =
    let small : 2 ^ value < 2 ^ 64 = pow-lt {j = 64} (omega arith) in
    ap (λ (n : ℕ). n % 18446744073709551616) (one-mul (2 ^ value)) ∙ mod-eq_of_lt small

module _ (divisions value : ℕ) {all unit : ℕ} (is_all : all ≡ divisions * 16) (is-unit : unit ≡ 2 ^ value) where
  pub ticks_none : all ≡ 0 → None ≡ ticks_of divisions value
  unfolding ticks_of
  ticks_none z =
      let low : divisions * 16 / 2 ^ value ≤ 0 = omega (arith, ap (λ (n : ℕ). n / 2 ^ value) (sym is_all ∙ z), zero-div (2 ^ value)) in
      sym (rw (le-ltb 0 (divisions * 16 / 2 ^ value) low) (go (eqb (divisions * 16 % 2 ^ value) 0)))
    where
      go : (a : Bool) → cond (a && false) (Some (divisions * 16 / 2 ^ value)) None ≡ None
      go true = refl
      go false = refl

  pub ticks_broken : (all % unit ≡ 0 → ⊥) → None ≡ ticks_of divisions value
  unfolding ticks_of
  ticks_broken n = sym (rw (ne_eqb (divisions * 16 % 2 ^ value) 0 (λ e. n (rw (is_all, is-unit) e))))

  pub ticks_by : {E : Type 0} (r : Result ℕ E) → (all ≡ 0 → ⊥) → all % unit ≡ 0 → OkIff r (all / unit < 2 ^ 32) (all / unit) → result_ok r ≡ ticks_of divisions value
  unfolding ticks_of
  ticks_by {E} r n e h =
      go r h
      ∙ sym (rw (
        eq-eqb (divisions * 16 % 2 ^ value) 0 (rw (← is_all, ← is-unit) e),
        lt-ltb 0 (divisions * 16 / 2 ^ value) (rw (← is_all, ← is-unit) (some (all / unit) refl)),
      ))
    where
      some : (q : ℕ) → all / unit ≡ q → 0 < all / unit
      some zero z = absurd (n (omega (arith, div-add-mod' all unit, ap (λ (k : ℕ). k * unit) z, zero-mul unit, e)))
      some (suc q) z = omega (arith, z)

      quotient : all / unit ≡ divisions * 16 / 2 ^ value
      quotient = rw (is_all, is-unit)

      go : (r : Result ℕ E) → OkIff r (all / unit < 2 ^ 32) (all / unit)
          → result_ok r ≡ cond (leb (divisions * 16 / 2 ^ value) 4294967295) (Some (divisions * 16 / 2 ^ value)) None
      go (Ok x) h =
          ap Some (h.1 ∙ quotient)
          ∙ ap (λ (b : Bool). cond b (Some (divisions * 16 / 2 ^ value)) None) (sym (le-leb (divisions * 16 / 2 ^ value) 4294967295 (omega (arith, h.0, quotient))))
      go (Err x) h =
          ap (λ (b : Bool). cond b (Some (divisions * 16 / 2 ^ value)) None) (sym (lt-leb (divisions * 16 / 2 ^ value) 4294967295 (omega (arith, h, quotient))))

-- the ways out of `ticks_of`
pub ruleset ticks = (unit_is, ticks_none, ticks_broken, ticks_by)
