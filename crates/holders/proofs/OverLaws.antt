-- The part of the first branch that finds no voice would hold over four lines.
use mathlib.Core.Path.{◌≡◌, refl, sym, ap, ◌∙◌}
use mathlib.Core.Bool.{Bool, true, false, cond, ◌&&◌, ◌||◌}
use mathlib.Core.List.{List}
use mathlib.Core.Option.{some}
use Prim.Native.Nat.{ℕ, zero, suc, ◌≤◌, ◌<◌}
use native.Mathlib.Omega.{arith}
use native.Mathlib.Decide.{ℕ_discrete}
use lib.Dec.{ltb}
use borrow.Author.Tests.{eq-eqb, le-ltb, ltb-true}
use Rattle.slices.proofs.TestLaws.{clash, and_left}
use Rattle.paths.specs.declared.PathToken.{PathToken}
use Rattle.paths.specs.Record.{Rec, star}
use Rattle.paths.specs.Trace.{branch_of, nowhere, look_back, origin, origin_in, width, columns, count, is_part, is_line, part, lines, precedes, rivals, FirstWithout}
use lib.ListN.{length}

module _ (f g : ℕ → Bool) (less : (i : ℕ) → f i ≡ true → g i ≡ true) where
  count_step : (n : ℕ) (a b : Bool) → (a ≡ true → b ≡ true) → {x y : ℕ} → x ≤ y → cond a (suc x) x ≤ cond b (suc y) y
  count_step n true true l e = omega arith
  count_step n true false l e = clash (let z = l refl in cc)
  count_step n false true l e = omega arith
  count_step n false false l e = e

  strict_step : (n : ℕ) (a b : Bool) → (a ≡ true → b ≡ true) → {x y : ℕ} → x < y → cond a (suc x) x < cond b (suc y) y
  strict_step n true true l e = omega arith
  strict_step n true false l e = clash (let z = l refl in cc)
  strict_step n false true l e = omega arith
  strict_step n false false l e = e

  count_less : (n : ℕ) → count f n ≤ count g n
  unfolding count
  count_less zero = omega arith
  count_less (suc n) = count_step n (f n) (g n) (less n) (count_less n)

  pub count_strict : (j n : ℕ) → j < n → f j ≡ false → g j ≡ true → count f n < count g n
  unfolding count
  count_strict j zero l a b = absurd (omega arith)
  count_strict j (suc n) l a b = go (ℕ_discrete j n) (count_strict j n)
    where
      go : Dec (j ≡ n) → (j < n → f j ≡ false → g j ≡ true → count f n < count g n) → cond (f n) (suc (count f n)) (count f n) < cond (g n) (suc (count g n)) (count g n)
      go (yes e) later = rw (sym (ap f e) ∙ a, sym (ap g e) ∙ b) (omega (arith, count_less n))
      go (no m) later = let k : j < n = omega arith in strict_step n (f n) (g n) (less n) (later k a b)

module _ (h : List Bool) (recs : ℕ → Rec) (n q : ℕ) (ts : List PathToken) (is : recs n ≡ star ts) where
  -- a branch is a column of the next row
  branch_inside : (j k : ℕ) → origin_in (recs n) j ≡ branch_of k → j < columns h recs (suc n)
  unfolding origin_in origin columns
  branch_inside j k e = rw is (go (ltb j (width ts)) refl (ap (λ (r : Rec). origin_in r j) (sym is) ∙ e))
    where
      go : (b : Bool) → ltb j (width ts) ≡ b → cond b (look_back ts (length ts) j) nowhere ≡ branch_of k → j < width ts
      go true l x = ltb-true j (width ts) l
      go false l x = clash cc

  pub over_four : FirstWithout h recs n q → 4 < lines h recs (suc n) q
  unfolding lines rivals precedes
  over_four w =
      let strict = count_strict (λ i. is_part q (part h recs (suc n) i) && (is_line (origin_in (recs n) i) || ltb i w.column)) (λ i. is_part q (part h recs (suc n) i))
      (λ i. and_left (is_part q (part h recs (suc n) i)) (is_line (origin_in (recs n) i) || ltb i w.column)) w.column (columns h recs (suc n))
      (branch_inside w.column w.parent w.is_branch)
      (rw (w.in_part, w.is_branch, le-ltb w.column w.column (omega arith)) (itself (is_part q (some q))))
      (rw w.in_part (eq-eqb q q refl)) in
      omega (arith, w.taken, strict)
    where
      itself : (b : Bool) → (b && (false || false)) ≡ false
      itself true = refl
      itself false = refl
