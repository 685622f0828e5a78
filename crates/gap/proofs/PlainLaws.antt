-- The longest value that fits, and what it says of the others: it is exact where any is, and no shorter one serves in a tuplet.
use Rattle.std.specs.Prelude.{Option, None, Some}
use Rattle.std.specs.Option.{option_or}
use mathlib.Core.Path.{◌≡◌, refl, sym, ap, subst, ◌∙◌}
use Prim.Native.Nat.{ℕ, zero, suc, ◌+◌, ◌-◌, ◌^◌, ◌≤◌, ◌<◌}
use native.Mathlib.Nat.{le_of_mul-le-mul_right, mul-le-mul_left, pow-le-pow_right}
use native.Mathlib.Omega.{arith}
use mathlib.Core.Bool.{Bool, true, false, cond}
use lib.Dec.{leb}
use lib.Pow.{pow_pos}
use borrow.Author.Tests.{ne_eqb, eq-eqb, le-leb, leb-true, leb-false}
use Rattle.slices.proofs.TestLaws.{clash}
use Rattle.duration.specs.Duration.{gcd_of}
use Rattle.gap.specs.Values.{ticks_of, tried, rest, in_tuplet, tuplet_by, plain_by}
use Rattle.gap.specs.Next.{or_else, longest_from, longest, shortest_below, just, is_exact, tuplet_of}
use Rattle.gap.specs.declared.Rest.{Rest}
use Rattle.gap.proofs.ValueLaws.{Whole, ticks_whole}
use Rattle.gap.proofs.SearchLaws.{exact_none, exact_some}

-- ---- the first that serves

-- the value that gives a rest, and none before it does
pub record First (by : ℕ → Option Rest) (v high : ℕ) (r : Rest) : Type 0 where
  pub at : ℕ
  pub low : v ≤ at
  pub below : at < high
  pub gives : by at ≡ Some r
  pub none : (k : ℕ) → v ≤ k → k < at → by k ≡ None

found : (by : ℕ → Option Rest) (n v : ℕ) {r : Rest} → longest_from by n v ≡ Some r → First by v (v + n) r
unfolding longest_from
found by zero v e = clash cc
found by (suc n) v {r} e = go (by v) refl (found by n (v + 1)) e
  where
    past : by v ≡ None → First by (v + 1) (v + 1 + n) r → First by v (v + suc n) r
    past q later = record {
      at = later.at;
      low = omega (arith, later.low);
      below = omega (arith, later.below);
      gives = later.gives;
      none = λ k a b. each k a b (k - v) refl;
    }
      where
        each : (k : ℕ) → v ≤ k → k < later.at → (j : ℕ) → k - v ≡ j → by k ≡ None
        each k a b zero z = let same : k ≡ v = omega arith in ap by same ∙ q
        each k a b (suc j) z = later.none k (omega arith) b

    go : (o : Option Rest) → by v ≡ o → (longest_from by n (v + 1) ≡ Some r → First by (v + 1) (v + 1 + n) r)
        → or_else o (longest_from by n (v + 1)) ≡ Some r → First by v (v + suc n) r
    go (Some x) q later h = record { at = v; low = omega arith; below = omega arith; gives = q ∙ h; none = λ k a b. absurd (omega arith) }
    go None q later h = past q (later h)

none_of : (by : ℕ → Option Rest) (n v : ℕ) → longest_from by n v ≡ None → (k : ℕ) → v ≤ k → k < v + n → by k ≡ None
unfolding longest_from
none_of by zero v e k a b = absurd (omega arith)
none_of by (suc n) v e k a b = go (by v) refl (λ h low. none_of by n (v + 1) h k low (omega arith)) e
  where
    go : (o : Option Rest) → by v ≡ o → (longest_from by n (v + 1) ≡ None → v + 1 ≤ k → by k ≡ None)
        → or_else o (longest_from by n (v + 1)) ≡ None → by k ≡ None
    go (Some x) q later h = clash cc
    go None q later h = each (k - v) refl
      where
        each : (j : ℕ) → k - v ≡ j → by k ≡ None
        each zero z = let same : k ≡ v = omega arith in ap by same ∙ q
        each (suc j) z = later h (omega arith)

shortest_from : (by : ℕ → Option Rest) (m n : ℕ) → ((k : ℕ) → m ≤ k → k < m + n → by k ≡ None) → shortest_below by (m + n) ≡ shortest_below by m
unfolding shortest_below
shortest_from by m zero none = let same : m + 0 ≡ m = omega arith in ap (shortest_below by) same
shortest_from by m (suc n) none =
    let next : m + suc n ≡ suc (m + n) = omega arith in
    ap (shortest_below by) next
    ∙ ap (λ (x : Option Rest). or_else x (shortest_below by (m + n))) (none (m + n) (omega arith) (omega arith))
    ∙ shortest_from by m n (λ k a b. none k a (omega arith))

module _ (d ticks : ℕ) where
  -- a shorter value has no more ticks
  less : {v w b c : ℕ} → v ≤ w → Whole d v b → Whole d w c → c ≤ b
  less {v} {w} {b} {c} h x y =
      le_of_mul-le-mul_right {k = 2 ^ w} (omega (arith, x.exact, y.exact, mul-le-mul_left b (pow-le-pow_right {n = 2} (omega arith) h))) (pow_pos w)

  -- the ticks of a value that fits, and of one that does not
  fits : (k : ℕ) {r : Rest} → plain_by d ticks k ≡ Some r → (ticks_of d k ≡ Some r.ticks) × ((r.ticks ≤ ticks) × (r.value ≡ k))
  unfolding plain_by
  fits k {r} e = go (ticks_of d k) refl e
    where
      fit : (base : ℕ) → ticks_of d k ≡ Some base → (t : Bool) → leb base ticks ≡ t → cond t (Some (rest k 0 0 base)) None ≡ Some r
          → (ticks_of d k ≡ Some r.ticks) × ((r.ticks ≤ ticks) × (r.value ≡ k))
      fit base q true t h =
          let same : rest k 0 0 base ≡ r = cc in
          subst (λ (x : Rest). (ticks_of d k ≡ Some x.ticks) × ((x.ticks ≤ ticks) × (x.value ≡ k))) same (q, (leb-true base ticks t, refl))
      fit base q false t h = clash cc

      go : (o : Option ℕ) → ticks_of d k ≡ o → tried (λ base. cond (leb base ticks) (Some (rest k 0 0 base)) None) o ≡ Some r
          → (ticks_of d k ≡ Some r.ticks) × ((r.ticks ≤ ticks) × (r.value ≡ k))
      go None q h = clash cc
      go (Some base) q h = fit base q (leb base ticks) refl h

  over : (k : ℕ) → plain_by d ticks k ≡ None → {base : ℕ} → ticks_of d k ≡ Some base → ticks < base
  unfolding plain_by
  over k e {base} q = go (leb base ticks) refl (sym (ap (tried (λ b. cond (leb b ticks) (Some (rest k 0 0 b)) None)) q) ∙ e)
    where
      go : (t : Bool) → leb base ticks ≡ t → cond t (Some (rest k 0 0 base)) None ≡ None → ticks < base
      go true t h = clash cc
      go false t h = leb-false base ticks t

  not_just : (k : ℕ) → ((base : ℕ) → ticks_of d k ≡ Some base → base ≡ ticks → ⊥) → just (ticks_of d k) ticks ≡ false
  not_just k other = go (ticks_of d k) refl
    where
      go : (o : Option ℕ) → ticks_of d k ≡ o → just o ticks ≡ false
      go None q = refl
      go (Some base) q = ne_eqb base ticks (other base q)

  no_tuplet : (k : ℕ) → ((base : ℕ) → ticks_of d k ≡ Some base → base ≤ ticks) → tuplet_by d ticks k ≡ None
  unfolding tuplet_by
  no_tuplet k low = go (ticks_of d k) refl
    where
      go : (o : Option ℕ) → ticks_of d k ≡ o → tried (λ base. cond (leb base ticks) None (in_tuplet k base ticks (gcd_of base ticks))) o ≡ None
      go None q = refl
      go (Some base) q = ap (λ (b : Bool). cond b None (in_tuplet k base ticks (gcd_of base ticks))) (le-leb base ticks (low base q))

  or_none : (o : Option Rest) → o ≡ or_else o None
  or_none None = refl
  or_none (Some r) = refl

  or_is : (o other : Option Rest) → option_or o other ≡ or_else o other
  or_is None other = refl
  or_is (Some r) other = refl

  abbrev both : Option Rest → Option Rest
  both tuplet = or_else tuplet (longest (plain_by d ticks))

  -- where no value lasts just the ticks
  inexact : is_exact d ticks 10 0 ≡ false → tuplet_of d ticks ≡ shortest_below (tuplet_by d ticks) 10
  inexact e = ap (λ (b : Bool). cond b None (shortest_below (tuplet_by d ticks) 10)) e

  pub plain_none : None ≡ longest (plain_by d ticks) → shortest_below (tuplet_by d ticks) 10 ≡ both (tuplet_of d ticks)
  plain_none e =
      let each = none_of (plain_by d ticks) 10 0 (sym e) in
      or_none (shortest_below (tuplet_by d ticks) 10)
      ∙ ap (or_else (shortest_below (tuplet_by d ticks) 10)) e
      ∙ ap both (sym (inexact (exact_none d ticks 10 0 (λ k a b. not_just k (λ base q same. omega (arith, over k (each k a b) q))))))

  module _ {r : Rest} (e : Some r ≡ longest (plain_by d ticks)) where
    first : First (plain_by d ticks) 0 10 r
    first = found (plain_by d ticks) 10 0 (sym e)

    has : (ticks_of d first.at ≡ Some r.ticks) × ((r.ticks ≤ ticks) × (r.value ≡ first.at))
    has = fits first.at first.gives

    pub plain_value : r.value ≤ 10
    plain_value = omega (arith, has.1.1, first.below)

    pub plain_just : r.ticks ≡ ticks → Some r ≡ both (tuplet_of d ticks)
    plain_just same =
        let exact = exact_some d ticks {i = first.at} (ap (λ (o : Option ℕ). just o ticks) has.0 ∙ eq-eqb r.ticks ticks same) 10 0 (omega arith) (omega (arith, first.below)) in
        e ∙ ap (λ (b : Bool). both (cond b None (shortest_below (tuplet_by d ticks) 10))) (sym exact)

    -- from the first that fits on, values have no more ticks than that
    later : (k : ℕ) → first.at ≤ k → {base : ℕ} → ticks_of d k ≡ Some base → base ≤ r.ticks
    later k a q = less a (ticks_whole d first.at has.0) (ticks_whole d k q)

    pub plain_other : (r.ticks ≡ ticks → ⊥) → option_or (shortest_below (tuplet_by d ticks) r.value) (Some r) ≡ both (tuplet_of d ticks)
    plain_other other =
        or_is (shortest_below (tuplet_by d ticks) r.value) (Some r)
        ∙ ap (or_else (shortest_below (tuplet_by d ticks) r.value)) e
        ∙ ap (λ (k : ℕ). both (shortest_below (tuplet_by d ticks) k)) has.1.1
        ∙ ap both (sym (shortest_from (tuplet_by d ticks) first.at (10 - first.at) (λ k a b. no_tuplet k (λ base q. omega (arith, later k a q, has.1.0)))))
        ∙ ap (λ (k : ℕ). both (shortest_below (tuplet_by d ticks) k)) ten
        ∙ ap both (sym (inexact (exact_none d ticks 10 0 (λ k a b. not_just k (λ base q. differs k q (first.at - k) refl)))))
      where
        ten : first.at + (10 - first.at) ≡ 10
        ten = omega (arith, first.below)

        differs : (k : ℕ) {base : ℕ} → ticks_of d k ≡ Some base → (j : ℕ) → first.at - k ≡ j → base ≡ ticks → ⊥
        differs k q zero z same = other (omega (arith, later k (omega arith) q, has.1.0))
        differs k q (suc j) z same = omega (arith, over k (first.none k (omega arith) (omega arith)) q)
