-- What the next rest takes: whole ticks above 0, no more than are left, exactly as long as its NOTE lasts.
use Rattle.std.specs.Prelude.{Option, None, Some}
use mathlib.Core.Path.{◌≡◌, refl, sym, ap, ◌∙◌}
use Prim.Native.Nat.{ℕ, zero, suc, ◌+◌, ◌*◌, ◌/◌, ◌^◌, ◌≤◌, ◌<◌}
use native.Mathlib.Nat.{mul_comm, mul_assoc, mul-one, mul-mul-mul_comm, div-mul_cancel, zero-mul}
use native.Mathlib.Omega.{arith}
use mathlib.Core.Bool.{Bool, true, false, cond, ◌&&◌}
use lib.Dec.{eqb, leb}
use borrow.Author.Tests.{eqb-true, leb-true, leb-false, le-leb, ne_eqb}
use Rattle.duration.specs.Duration.{gcd_of}
use Rattle.duration.specs.Length.{◌over◌, SameLength, value_length, dot_factor, tuplet_factor, note_length}
use Rattle.duration.proofs.Divisors.{gcd_divides}
use Rattle.gap.specs.Values.{ticks_of, tried, rest, triplet_by, in_tuplet, tuplet_by, plain_by}
use Rattle.gap.specs.Next.{or_else, longest_from, longest, shortest_below, is_exact, tuplet_of, next_rest}
use Rattle.gap.specs.declared.Rest.{Rest}
use Rattle.gap.proofs.ValueLaws.{Whole, ticks_whole}

pub record Serves (divisions ticks : ℕ) (r : Rest) : Type 0 where
  pub value_in : r.value < 10
  pub actual_in : r.actual < 256
  pub normal_in : r.normal < 256
  pub some : 0 < r.ticks
  pub high : r.ticks ≤ ticks
  pub same : SameLength (note_length r.value 0 r.actual r.normal false) (r.ticks over (divisions * 4))

abbrev pub Good : ℕ → ℕ → Option Rest → Type 0
Good divisions ticks None = Unit {0}
Good divisions ticks (Some r) = Serves divisions ticks r

-- ---- lengths

plain_length : (v d t : ℕ) → v < 10 → t * 2 ^ v ≡ d * 16 → SameLength (note_length v 0 0 0 false) (t over (d * 4))
unfolding note_length value_length dot_factor tuplet_factor
plain_length v d t h e = rw (le-leb v 9 (omega arith), mul-one) (omega (arith, e))

quarters : (m d : ℕ) → 4 * 1 * m * (d * 4) ≡ m * (d * 16)
quarters m d =
    let four : 4 * 1 * m ≡ m * 4 = omega arith in
    ap (λ (x : ℕ). x * (d * 4)) four ∙ mul-mul-mul_comm m 4 d 4 ∙ mul_assoc m d 16

tuplet_length : (v d b t a m : ℕ) → v < 10 → b * 2 ^ v ≡ d * 16 → m * b ≡ t * a → (a ≡ 0 → ⊥) → SameLength (note_length v 0 a m false) (t over (d * 4))
unfolding note_length value_length dot_factor tuplet_factor
tuplet_length v d b t a m h e q n =
    rw (le-leb v 9 (omega arith), ne_eqb a 0 n)
    (quarters m d
    ∙ ap (λ (x : ℕ). m * x) (sym e)
    ∙ sym (mul_assoc m b (2 ^ v))
    ∙ ap (λ (x : ℕ). x * 2 ^ v) q
    ∙ mul_assoc t a (2 ^ v)
    ∙ ap (λ (x : ℕ). t * x) (mul_comm a (2 ^ v) ∙ ap (λ (x : ℕ). x * a) (sym (mul-one (2 ^ v)))))

-- ---- each value as it is tried

module _ (d ticks v : ℕ) (some : 0 < ticks) (h : v < 10) where
  by_base : (by : ℕ → Option Rest) → ((base : ℕ) → Whole d v base → Good d ticks (by base)) → Good d ticks (tried by (ticks_of d v))
  by_base by each = go (ticks_of d v) refl
    where
      go : (o : Option ℕ) → ticks_of d v ≡ o → Good d ticks (tried by o)
      go None e = tt
      go (Some base) e = each base (ticks_whole d v e)

  triplet_good : Good d ticks (triplet_by d ticks v)
  unfolding triplet_by
  triplet_good = by_base (λ base. cond (eqb (base * 2) (ticks * 3)) (Some (rest v 3 2 ticks)) None) (λ base w. go base w (eqb (base * 2) (ticks * 3)) refl)
    where
      go : (base : ℕ) → Whole d v base → (t : Bool) → eqb (base * 2) (ticks * 3) ≡ t → Good d ticks (cond t (Some (rest v 3 2 ticks)) None)
      go base w true e =
          let q : base * 2 ≡ ticks * 3 = eqb-true _ _ e in
          record {
            value_in = h;
            actual_in = omega arith;
            normal_in = omega arith;
            some = some;
            high = omega arith;
            same = tuplet_length v d base ticks 3 2 h w.exact (omega arith) (λ z. omega arith);
          }
      go base w false e = tt

  in_tuplet_lem : (b : ℕ) → ticks < b → b * 2 ^ v ≡ d * 16 → Good d ticks (in_tuplet v b ticks (gcd_of b ticks))
  in_tuplet_lem b low e = go (leb (b / g) 255) (leb (ticks / g) 255) refl refl
    where
      g : ℕ
      g = gcd_of b ticks

      of_base : b / g * g ≡ b
      of_base = div-mul_cancel g (gcd_divides b ticks).0

      of_ticks : ticks / g * g ≡ ticks
      of_ticks = div-mul_cancel g (gcd_divides b ticks).1

      cross : ticks / g * b ≡ ticks * (b / g)
      cross =
          ap (λ (x : ℕ). ticks / g * x) (sym of_base ∙ mul_comm (b / g) g)
          ∙ sym (mul_assoc (ticks / g) g (b / g))
          ∙ ap (λ (x : ℕ). x * (b / g)) of_ticks

      go : (x y : Bool) → leb (b / g) 255 ≡ x → leb (ticks / g) 255 ≡ y → Good d ticks (cond (x && y) (Some (rest v (b / g) (ticks / g) ticks)) None)
      go true true p q = record {
        value_in = h;
        actual_in = omega (arith, leb-true (b / g) 255 p);
        normal_in = omega (arith, leb-true (ticks / g) 255 q);
        some = some;
        high = omega arith;
        same = tuplet_length v d b ticks (b / g) (ticks / g) h e cross (λ z. omega (arith, sym of_base ∙ ap (λ (x : ℕ). x * g) z ∙ zero-mul g));
      }
      go true false p q = tt
      go false y p q = tt

  tuplet_good : Good d ticks (tuplet_by d ticks v)
  unfolding tuplet_by
  tuplet_good = by_base (λ base. cond (leb base ticks) None (in_tuplet v base ticks (gcd_of base ticks))) (λ base w. go base w (leb base ticks) refl)
    where
      go : (base : ℕ) → Whole d v base → (t : Bool) → leb base ticks ≡ t → Good d ticks (cond t None (in_tuplet v base ticks (gcd_of base ticks)))
      go base w true e = tt
      go base w false e = in_tuplet_lem base (leb-false _ _ e) w.exact

  plain_good : Good d ticks (plain_by d ticks v)
  unfolding plain_by
  plain_good = by_base (λ base. cond (leb base ticks) (Some (rest v 0 0 base)) None) (λ base w. go base w (leb base ticks) refl)
    where
      go : (base : ℕ) → Whole d v base → (t : Bool) → leb base ticks ≡ t → Good d ticks (cond t (Some (rest v 0 0 base)) None)
      go base w false q = tt
      go base w true q = record {
        value_in = h;
        actual_in = omega arith;
        normal_in = omega arith;
        some = w.some;
        high = leb-true _ _ q;
        same = plain_length v d base h w.exact;
      }

-- ---- the first that serves

module _ (d ticks : ℕ) where
  or_good : (a b : Option Rest) → Good d ticks a → Good d ticks b → Good d ticks (or_else a b)
  or_good None b p q = q
  or_good (Some r) b p q = p

  longest_good : (by : ℕ → Option Rest) → ((v : ℕ) → v < 10 → Good d ticks (by v)) → (n v : ℕ) → v + n ≤ 10 → Good d ticks (longest_from by n v)
  unfolding longest_from
  longest_good by each zero v h = tt
  longest_good by each (suc n) v h =
      or_good (by v) (longest_from by n (v + 1)) (each v (omega arith)) (longest_good by each n (v + 1) (omega arith))

  shortest_good : (by : ℕ → Option Rest) → ((v : ℕ) → v < 10 → Good d ticks (by v)) → (n : ℕ) → n ≤ 10 → Good d ticks (shortest_below by n)
  unfolding shortest_below
  shortest_good by each zero h = tt
  shortest_good by each (suc n) h = or_good (by n) (shortest_below by n) (each n (omega arith)) (shortest_good by each n (omega arith))

  pub next_good : 0 < ticks → Good d ticks (next_rest d ticks)
  next_good some =
      or_good (longest (triplet_by d ticks)) (or_else (tuplet_of d ticks) (longest (plain_by d ticks)))
      (longest_good (triplet_by d ticks) (λ v h. triplet_good d ticks v some h) 10 0 (omega arith))
      (or_good (tuplet_of d ticks) (longest (plain_by d ticks)) (go (is_exact d ticks 10 0))
      (longest_good (plain_by d ticks) (λ v h. plain_good d ticks v some h) 10 0 (omega arith)))
    where
      go : (t : Bool) → Good d ticks (cond t None (shortest_below (tuplet_by d ticks) 10))
      go true = tt
      go false = shortest_good (tuplet_by d ticks) (λ v h. tuplet_good d ticks v some h) 10 (omega arith)
