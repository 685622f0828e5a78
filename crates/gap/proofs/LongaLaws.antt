-- A hole longer than a longa begins with one: no value is as long as what is left.
use Rattle.std.specs.Prelude.{Option, None, Some, Ok, Err}
use mathlib.Core.Path.{◌≡◌, refl, sym, ap, ◌∙◌}
use Prim.Native.Nat.{ℕ, zero, suc, ◌+◌, ◌-◌, ◌*◌, ◌^◌, ◌≤◌, ◌<◌}
use native.Mathlib.Nat.{mul-one, zero-mul, le-mul_of_pos_right}
use native.Mathlib.Omega.{arith}
use mathlib.Core.Bool.{Bool, false, cond}
use lib.Dec.{eqb, leb}
use lib.Pow.{pow_pos}
use borrow.Author.Tests.{ne_eqb, le-leb}
use Rattle.duration.specs.Duration.{gcd_of}
use Rattle.gap.specs.Values.{ticks_of, tried, rest, in_tuplet, triplet_by, tuplet_by, plain_by}
use Rattle.gap.specs.Next.{or_else, longest_from, longest, shortest_below, just, tuplet_of, next_rest}
use Rattle.gap.specs.Fill.{Fill, rest_note, more, fill_from, counted}
use Rattle.gap.specs.declared.Rest.{Rest}
use Rattle.sheet.specs.declared.Note.{Note}
use Rattle.gap.proofs.FillLaws.{fill_more}
use Rattle.gap.proofs.ValueLaws.{Whole, ticks_whole}
use Rattle.gap.proofs.SearchLaws.{longest_none, shortest_none, exact_none}

module _ (d ticks longa : ℕ) (is : ticks_of d 0 ≡ Some longa) (long : longa < ticks) where
  all : longa ≡ d * 16
  all = sym (mul-one longa) ∙ (ticks_whole d 0 is).exact

  -- no value has as many ticks
  low : (v base : ℕ) → Whole d v base → base < ticks
  low v base w = omega (arith, le-mul_of_pos_right {m = 2 ^ v} base (pow_pos v), all, w.exact)

  none_by : (v : ℕ) (by : ℕ → Option Rest) → ((base : ℕ) → base < ticks → by base ≡ None) → tried by (ticks_of d v) ≡ None
  none_by v by none = go (ticks_of d v) refl
    where
      go : (o : Option ℕ) → ticks_of d v ≡ o → tried by o ≡ None
      go None e = refl
      go (Some base) e = none base (low v base (ticks_whole d v e))

  no_triplet : (v : ℕ) → triplet_by d ticks v ≡ None
  unfolding triplet_by
  no_triplet v =
      none_by v (λ base. cond (eqb (base * 2) (ticks * 3)) (Some (rest v 3 2 ticks)) None)
      (λ base h. ap (λ (b : Bool). cond b (Some (rest v 3 2 ticks)) None) (ne_eqb (base * 2) (ticks * 3) (λ e. omega arith)))

  no_tuplet : (v : ℕ) → tuplet_by d ticks v ≡ None
  unfolding tuplet_by
  no_tuplet v =
      none_by v (λ base. cond (leb base ticks) None (in_tuplet v base ticks (gcd_of base ticks)))
      (λ base h. ap (λ (b : Bool). cond b None (in_tuplet v base ticks (gcd_of base ticks))) (le-leb base ticks (omega arith)))

  not_just : (v : ℕ) → just (ticks_of d v) ticks ≡ false
  not_just v = go (ticks_of d v) refl
    where
      go : (o : Option ℕ) → ticks_of d v ≡ o → just o ticks ≡ false
      go None e = refl
      go (Some base) e = let h = low v base (ticks_whole d v e) in ne_eqb base ticks (λ q. omega arith)

  plain_longa : plain_by d ticks 0 ≡ Some (rest 0 0 0 longa)
  unfolding plain_by
  plain_longa = rw (is, le-leb longa ticks (omega arith))

  plain_first : longest (plain_by d ticks) ≡ Some (rest 0 0 0 longa)
  unfolding longest_from
  plain_first = ap (λ (x : Option Rest). or_else x (longest_from (plain_by d ticks) 9 1)) plain_longa

  pub next_longa : Some (rest 0 0 0 longa) ≡ next_rest d ticks
  next_longa =
      sym
      (ap (λ (x : Option Rest). or_else x (or_else (tuplet_of d ticks) (longest (plain_by d ticks)))) (longest_none (triplet_by d ticks) 10 0 (λ k a b. no_triplet k))
      ∙ ap (λ (b : Bool). or_else (cond b None (shortest_below (tuplet_by d ticks) 10)) (longest (plain_by d ticks))) (exact_none d ticks 10 0 (λ k a b. not_just k))
      ∙ ap (λ (x : Option Rest). or_else x (longest (plain_by d ticks))) (shortest_none (tuplet_by d ticks) 10 (λ k a. no_tuplet k))
      ∙ plain_first)

-- ---- so many longas at once

counted_more : (m : ℕ) (n : Note) (f : Fill) → counted m (more n f) ≡ counted (m + 1) f
counted_more m n (Err e) = refl
counted_more m n (Ok ns) = ap Ok (omega arith)

module _ (d longa : ℕ) (is : ticks_of d 0 ≡ Some longa) where
  -- what the rest of the hole comes to behind n longas
  pub past_longas : (n m k room ticks : ℕ) → k ≡ m + n → n * longa < ticks → n ≤ room
      → counted k (fill_from (room - n) d (ticks - n * longa)) ≡ counted m (fill_from room d ticks)
  past_longas zero m k room ticks e long few =
      let i : k ≡ m = omega arith in
      let j : room - 0 ≡ room = omega arith in
      let t : ticks - 0 * longa ≡ ticks = omega (arith, zero-mul longa) in
      rw (i, j, t) refl
  past_longas (suc n) m k room ticks e long few =
      let times : suc n * longa ≡ longa + n * longa = omega arith in
      let j : room - suc n ≡ room - 1 - n = omega arith in
      let t : ticks - suc n * longa ≡ ticks - longa - n * longa = omega (arith, times) in
      rw (j, t)
      (past_longas n (m + 1) k (room - 1) (ticks - longa) (omega arith) (omega (arith, times, long)) (omega arith)
      ∙ sym (counted_more m (rest_note (rest 0 0 0 longa)) (fill_from (room - 1) d (ticks - longa)))
      ∙ sym (ap (counted m) (fill_more d ticks (λ z. omega arith) (sym (next_longa d ticks longa is (omega (arith, times, long)))) room (λ z. omega arith))))
