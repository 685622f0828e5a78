-- Digits: the loop that reads a number and holds it at a bound, and the number of two runs of digits in a row.
use mathlib.Core.Path.{◌≡◌, refl, ap, ◌∙◌}
use Prim.Native.Nat.{ℕ, ◌+◌, ◌-◌, ◌*◌, ◌≤◌, ◌<◌, min}
use native.Mathlib.Nat.{min-eq_left}
use native.Mathlib.Omega.{arith}
use mathlib.Core.List.{List, [], ◌∷◌}
use mathlib.Core.Bool.{Bool, true, false, ◌&&◌, cond}
use lib.Dec.{leb}
use lib.ListN.{length, drop, get_or, drop_of_length-le}
use borrow.Author.Tests.{leb-true, leb-false}
use Rattle.std.proofs.Common.{Option, Some, None}
use Rattle.slices.proofs.SplitLaws.{at_index}
use Rattle.slices.proofs.TestLaws.{both}
use Rattle.interpretation.specs.Digits.{is_digit, all_digits, decimal_on, decimal}
use Rattle.interpretation.specs.Number.{number_up_to}

pub digit_bounds : (x : ℕ) → is_digit x ≡ true → (48 ≤ x) × (x ≤ 57)
unfolding is_digit
digit_bounds x e =
    let p = both (leb 48 x) (leb x 57) e in
    (leb-true 48 x p.0, leb-true x 57 p.1)

-- the digits that follow never make a number less
grows : (xs : List ℕ) (n : ℕ) → n ≤ decimal_on n xs
unfolding decimal_on
grows [] n = omega arith
grows (x ∷ xs) n = let h = grows xs (n * 10 + (x - 48)) in omega arith

-- a number may be held at the bound before its last digits are read
held : (xs : List ℕ) (n most : ℕ) → min (decimal_on n xs) most ≡ min (decimal_on (min n most) xs) most
held xs n most = go (leb n most) refl
  where
    go : (b : Bool) → leb n most ≡ b → min (decimal_on n xs) most ≡ min (decimal_on (min n most) xs) most
    go true e = rw (min-eq_left (leb-true n most e))
    go false e =
        let h : most < n = leb-false n most e in
        let m : min n most ≡ most = omega arith in
        rw m (omega (arith, grows xs n, grows xs most))

-- the loop: what is left from i on decides, and follows the number read so far
pub record Reading (s : List ℕ) (most n i : ℕ) : Type 0 where
  pub high : i ≤ length s
  pub low : n ≤ most
  pub digits : all_digits s ≡ all_digits (drop i s)
  pub value : min (decimal s) most ≡ min (decimal_on n (drop i s)) most

pub reading_first : {s : List ℕ} {most : ℕ} → Reading s most 0 0
unfolding decimal
reading_first = record { high = omega arith; low = omega arith; digits = refl; value = refl }

module _ {s : List ℕ} {most n i : ℕ} (inv : Reading s most n i) where
  digits_at : i < length s → all_digits s ≡ (is_digit (get_or s i 0) && all_digits (drop (i + 1) s))
  unfolding all_digits
  digits_at h = inv.digits ∙ ap all_digits (at_index s i h)

  pub reading_turn : {m : ℕ} → i < length s → is_digit (get_or s i 0) ≡ true → m ≡ min (n * 10 + (get_or s i 0 - 48)) most → Reading s most m (i + 1)
  unfolding decimal_on
  reading_turn {m} h d e =
      record {
        high = omega arith;
        low = omega arith;
        digits = digits_at h ∙ rw d;
        value =
            inv.value
            ∙ ap (λ (l : List ℕ). min (decimal_on n l) most) (at_index s i h)
            ∙ held (drop (i + 1) s) (n * 10 + (get_or s i 0 - 48)) most
            ∙ rw e;
      }

  pub reading_not : i < length s → is_digit (get_or s i 0) ≡ false → None ≡ number_up_to most s
  unfolding number_up_to
  reading_not h d = rw (digits_at h, d)

  pub reading_past : length s ≤ i → Some n ≡ number_up_to most s
  unfolding number_up_to all_digits decimal_on
  reading_past h =
      let none : drop i s ≡ [] = drop_of_length-le s h in
      let d : all_digits s ≡ true = inv.digits ∙ ap all_digits none in
      let v : min (decimal s) most ≡ n = inv.value ∙ ap (λ (l : List ℕ). min (decimal_on n l) most) none ∙ min-eq_left inv.low in
      rw (d, v)

-- what a number that was read says of its text
pub number_not : (m : ℕ) (s : List ℕ) {r : Option ℕ} → r ≡ number_up_to m s → r ≡ None → all_digits s ≡ false
unfolding number_up_to
number_not m s {r} e q = go (all_digits s) e
  where
    go : (b : Bool) → r ≡ cond b (Some (min (decimal s) m)) None → b ≡ false
    go true p = cc
    go false p = refl

pub number_is : (m : ℕ) (s : List ℕ) {r : Option ℕ} {n : ℕ} → r ≡ number_up_to m s → r ≡ Some n → (all_digits s ≡ true) × (n ≡ min (decimal s) m)
unfolding number_up_to
number_is m s {r} {n} e q = go (all_digits s) e
  where
    go : (b : Bool) → r ≡ cond b (Some (min (decimal s) m)) None → (b ≡ true) × (n ≡ min (decimal s) m)
    go true p = (refl, cc)
    go false p = (cc, cc)

-- how the loop of `number_up_to` goes
pub ruleset reading = (reading_first, reading_not, reading_past)
