-- Decimal digits: what the loop of `parse` keeps, and that reading from the left gives the number of the places.
use mathlib.Core.Path.{◌≡◌, refl, sym, ap, ◌∙◌}
use mathlib.Core.Bool.{true, false, cond, ◌&&◌}
use mathlib.Core.List.{List, [], ◌∷◌}
use Prim.Native.Nat.{ℕ, zero, suc, ◌+◌, ◌-◌, ◌*◌, ◌^◌, ◌≤◌, ◌<◌}
use native.Mathlib.Nat.{pow-suc, le_of_suc-le-suc, not-suc-le-zero, mul_assoc, mul_comm, add-mul}
use native.Mathlib.Numerals.{add-one}
use native.Mathlib.Omega.{arith}
use lib.Dec.{leb, lit<}
use lib.ListN.{length, get_or, drop, drop_of_length-le}
use lib.Seq.{drop-cons}
use borrow.Author.Tests.{le-leb, leb-true}
use Rattle.slices.proofs.TestLaws.{both}
use Rattle.duration.specs.Duration.{digit, digits, number_from, number, number_of}
use Rattle.duration.specs.Reciprocal.{decimal}
use Rattle.std.specs.Prelude.{Option, Some, None}

-- what a text writes after n
abbrev after : ℕ → List ℕ → Option ℕ
after n s = cond (digits s) (Some (number_from n s)) None

after_more : (n x : ℕ) (s : List ℕ) → after n (x ∷ s) ≡ cond (digit x && digits s) (Some (number_from (n * 10 + (x - 48)) s)) None
unfolding digits number_from
after_more n x s = refl

after_end : (n : ℕ) → after n [] ≡ Some n
unfolding digits number_from
after_end n = refl

-- what a digit is
pub digit_range : (x : ℕ) → digit x ≡ true → (48 ≤ x) × (x ≤ 57)
digit_range x e = let b = both (leb 48 x) (leb x 57) e in (leb-true 48 x b.0, leb-true x 57 b.1)

-- the loop of `parse`: the digits from i on decide, and n has at most i places
pub record Parse (s : List ℕ) (n i : ℕ) : Type 0 where
  pub high : i ≤ length s
  pub small : n < 10 ^ i
  pub same : number_of s ≡ cond (digits (drop i s)) (Some (number_from n (drop i s))) None

pub parse_first : {s : List ℕ} → Parse s 0 0
unfolding number_of
parse_first = record { high = omega arith; small = lit< tt; same = refl }

module _ {s : List ℕ} {n i : ℕ} (inv : Parse s n i) where
  at_index : i < length s
      → number_of s
      ≡ cond (digit (get_or s i 0) && digits (drop (i + 1) s)) (Some (number_from (n * 10 + (get_or s i 0 - 48)) (drop (i + 1) s))) None
  at_index h = inv.same ∙ rw (drop-cons s i 0 h, add-one) (after_more n (get_or s i 0) (drop (suc i) s))

  pub parse_stop : i < length s → digit (get_or s i 0) ≡ false → None ≡ number_of s
  parse_stop h d = sym (at_index h ∙ rw d)

  pub parse_turn : i < length s → digit (get_or s i 0) ≡ true → Parse s (n * 10 + (get_or s i 0 - 48)) (i + 1)
  parse_turn h d =
      let r = digit_range (get_or s i 0) d in
      record {
        high = omega arith;
        small = rw (add-one, pow-suc) (omega (arith, inv.small));
        same = at_index h ∙ rw d;
      }

  pub parse_past : length s ≤ i → Some n ≡ number_of s
  parse_past h = sym (inv.same ∙ rw (drop_of_length-le s h) (after_end n))

pub first_digit : (x : ℕ) (s : List ℕ) → digits (x ∷ s) ≡ true → (48 ≤ x) × (x ≤ 57) × (digits s ≡ true)
unfolding digits
first_digit x s e =
    let b = both (digit x) (digits s) e in
    let r = digit_range x b.0 in
    (r.0, r.1, b.1)

-- all bytes are digits exactly where each is
pub each_digit : (s : List ℕ) → digits s ≡ true → (i : ℕ) → i < length s → (48 ≤ get_or s i 0) × (get_or s i 0 ≤ 57)
each_digit [] e i h = absurd (not-suc-le-zero h)
each_digit (x ∷ s) e zero h = let r = first_digit x s e in (r.0, r.1)
each_digit (x ∷ s) e (suc i) h = each_digit s (first_digit x s e).2 i (le_of_suc-le-suc h)

pub all_digits_lem : (s : List ℕ) → ((i : ℕ) → i < length s → (48 ≤ get_or s i 0) × (get_or s i 0 ≤ 57)) → digits s ≡ true
unfolding digits
all_digits_lem [] f = refl
all_digits_lem (x ∷ s) f =
    let r = f 0 (omega arith) in
    rw (le-leb 48 x r.0, le-leb x 57 r.1) (all_digits_lem s (λ i h. f (suc i) (omega arith)))

-- the number read from the left is that of the places
from_left : (n : ℕ) (s : List ℕ) → number_from n s ≡ n * 10 ^ length s + decimal s
unfolding number_from decimal
from_left n [] = omega arith
from_left n (x ∷ s) =
    let ih : number_from (n * 10 + (x - 48)) s ≡ (n * 10 + (x - 48)) * 10 ^ length s + decimal s = from_left (n * 10 + (x - 48)) s in
    let d : (n * 10 + (x - 48)) * 10 ^ length s ≡ n * 10 * 10 ^ length s + (x - 48) * 10 ^ length s = add-mul (n * 10) (x - 48) (10 ^ length s) in
    let p : 10 ^ suc (length s) ≡ 10 ^ length s * 10 = pow-suc 10 (length s) in
    let m : n * 10 * 10 ^ length s ≡ n * (10 ^ length s * 10) = mul_assoc n 10 (10 ^ length s) ∙ ap (λ (k : ℕ). n * k) (mul_comm 10 (10 ^ length s)) in
    let q : n * 10 ^ suc (length s) ≡ n * (10 ^ length s * 10) = ap (λ (k : ℕ). n * k) p in
    omega arith

pub number_decimal : (s : List ℕ) → number s ≡ decimal s
number_decimal s = from_left 0 s ∙ (omega arith)

-- how the loop of `parse` goes
pub ruleset parsing = (parse_first, parse_stop, parse_past)
