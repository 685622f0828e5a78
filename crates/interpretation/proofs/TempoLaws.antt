-- Tempos: the number of two runs of digits in a row, and each answer of the code.
use mathlib.Core.Path.{◌≡◌, refl, sym, ap, ◌∙◌}
use Prim.Native.Nat.{ℕ, suc, ◌+◌, ◌-◌, ◌*◌, ◌/◌, ◌^◌, ◌≤◌, ◌<◌, min}
use native.Mathlib.Nat.{pow-succ', one-le-pow, pow-le-pow_right, mul-le-mul, mul-le-mul_right, min-eq_left, div-lt_iff_lt-mul, le-div_iff_mul-le}
use native.Mathlib.Numerals.{add-one}
use native.Mathlib.Omega.{arith}
use mathlib.Core.List.{List, [], ◌∷◌, ◌++◌}
use mathlib.Core.Bool.{Bool, true, false, ◌&&◌, cond, and-false}
use lib.Dec.{leb}
use lib.ListN.{length, take, drop, drop_of_length-le}
use lib.Seq.{take-length}
use borrow.Author.Tests.{le-leb, lt-leb, leb-true, leb-false}
use Rattle.std.proofs.Common.{Some, None, Option, Err, Result}
use Rattle.slices.specs.Split.{index_of}
use Rattle.slices.proofs.PieceLaws.{rest}
use Rattle.slices.proofs.TestLaws.{both}
use Rattle.interpretation.proofs.DigitLaws.{digit_bounds, number_not, number_is}
use Rattle.interpretation.specs.Digits.{is_digit, all_digits, decimal_on, decimal}
use Rattle.interpretation.specs.Number.{number_up_to}
use Rattle.interpretation.specs.Tempo.{rounded, tempo_from, tempo_of}
use Rattle.interpretation.specs.declared.Interpretation.{Interpretation}
use Rattle.interpretation.specs.declared.Unsupported.{Unsupported}
use Rattle.interpretation.specs.declared.Unsupported.TheVariants.{OtherTempo}

-- ---- the powers of ten
pub unit_bounds : (k : ℕ) → k ≤ 9 → (0 < 10 ^ k) × (10 ^ k ≤ 1000000000)
unit_bounds k h =
    let ten : 0 < 10 = omega arith in
    let m : 10 ^ k ≤ 10 ^ 9 = pow-le-pow_right ten h in
    (one-le-pow k 10 ten, m)

-- ---- digits in a row
digits_append : (a b : List ℕ) → all_digits (a ++ b) ≡ (all_digits a && all_digits b)
unfolding all_digits
digits_append [] b = refl
digits_append (x ∷ a) b = go (is_digit x) (digits_append a b)
  where
    go : (d : Bool) → all_digits (a ++ b) ≡ (all_digits a && all_digits b) → (d && all_digits (a ++ b)) ≡ ((d && all_digits a) && all_digits b)
    go true e = e
    go false e = refl

on_append : (a b : List ℕ) (n : ℕ) → decimal_on n (a ++ b) ≡ decimal_on (decimal_on n a) b
unfolding decimal_on
on_append [] b n = refl
on_append (x ∷ a) b n = on_append a b (n * 10 + (x - 48))

on_length : (xs : List ℕ) (n : ℕ) → decimal_on n xs ≡ n * 10 ^ length xs + decimal xs
unfolding decimal_on decimal
on_length [] n = omega arith
on_length (x ∷ xs) n =
    let p : 10 ^ suc (length xs) ≡ 10 * 10 ^ length xs = pow-succ' 10 (length xs) in
    rw p (omega (arith, on_length xs (n * 10 + (x - 48)), on_length xs (0 * 10 + (x - 48))))

decimal_append : (a b : List ℕ) → decimal (a ++ b) ≡ decimal a * 10 ^ length b + decimal b
unfolding decimal
decimal_append a b = on_append a b 0 ∙ on_length b (decimal_on 0 a)

-- digits write less than the power of ten of their number
below_unit : (xs : List ℕ) → all_digits xs ≡ true → decimal xs < 10 ^ length xs
unfolding all_digits decimal decimal_on
below_unit [] h = omega arith
below_unit (x ∷ xs) h =
    let p : 10 ^ suc (length xs) ≡ 10 * 10 ^ length xs = pow-succ' 10 (length xs) in
    let t = both (is_digit x) (all_digits xs) h in
    let b = digit_bounds x t.0 in
    let d : 0 * 10 + (x - 48) ≤ 9 = omega arith in
    let v : decimal_on (0 * 10 + (x - 48)) xs ≡ (0 * 10 + (x - 48)) * 10 ^ length xs + decimal xs = on_length xs (0 * 10 + (x - 48)) in
    rw (p, v) (omega (arith, mul-le-mul_right (10 ^ length xs) d, below_unit xs t.1))

-- ---- the range and the rounding
module _ (n unit : ℕ) where
  pub rounded_under : n < unit → Err OtherTempo ≡ rounded n unit
  unfolding rounded
  rounded_under h = rw (lt-leb _ _ h)

  pub rounded_over : 65535 * unit < n → Err OtherTempo ≡ rounded n unit
  unfolding rounded
  rounded_over h = let g : unit ≤ n = omega arith in rw (le-leb _ _ g, lt-leb _ _ h)

  pub rounded_most : 0 < unit → n ≤ 65535 * unit → (2 * n + unit) / (2 * unit) < 65536
  rounded_most p h =
      let q : 0 < 2 * unit = omega arith in
      (div-lt_iff_lt-mul {k = 2 * unit} {x = 2 * n + unit} {y = 65536} q).1 (omega arith)

  pub rounded_least : 0 < unit → unit ≤ n → 1 ≤ (2 * n + unit) / (2 * unit)
  rounded_least p h =
      let q : 0 < 2 * unit = omega arith in
      (le-div_iff_mul-le {k = 2 * unit} {x = 1} {y = 2 * n + unit} q).1 (omega arith)

-- a whole part that was held at 65,536 is out of range as it was before
held_rounded : (w unit f : ℕ) → 0 < unit → rounded (min w 65536 * unit + f) unit ≡ rounded (w * unit + f) unit
held_rounded w unit f p = go (leb w 65536) refl
  where
    go : (b : Bool) → leb w 65536 ≡ b → rounded (min w 65536 * unit + f) unit ≡ rounded (w * unit + f) unit
    go true e = rw (min-eq_left (leb-true w 65536 e))
    go false e =
        let h : 65536 < w = leb-false w 65536 e in
        let m : min w 65536 ≡ 65536 = omega arith in
        let k : 65536 ≤ w = omega arith in
        let l : 65535 * unit < w * unit + f = omega (arith, mul-le-mul_right unit k) in
        let o : 65535 * unit < 65536 * unit + f = omega arith in
        rw m (sym (rounded_over (65536 * unit + f) unit o) ∙ rounded_over (w * unit + f) unit l)

no_digit : (xs : List ℕ) → length xs < 1 → decimal xs ≡ 0
unfolding decimal decimal_on
no_digit [] h = refl
no_digit (x ∷ xs) h = absurd (omega arith)

-- ---- the digits before and behind the point
module _ (whole fraction : List ℕ) where
  pub long_fraction : 9 < length fraction → Err OtherTempo ≡ tempo_from whole fraction
  unfolding tempo_from
  long_fraction h = rw (lt-leb _ _ h, and-false (all_digits (whole ++ fraction) && leb 1 (length (whole ++ fraction))))

  pub whole_not : {r : Option ℕ} → r ≡ number_up_to 65536 whole → r ≡ None → Err OtherTempo ≡ tempo_from whole fraction
  unfolding tempo_from
  whole_not e n = rw (digits_append whole fraction, number_not 65536 whole e n)

  pub fraction_not : {r : Option ℕ} → r ≡ number_up_to 1000000000 fraction → r ≡ None → Err OtherTempo ≡ tempo_from whole fraction
  unfolding tempo_from
  fraction_not e n = rw (digits_append whole fraction, number_not 1000000000 fraction e n, and-false (all_digits whole))

  -- without a digit the number is 0, so that the range refuses it as well
  in_range : all_digits whole ≡ true → all_digits fraction ≡ true → length fraction ≤ 9 → rounded (decimal (whole ++ fraction)) (10 ^ length fraction) ≡ tempo_from whole fraction
  unfolding tempo_from
  in_range a b h = go (leb 1 (length (whole ++ fraction))) refl
    where
      all_digits_lem : all_digits (whole ++ fraction) ≡ true
      all_digits_lem = digits_append whole fraction ∙ rw (a, b)

      go : (t : Bool) → leb 1 (length (whole ++ fraction)) ≡ t
          → rounded (decimal (whole ++ fraction)) (10 ^ length fraction)
          ≡ cond (all_digits (whole ++ fraction) && leb 1 (length (whole ++ fraction)) && leb (length fraction) 9) (rounded (decimal (whole ++ fraction)) (10 ^ length fraction)) (Err OtherTempo)
      go true e = rw (all_digits_lem, e, le-leb _ _ h)
      go false e =
          let none : decimal (whole ++ fraction) ≡ 0 = no_digit (whole ++ fraction) (leb-false 1 (length (whole ++ fraction)) e) in
          let low : decimal (whole ++ fraction) < 10 ^ length fraction = omega (arith, (unit_bounds (length fraction) h).0) in
          rw (all_digits_lem, e) (sym (rounded_under (decimal (whole ++ fraction)) (10 ^ length fraction) low))

module _ (whole fraction : List ℕ) {r q : Option ℕ} {w f : ℕ} (e : r ≡ number_up_to 65536 whole) (i : r ≡ Some w)
    (g : q ≡ number_up_to 1000000000 fraction) (j : q ≡ Some f) (h : length fraction ≤ 9) where
  pub parts_fit : {unit : ℕ} → unit ≡ 10 ^ length fraction → (w * unit + f < 281474976710656) × (0 < unit) × (unit ≤ 1000000000)
  parts_fit {unit} u =
      let a = number_is 65536 whole e i in
      let b = number_is 1000000000 fraction g j in
      let p = unit_bounds (length fraction) h in
      let wide : w ≤ 65536 = omega arith in
      let most : unit ≤ 1000000000 = omega arith in
      let m : w * unit ≤ 65536 * 1000000000 = mul-le-mul wide most in
      omega arith

  pub tempo_by : {unit : ℕ} {s : Result Interpretation Unsupported} → unit ≡ 10 ^ length fraction → s ≡ rounded (w * unit + f) unit → s ≡ tempo_from whole fraction
  tempo_by {unit} u s =
      let a = number_is 65536 whole e i in
      let b = number_is 1000000000 fraction g j in
      let p = unit_bounds (length fraction) h in
      let all : f ≡ decimal fraction = omega (arith, below_unit fraction b.0) in
      s
      ∙ rw (u, a.1, all)
      (held_rounded (decimal whole) (10 ^ length fraction) (decimal fraction) p.0
      ∙ ap (λ (n : ℕ). rounded n (10 ^ length fraction)) (sym (decimal_append whole fraction))
      ∙ in_range whole fraction a.0 b.0 h)

-- the text cut at its first point, or without one
pub tempo_cut : (s : List ℕ) {at : ℕ} {r : Result Interpretation Unsupported} → (at ≡ index_of 46 s) × (at < length s)
    → r ≡ tempo_from (take at s) (take (length s - (at + 1)) (drop (at + 1) s)) → r ≡ tempo_of s
unfolding tempo_of
tempo_cut s {at} found e = e ∙ rw (rest s (at + 1), add-one at, found.0)

pub tempo_whole : (s : List ℕ) {r : Result Interpretation Unsupported} → length s ≡ index_of 46 s → r ≡ tempo_from s [] → r ≡ tempo_of s
unfolding tempo_of
tempo_whole s h e =
    let l : length s ≤ suc (length s) = omega arith in
    e ∙ rw (← h, take-length s, drop_of_length-le s l)

-- the early ways out of `tempo_from`
pub ruleset tempos = (long_fraction, whole_not, fraction_not)
