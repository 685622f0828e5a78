-- Meters: each answer of the code, from the tests that led to it.
use mathlib.Core.Path.{◌≡◌, refl, sym, ◌∙◌}
use Prim.Native.Nat.{ℕ, ◌+◌, ◌-◌, ◌≤◌, ◌<◌}
use native.Mathlib.Omega.{arith}
use native.Mathlib.Numerals.{add-one}
use mathlib.Core.List.{List, [], ◌∷◌}
use mathlib.Core.Bool.{Bool, true, false, ◌&&◌, cond, beq, and-true}
use lib.Count.{ones, ones_in}
use lib.Dec.{T, eqb, leb, ltb}
use lib.ListN.{length, take, drop}
use lib.Pointwise.{pointwise}
use denote.Ref.{Bor}
use Rattle.std.proofs.Common.{Some, None, Option, Ok, Err, Result}
use Rattle.std.specs.Option.{MatchOption, unwrap_or}
use Rattle.std.specs.Result.{OkIff, result_ok}
use borrow.Author.Tests.{le-leb, lt-leb, lt-ltb, le-ltb, leb-true}
use Rattle.slices.specs.Finite.{below}
use Rattle.slices.specs.Split.{index_of}
use Rattle.slices.proofs.PieceLaws.{rest}
use Rattle.slices.proofs.TestLaws.{clash, both}
use Rattle.interpretation.proofs.DigitLaws.{number_not, number_is}
use Rattle.interpretation.specs.Digits.{all_digits, decimal}
use Rattle.interpretation.specs.Number.{number_up_to, byte_number}
use Rattle.interpretation.specs.Meter.{power_below, power_of_two, without_plus, meter_from, meter_of}
use Rattle.interpretation.specs.declared.Interpretation.{Interpretation}
use Rattle.interpretation.specs.declared.Interpretation.TheVariants.{Meter}
use Rattle.interpretation.specs.declared.Unsupported.{Unsupported}
use Rattle.interpretation.specs.declared.Unsupported.TheVariants.{OtherMeter}

module _ (s : List ℕ) where
  pub byte_none : length s ≡ 0 → None ≡ byte_number s
  unfolding byte_number
  byte_none e = let h : length s ≤ 0 = omega arith in rw (le-ltb _ _ h)

  pub byte_not : {r : Option ℕ} → (length s ≡ 0 → ⊥) → r ≡ number_up_to 256 s → r ≡ None → None ≡ byte_number s
  unfolding byte_number
  byte_not e p q = let h : 0 < length s = omega arith in rw (lt-ltb _ _ h, number_not 256 s p q)

  -- a number held at 256 fits a byte exactly where the whole number does
  pub byte_is : {r : Option ℕ} {n : ℕ} {E : Type 0} (t : Result ℕ E) → (length s ≡ 0 → ⊥) → r ≡ number_up_to 256 s → r ≡ Some n → OkIff t (n < 256) n → result_ok t ≡ byte_number s
  unfolding byte_number
  byte_is {r} {n} (Ok x) e p q i =
      let h : 0 < length s = omega arith in
      let is = number_is 256 s p q in
      let v : x ≡ decimal s = omega arith in
      let l : decimal s ≤ 255 = omega arith in
      rw (lt-ltb _ _ h, is.0, le-leb _ _ l, v)
  byte_is {r} {n} (Err x) e p q i =
      let h : 0 < length s = omega arith in
      let is = number_is 256 s p q in
      let big : 256 ≤ n = by_cases n i in
      let l : 255 < decimal s = omega arith in
      rw (lt-ltb _ _ h, is.0, lt-leb _ _ l)
    where
      by_cases : (n : ℕ) → (n < 256 → ⊥) → 256 ≤ n
      by_cases n h = omega arith

  pub byte_small : {r : Option ℕ} {n : ℕ} → r ≡ byte_number s → r ≡ Some n → n ≤ 255
  unfolding byte_number
  byte_small {r} {n} e q = go (ltb 0 (length s) && all_digits s && leb (decimal s) 255) refl e
    where
      go : (b : Bool) → (ltb 0 (length s) && all_digits s && leb (decimal s) 255) ≡ b → r ≡ cond b (Some (decimal s)) None → n ≤ 255
      go true t p =
          let v : n ≡ decimal s = cc in
          omega (arith, leb-true (decimal s) 255 (both (ltb 0 (length s) && all_digits s) (leb (decimal s) 255) t).1)
      go false t p = clash cc

-- a rule over all 256 numbers, computed
power_at : ℕ → Bool
power_at k = beq (eqb (ones k) 1) (power_of_two k)

beq_same : (a b : Bool) → T (beq a b) → a ≡ b
beq_same true true t = refl
beq_same true false t = absurd t
beq_same false true t = absurd t
beq_same false false t = refl

pub power_ones : (k : ℕ) → k < 256 → eqb (ones k) 1 ≡ power_of_two k
unfolding power_at ones ones_in power_of_two power_below
power_ones k h = beq_same (eqb (ones k) 1) (power_of_two k) (below power_at 256 tt k h)

-- the text behind the plus, or the text
pub plus_cut : (s : List ℕ) (o : Option (Bor (List ℕ))) (t : Bor (List ℕ)) → t.now ≡ s
    → MatchOption o (pointwise eqb (take 1 s) (43 ∷ []) ≡ false) (λ x. (pointwise eqb (take 1 s) (43 ∷ []) ≡ true) × (x.now ≡ drop 1 s) × (length x.now + 1 ≡ length s))
    → (unwrap_or o t).now ≡ without_plus s
unfolding without_plus
plus_cut [] None t e m = e
plus_cut (x ∷ s) None t e m = e ∙ rw (sym (and-true (eqb x 43)) ∙ m)
plus_cut [] (Some p) t e m = let f : false ≡ true = m.0 in cc
plus_cut (x ∷ s) (Some p) t e m = m.1 ∙ rw (sym (and-true (eqb x 43)) ∙ m.0)

-- the numbers of the two texts
module _ (before behind : List ℕ) {r : Option ℕ} (e : r ≡ byte_number before) where
  pub meter_before : r ≡ None → Err OtherMeter ≡ meter_from (byte_number before) (byte_number behind)
  unfolding meter_from
  meter_before n = rw (sym e ∙ n)

  module _ {n : ℕ} (i : r ≡ Some n) {q : Option ℕ} (f : q ≡ byte_number behind) where
    pub meter_behind : q ≡ None → Err OtherMeter ≡ meter_from (byte_number before) (byte_number behind)
    unfolding meter_from
    meter_behind n = rw (sym e ∙ i, sym f ∙ n)

    module _ {d : ℕ} (j : q ≡ Some d) where
      pub meter_zero : n ≡ 0 → Err OtherMeter ≡ meter_from (byte_number before) (byte_number behind)
      unfolding meter_from
      meter_zero z = let h : n ≤ 0 = omega arith in rw (sym e ∙ i, sym f ∙ j, le-ltb _ _ h)

      pub meter_some : {b : Bool} → (n ≡ 0 → ⊥) → b ≡ power_of_two d → b ≡ true → Ok (Meter n d) ≡ meter_from (byte_number before) (byte_number behind)
      unfolding meter_from
      meter_some z p t = let h : 0 < n = omega arith in rw (sym e ∙ i, sym f ∙ j, lt-ltb _ _ h, sym p ∙ t)

      pub meter_other : {b : Bool} → (n ≡ 0 → ⊥) → b ≡ power_of_two d → b ≡ false → Err OtherMeter ≡ meter_from (byte_number before) (byte_number behind)
      unfolding meter_from
      meter_other z p t = let h : 0 < n = omega arith in rw (sym e ∙ i, sym f ∙ j, lt-ltb _ _ h, sym p ∙ t)

-- the text cut at its first `/`
pub uncut : (s : List ℕ) → length s ≡ index_of 47 s → Err OtherMeter ≡ meter_of s
unfolding meter_of
uncut s e = let h : length s ≤ index_of 47 s = omega arith in rw (le-ltb _ _ h)

module _ (s : List ℕ) {at : ℕ} (found : (at ≡ index_of 47 s) × (at < length s)) where
  pub cut : {r : Result Interpretation Unsupported} {behind : List ℕ} → behind ≡ without_plus (take (length s - (at + 1)) (drop (at + 1) s))
      → r ≡ meter_from (byte_number (take at s)) (byte_number behind) → r ≡ meter_of s
  unfolding meter_of
  cut p e =
      let h : index_of 47 s < length s = omega arith in
      e ∙ rw (lt-ltb _ _ h, p, rest s (at + 1), add-one at, found.0)

-- the ways out of `byte_number`
pub ruleset bytes = (byte_none, byte_not, byte_is)

-- the ways out of `meter_from`
pub ruleset meters = (meter_before, meter_behind, byte_small, meter_zero, meter_other, power_ones, meter_some)
