-- The ways out of `value_by`: what its tests on the length and the number say of the value.
use mathlib.Core.Path.{◌≡◌, refl, sym, ap, ◌∙◌}
use mathlib.Core.Bool.{Bool, true, false, cond}
use mathlib.Core.List.{List, [], ◌∷◌}
use Prim.Native.Nat.{ℕ, ◌^◌, ◌≤◌, ◌<◌}
use native.Mathlib.Omega.{arith}
use lib.ListN.{length}
use Rattle.slices.specs.Compare.{same_bytes}
use Rattle.slices.proofs.TestLaws.{clash}
use Rattle.duration.specs.Duration.{digits, number, number_from, number_of, written, duration_of}
use Rattle.duration.specs.Reciprocal.{decimal}
use Rattle.std.specs.Prelude.{Some, None}
use Rattle.duration.specs.declared.Value.TheVariants.{Plain}
use Rattle.duration.proofs.Numbers.{first_digit, each_digit, all_digits_lem, number_decimal}
use Rattle.duration.proofs.Kept.{Worth, Outcome, breve, longa, reciprocal, none, outcome}

-- the rules of the definition
missing : (s : List ℕ) → (s ≡ 48 ∷ [] → ⊥) → (s ≡ 48 ∷ 48 ∷ [] → ⊥) → (Worth s → ⊥) → None ≡ duration_of s
missing s a b c = go (outcome s)
  where
    go : Outcome s (duration_of s) → None ≡ duration_of s
    go (breve e r) = absurd (a e)
    go (longa e r) = absurd (b e)
    go (reciprocal w r) = absurd (c w)
    go (none _ _ _ r) = sym r

breve_value : duration_of (48 ∷ []) ≡ Some (Plain 1)
unfolding duration_of same_bytes
breve_value = refl

longa_value : duration_of (48 ∷ 48 ∷ []) ≡ Some (Plain 0)
unfolding duration_of same_bytes
longa_value = refl

pub worth_value : (s : List ℕ) → Worth s → Some (written (decimal s)) ≡ duration_of s
unfolding decimal
worth_value s w = go (outcome s)
  where
    go : Outcome s (duration_of s) → Some (written (decimal s)) ≡ duration_of s
    go (breve e r) = absurd (let z : decimal s ≡ 0 = ap decimal e in omega (arith, w.low))
    go (longa e r) = absurd (let z : decimal s ≡ 0 = ap decimal e in omega (arith, w.low))
    go (reciprocal _ r) = sym r
    go (none _ _ c r) = absurd (c w)

-- a number is written in digits alone, and zero in zeros
is_number : (t : Bool) (m n : ℕ) → Some n ≡ cond t (Some m) None → (t ≡ true) × (m ≡ n)
is_number true m n e = (refl, cc)
is_number false m n e = clash cc

pub some_digit : (s : List ℕ) → 1 ≤ decimal s → 1 ≤ length s
unfolding decimal
some_digit [] h = h
some_digit (x ∷ s) h = omega arith

one_zero : (s : List ℕ) → digits s ≡ true → decimal s ≡ 0 → length s ≡ 1 → s ≡ 48 ∷ []
unfolding decimal
one_zero [] d z l = absurd (omega arith)
one_zero (x ∷ []) d z l = let r = first_digit x [] d in let e : x ≡ 48 = omega arith in ap (λ (y : ℕ). y ∷ []) e
one_zero (x ∷ y ∷ s) d z l = absurd (omega arith)

two_zeros : (s : List ℕ) → digits s ≡ true → decimal s ≡ 0 → length s ≡ 2 → s ≡ 48 ∷ 48 ∷ []
unfolding decimal
two_zeros [] d z l = absurd (omega arith)
two_zeros (x ∷ []) d z l = absurd (omega arith)
two_zeros (x ∷ y ∷ []) d z l =
    let r = first_digit x (y ∷ []) d in
    let q = first_digit y [] r.2 in
    let p : 10 ^ 1 ≡ 10 = refl in
    let e : x ≡ 48 = omega arith in
    let f : y ≡ 48 = omega arith in
    cc
two_zeros (x ∷ y ∷ w ∷ s) d z l = absurd (omega arith)

-- each way out
pub too_long : (s : List ℕ) → 4 < length s → None ≡ duration_of s
too_long s h =
    missing s (λ e. let l : length s ≡ 1 = ap length e in omega arith) (λ e. let l : length s ≡ 2 = ap length e in omega arith)
    (λ w. omega arith)

pub no_digits : (s : List ℕ) → None ≡ number_of s → None ≡ duration_of s
unfolding number_of digits number_from
no_digits s h =
    missing s (λ e. apart 0 (h ∙ ap number_of e)) (λ e. apart 0 (h ∙ ap number_of e))
    (λ w. apart (number s) (h ∙ rw (all_digits_lem s w.each)))
  where
    apart : (n : ℕ) → None ≡ Some n → ⊥
    apart n e = clash cc

module _ (s : List ℕ) (n : ℕ) (is : Some n ≡ number_of s) where
  all : digits s ≡ true
  unfolding number_of
  all = (is_number (digits s) (number s) n is).0

  worth : decimal s ≡ n
  unfolding number_of
  worth = sym (number_decimal s) ∙ (is_number (digits s) (number s) n is).1

  pub is_breve : n ≡ 0 → length s ≡ 1 → Some (Plain 1) ≡ duration_of s
  is_breve z l = sym (ap duration_of (one_zero s all (worth ∙ z) l) ∙ breve_value)

  pub is_longa : n ≡ 0 → length s ≡ 2 → Some (Plain 0) ≡ duration_of s
  is_longa z l = sym (ap duration_of (two_zeros s all (worth ∙ z) l) ∙ longa_value)

  pub is_written : (n ≡ 0 → ⊥) → n ≤ 255 → length s ≤ 4 → Some (written n) ≡ duration_of s
  is_written nz h l =
      let pos : 1 ≤ decimal s = omega (arith, worth) in
      ap (λ (k : ℕ). Some (written k)) (sym worth)
      ∙ worth_value s
      (record { each = each_digit s all; some = some_digit s pos; few = l; low = pos; high = omega (arith, worth) })

-- digits, and the number that they write
pub told : (s : List ℕ) {n : ℕ} → digits s ≡ true → number s ≡ n → Some n ≡ number_of s
unfolding number_of
told s d e = rw (d, e)

pub parsed : (s : List ℕ) {n : ℕ} → Some n ≡ number_of s → (digits s ≡ true) × (number s ≡ n)
unfolding number_of
parsed s {n} e = is_number (digits s) (number s) n e

-- no value: neither `0` nor `00`, nor 1 to 255 in at most four digits
pub no_value : (s : List ℕ) {n : ℕ} → digits s ≡ true → number s ≡ n → (n ≡ 0 → length s ≡ 1 → ⊥) → (n ≡ 0 → length s ≡ 2 → ⊥)
    → (1 ≤ n → n ≤ 255 → length s ≤ 4 → ⊥) → None ≡ duration_of s
unfolding decimal
no_value s {n} d e a b c =
    let w : decimal s ≡ n = worth s n (told s d e) in
    missing s (λ q. let z : decimal s ≡ 0 = ap decimal q in a (omega arith) (ap length q)) (λ q. let z : decimal s ≡ 0 = ap decimal q in b (omega arith) (ap length q))
    (λ x. c (omega (arith, x.low)) (omega (arith, x.high)) x.few)

-- the ways out of `value_by`
pub ruleset valued = (is_breve, told, is_longa, is_written, no_value)

-- the ways out of `kern_duration`
pub ruleset reciprocals = (too_long, no_digits, parsed)
