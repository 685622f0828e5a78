-- The ways out of `smallest`, `ratio_of`, `ratio_value` and `spelled_value`.
use mathlib.Core.Path.{◌≡◌, refl, sym, ap, ◌∙◌}
use mathlib.Core.Bool.{Bool, true, false, cond, ◌&&◌}
use mathlib.Core.List.{List, [], ◌∷◌}
use Prim.Native.Nat.{ℕ, zero, suc, ◌+◌, ◌-◌, ◌*◌, ◌/◌, ◌%◌, ◌^◌, ◌≤◌, ◌<◌}
use native.Mathlib.Nat.{mul-le-mul, mod-eq_of_lt, not-suc-le-zero, le_of_suc-le-suc}
use native.Mathlib.Numerals.{add-one}
use native.Mathlib.Omega.{arith}
use lib.Dec.{leb, eqb, ltb}
use lib.ListN.{length, take, drop, get_or}
use lib.Pow.{pow-lt}
use borrow.Author.Tests.{le-leb, lt-leb, eq-eqb, ne_eqb, ltb-false}
use Rattle.slices.proofs.PieceLaws.{rest}
use Rattle.slices.proofs.TestLaws.{clash, not_both}
use Rattle.duration.specs.Duration.{gcd_of, number, number_of, counts, duration_of}
use Rattle.duration.specs.Ratio.{smallest_of, reduced_at, ratio_at, ratio_of, ratio_value, counted_by, is_ratio, before_percent, behind_percent, spelled_value}
use Rattle.duration.specs.Reciprocal.{decimal}
use Rattle.duration.specs.declared.Value.{Value}
use Rattle.duration.specs.declared.Value.TheVariants.{Plain, Tuplet}
use Rattle.std.specs.Prelude.{Option, Some, None}
use Rattle.std.specs.List.{position, position_or_len}
use Rattle.std.proofs.lemmas.List.Quantifiers.{position-Some}
use Rattle.std.proofs.lemmas.List.Sums.{fails_before_first}
use Rattle.duration.proofs.Divisors.{gcd_positive, gcd_divides}
use Rattle.duration.proofs.Numbers.{each_digit, all_digits_lem, number_decimal}
use Rattle.duration.proofs.Kept.{Worth, counts_worth, worth_counts}
use Rattle.duration.proofs.Durations.{some_digit, told, parsed}
use Rattle.duration.proofs.Ratios.{Smallest, smallest_is, quotient_below}

-- a byte times a value's power fits 32 bits
pub shifted : (m v : ℕ) → m ≤ 255 → v ≤ 9 → m * 2 ^ v % 4294967296 ≡ m * 2 ^ v
shifted m v h l =
    let p : 2 ^ v < 2 ^ 10 = pow-lt {j = 10} (omega arith) in
    let q : m * 2 ^ v ≤ 255 * 1024 = mul-le-mul {m₂ = 1024} h (omega arith) in
    mod-eq_of_lt (let r : m * 2 ^ v < 4294967296 = omega arith in r)

-- ---- `smallest`: a value that serves is the one, of those up to it; one that doesn't is passed
smallest_next : (n m v : ℕ) → 2 ≤ v → smallest_of (v - 1) n m ≡ cond (leb (m * 2 ^ (v - 1)) (4 * n)) (v - 1) (smallest_of (v - 1 - 1) n m)
unfolding smallest_of
smallest_next n m zero h = absurd (omega arith)
smallest_next n m (suc zero) h = absurd (omega arith)
smallest_next n m (suc (suc v)) h = let e : suc (suc v) - 1 ≡ suc v = omega arith in let f : suc v - 1 ≡ v = omega arith in rw (e, f)

pub serves : (n m v : ℕ) → m ≤ 255 → v ≤ 10 → 2 ≤ v → m * 2 ^ (v - 1) % 4294967296 ≤ 4 * n → smallest_of (v - 1) n m ≡ v - 1
serves n m v b l h s = smallest_next n m v h ∙ rw (le-leb (m * 2 ^ (v - 1)) (4 * n) (rw (shifted m (v - 1) b (omega arith)) at s))

pub passes : (n m v : ℕ) → m ≤ 255 → v ≤ 10 → 2 ≤ v → 4 * n < m * 2 ^ (v - 1) % 4294967296 → smallest_of (v - 1) n m ≡ smallest_of (v - 1 - 1) n m
passes n m v b l h s = smallest_next n m v h ∙ rw (lt-leb (m * 2 ^ (v - 1)) (4 * n) (rw (shifted m (v - 1) b (omega arith)) at s))

pub smallest_none : (n m v : ℕ) → v ≤ 1 → smallest_of (v - 1) n m ≡ 0
unfolding smallest_of
smallest_none n m v h = let e : v - 1 ≡ 0 = omega arith in rw e

pub ruleset values = (serves, passes, smallest_none)

-- ---- `ratio_of`
pub above : (n m : ℕ) → 4 * n < m → None ≡ ratio_of n m
unfolding ratio_of
above n m h = sym (rw (lt-leb m (4 * n) h))

-- the value's part of the ratio
pub record Part (n m v : ℕ) : Type 0 where
  pub ten : v ≤ 9
  pub below : m * 2 ^ v ≤ 4 * n
  pub is : m * 2 ^ v % 4294967296 ≡ m * 2 ^ v
  pub value : ratio_of n m ≡ reduced_at v (4 * n) (m * 2 ^ v) (gcd_of (4 * n) (m * 2 ^ v))

pub part : {n m v : ℕ} → m ≤ 4 * n → m ≤ 255 → v ≡ smallest_of 9 n m → Part n m v
unfolding ratio_of ratio_at
part {n} {m} {v} h b e =
    let s : Smallest n m v = rw e (smallest_is n m h) in
    record { ten = s.ten; below = s.not_below; is = shifted m v b s.ten; value = rw (le-leb m (4 * n) h, e) }

module _ {n m v : ℕ} (p : Part n m v) where
  pub ratio_plain : 4 * n ≡ m * 2 ^ v → ratio_of n m ≡ Some (Plain v)
  unfolding reduced_at
  ratio_plain e = p.value ∙ rw (eq-eqb (4 * n) (m * 2 ^ v) e)

  -- a tuplet of q in the place of 4 n, divided by g
  module _ {q g : ℕ} (is : q ≡ m * 2 ^ v) (other : 4 * n ≡ q → ⊥) (divisor : g ≡ gcd_of (4 * n) q) where
    value : ratio_of n m ≡ cond (leb (4 * n / g) 255) (Some (Tuplet v (4 * n / g) (q / g))) None
    unfolding reduced_at
    value = p.value ∙ rw (← is, ne_eqb (4 * n) q other, divisor)

    pub ratio_high : 255 < 4 * n / g → ratio_of n m ≡ None
    ratio_high h = value ∙ rw (lt-leb (4 * n / g) 255 h)

    pub ratio_tuplet : 4 * n / g ≤ 255 → ratio_of n m ≡ Some (Tuplet v (4 * n / g) (q / g))
    ratio_tuplet h = value ∙ rw (le-leb (4 * n / g) 255 h)

    pub normal_fits : 4 * n / g ≤ 255 → q / g ≤ 255
    normal_fits h =
        let d = gcd_divides (4 * n) q in
        let l : q / gcd_of (4 * n) q < 4 * n / gcd_of (4 * n) q = quotient_below (4 * n) q (gcd_of (4 * n) q) d.0 d.1 (omega (arith, p.below)) in
        let k : q / g < 4 * n / g = rw divisor l in
        omega arith

pub ruleset ratios = (above, gcd_positive)

-- ---- `counted`
pub data Counted (s : List ℕ) (r : Option ℕ) : Type 0 where
  counted : Worth s → r ≡ Some (decimal s) → Counted s r
  uncounted : (Worth s → ⊥) → r ≡ None → Counted s r

pub counted_is : (s : List ℕ) → Counted s (counted_by s)
unfolding counted_by
counted_is s = go (counts s) refl
  where
    go : (t : Bool) → counts s ≡ t → Counted s (cond t (Some (number s)) None)
    go true e = counted (counts_worth s e) (ap Some (number_decimal s))
    go false e = uncounted (λ w. not_both (worth_counts s w) e) refl

pub uncounted_by : (s : List ℕ) → (Worth s → ⊥) → None ≡ counted_by s
uncounted_by s none = go (counted_is s)
  where
    go : Counted s (counted_by s) → None ≡ counted_by s
    go (counted w e) = absurd (none w)
    go (uncounted w e) = sym e

pub counted_long : (s : List ℕ) → 4 < length s → None ≡ counted_by s
counted_long s h = uncounted_by s (λ w. omega (arith, w.few))

pub counted_not : (s : List ℕ) → None ≡ number_of s → None ≡ counted_by s
counted_not s h = uncounted_by s (λ w. let t : Some (number s) ≡ number_of s = told s (all_digits_lem s w.each) refl in clash cc)

module _ (s : List ℕ) {n : ℕ} (is : Some n ≡ number_of s) where
  worth : decimal s ≡ n
  worth = sym (number_decimal s) ∙ (parsed s is).1

  pub counted_out : (1 ≤ n → n ≤ 255 → ⊥) → None ≡ counted_by s
  counted_out none = uncounted_by s (λ w. none (omega (arith, worth, w.low)) (omega (arith, worth, w.high)))

  pub counted_in : length s ≤ 4 → 1 ≤ n → n ≤ 255 → Some n ≡ counted_by s
  counted_in few low high = go (counted_is s)
    where
      go : Counted s (counted_by s) → Some n ≡ counted_by s
      go (counted w e) = ap Some (sym worth) ∙ sym e
      go (uncounted none e) =
          let pos : 1 ≤ decimal s = omega (arith, worth) in
          absurd (none (record { each = each_digit s (parsed s is).0; some = some_digit s pos; few = few; low = pos; high = omega (arith, worth) }))

pub ruleset counts_as = (counted_long, counted_not, counted_out, counted_in)

-- ---- `ratio_value`
pub counted_worth : (s : List ℕ) {k : ℕ} → Some k ≡ counted_by s → Worth s × (k ≡ decimal s)
counted_worth s {k} e = go (counted_is s)
  where
    go : Counted s (counted_by s) → Worth s × (k ≡ decimal s)
    go (counted w q) = (w, cc)
    go (uncounted none q) = clash cc

pub counted_range : (s : List ℕ) {k : ℕ} → Some k ≡ counted_by s → (1 ≤ k) × (k ≤ 255)
counted_range s e =
    let r = counted_worth s e in
    let w = r.0 in
    (omega (arith, r.1, w.low), omega (arith, r.1, w.high))

-- by the numbers of both
abbrev pub ratio_by : Option ℕ → Option ℕ → Option Value
ratio_by None m = None
ratio_by (Some n) None = None
ratio_by (Some n) (Some m) = ratio_of n m

pub ratio_value_by : (n m : List ℕ) → ratio_value n m ≡ ratio_by (counted_by n) (counted_by m)
unfolding ratio_value counted_by
ratio_value_by n m = go (counts n) (counts m)
  where
    go : (a b : Bool) → cond (a && b) (ratio_of (number n) (number m)) None ≡ ratio_by (cond a (Some (number n)) None) (cond b (Some (number m)) None)
    go true true = refl
    go true false = refl
    go false b = refl

pub ratio_first : (n m : List ℕ) → None ≡ counted_by n → None ≡ ratio_value n m
ratio_first n m e = sym (ratio_value_by n m ∙ rw (← e))

module _ (n m : List ℕ) {a : ℕ} (first : Some a ≡ counted_by n) where
  pub ratio_second : None ≡ counted_by m → None ≡ ratio_value n m
  ratio_second e = sym (ratio_value_by n m ∙ rw (← first, ← e))

  pub ratio_both : {b : ℕ} → Some b ≡ counted_by m → ratio_of a b ≡ ratio_value n m
  ratio_both e = sym (ratio_value_by n m ∙ rw (← first, ← e))

pub ruleset counted_ratios = (counted_range, ratio_first, ratio_second, ratio_both)

-- ---- `spelled_value`
-- the first `%` cuts it
cut : (s : List ℕ) (i : ℕ) → i < length s → eqb (get_or s i 0) 37 ≡ true → ((k : ℕ) → k < i → eqb (get_or s k 0) 37 ≡ false)
    → (is_ratio s ≡ true) × (before_percent s ≡ take i s) × (behind_percent s ≡ drop (suc i) s)
unfolding is_ratio before_percent behind_percent
cut [] i h e others = absurd (not-suc-le-zero h)
cut (x ∷ xs) zero h e others = rw e (refl, refl, refl)
cut (x ∷ xs) (suc i) h e others =
    let r = cut xs i (le_of_suc-le-suc h) e (λ k l. others (suc k) (omega arith)) in
    rw (others 0 (omega arith)) (r.0, ap (λ (l : List ℕ). x ∷ l) r.1, r.2)

uncut : (s : List ℕ) → ((k : ℕ) → k < length s → eqb (get_or s k 0) 37 ≡ false) → is_ratio s ≡ false
unfolding is_ratio
uncut [] others = refl
uncut (x ∷ xs) others = rw (others 0 (omega arith)) (uncut xs (λ k l. others (suc k) (omega arith)))

pub spelled_ratio : (s : List ℕ) {i : ℕ} {v : Option Value} → position (λ x. eqb x 37) s ≡ Some i
    → v ≡ ratio_value (take i s) (take (length s - (i + 1)) (drop (i + 1) s)) → v ≡ spelled_value s
unfolding spelled_value
spelled_ratio s {i} e q =
    let f = position-Some (λ x. eqb x 37) s i 0 e in
    let c = cut s i f.0 f.1 f.2 in
    q ∙ rw (rest s (i + 1), c.0, c.1, c.2, add-one i)

pub spelled_plain : (s : List ℕ) → position (λ x. eqb x 37) s ≡ None → duration_of s ≡ spelled_value s
unfolding spelled_value
spelled_plain s e = go (ltb (position_or_len (λ x. eqb x 37) s) (length s)) refl e
  where
    go : (t : Bool) → ltb (position_or_len (λ x. eqb x 37) s) (length s) ≡ t → cond t (Some (position_or_len (λ x. eqb x 37) s)) None ≡ None
        → duration_of s ≡ cond (is_ratio s) (ratio_value (before_percent s) (behind_percent s)) (duration_of s)
    go true h q = cc
    go false h q = let l : length s ≤ position_or_len (λ x. eqb x 37) s = ltb-false _ _ h in rw (uncut s (λ k b. fails_before_first (λ x. eqb x 37) s k 0 (omega arith)))
