-- Which texts write a value: exactly `0`, `00`, and one to four digits worth 1 to 255.
use mathlib.Core.Path.{◌≡◌, refl, ap}
use mathlib.Core.Logic.{◌↔◌, ◌⊎◌, inl, inr}
use mathlib.Core.Bool.{Bool, true, false, cond, ◌&&◌}
use mathlib.Core.List.{List, [], ◌∷◌}
use Prim.Native.Nat.{ℕ, ◌≤◌, ◌<◌}
use lib.Dec.{leb}
use lib.ListN.{length, get_or}
use borrow.Author.Tests.{le-leb, leb-true}
use Rattle.slices.specs.Compare.{same_bytes}
use Rattle.slices.proofs.CompareLaws.{same_is}
use Rattle.slices.proofs.TestLaws.{clash, both, not_both}
use Rattle.duration.specs.Duration.{digits, number, counts, written, duration_of}
use Rattle.duration.specs.Reciprocal.{decimal}
use Rattle.duration.specs.declared.Value.{Value}
use Rattle.duration.specs.declared.Value.TheVariants.{Plain}
use Rattle.std.specs.Prelude.{Option, Some, None}
use Rattle.duration.proofs.Numbers.{each_digit, all_digits_lem, number_decimal}

-- "1 to 4 digits worth 1 to 255"
pub record Worth (s : List ℕ) : Type 0 where
  pub each : (i : ℕ) → i < length s → (48 ≤ get_or s i 0) × (get_or s i 0 ≤ 57)
  pub some : 1 ≤ length s
  pub few : length s ≤ 4
  pub low : 1 ≤ decimal s
  pub high : decimal s ≤ 255

pub counts_worth : (s : List ℕ) → counts s ≡ true → Worth s
unfolding counts
counts_worth s e =
    let d = both (digits s && leb 1 (length s) && leb (length s) 4 && leb 1 (number s)) (leb (number s) 255) e in
    let c = both (digits s && leb 1 (length s) && leb (length s) 4) (leb 1 (number s)) d.0 in
    let b = both (digits s && leb 1 (length s)) (leb (length s) 4) c.0 in
    let a = both (digits s) (leb 1 (length s)) b.0 in
    record {
      each = each_digit s a.0;
      some = leb-true _ _ a.1;
      few = leb-true _ _ b.1;
      low = rw (← number_decimal s) (leb-true _ _ c.1);
      high = rw (← number_decimal s) (leb-true _ _ d.1);
    }

pub worth_counts : (s : List ℕ) → Worth s → counts s ≡ true
unfolding counts
worth_counts s w =
    rw (all_digits_lem s w.each, number_decimal s, le-leb 1 (length s) w.some, le-leb (length s) 4 w.few, le-leb 1 (decimal s) w.low, le-leb (decimal s) 255 w.high)

-- what a text writes, by cases
pub data Outcome (s : List ℕ) (r : Option Value) : Type 0 where
  breve : s ≡ 48 ∷ [] → r ≡ Some (Plain 1) → Outcome s r
  longa : s ≡ 48 ∷ 48 ∷ [] → r ≡ Some (Plain 0) → Outcome s r
  reciprocal : Worth s → r ≡ Some (written (decimal s)) → Outcome s r
  none : (s ≡ 48 ∷ [] → ⊥) → (s ≡ 48 ∷ 48 ∷ [] → ⊥) → (Worth s → ⊥) → r ≡ None → Outcome s r

same_self : (p s : List ℕ) → s ≡ p → same_bytes p p ≡ true → same_bytes p s ≡ true
same_self p s e h = rw e h

pub outcome : (s : List ℕ) → Outcome s (duration_of s)
unfolding duration_of same_bytes
outcome s = go (same_bytes (48 ∷ []) s) (same_bytes (48 ∷ 48 ∷ []) s) (counts s) refl refl refl
  where
    go : (a b c : Bool) → same_bytes (48 ∷ []) s ≡ a → same_bytes (48 ∷ 48 ∷ []) s ≡ b → counts s ≡ c
        → Outcome s (cond a (Some (Plain 1)) (cond b (Some (Plain 0)) (cond c (Some (written (number s))) None)))
    go true b c p q r = breve (same_is (48 ∷ []) s p) refl
    go false true c p q r = longa (same_is (48 ∷ 48 ∷ []) s q) refl
    go false false true p q r = reciprocal (counts_worth s r) (ap (λ (k : ℕ). Some (written k)) (number_decimal s))
    go false false false p q r =
        none (λ e. not_both (same_self _ s e refl) p) (λ e. not_both (same_self _ s e refl) q) (λ w. not_both (worth_counts s w) r) refl

-- "`0` (breve), `00` (longa), or 1 to 4 digits worth 1 to 255"
abbrev pub Valued : List ℕ → Type 0
Valued s = (s ≡ 48 ∷ []) ⊎ ((s ≡ 48 ∷ 48 ∷ []) ⊎ Worth s)

-- "A reciprocal has a value exactly for" those
pub kept : (s : List ℕ) → (duration_of s ≡ None → ⊥) ↔ Valued s
kept s = (λ h. to h (outcome s), λ v m. from m v (outcome s))
  where
    to : (duration_of s ≡ None → ⊥) → Outcome s (duration_of s) → Valued s
    to h (breve e r) = inl e
    to h (longa e r) = inr (inl e)
    to h (reciprocal w r) = inr (inr w)
    to h (none a b c r) = absurd (h r)

    from : duration_of s ≡ None → Valued s → Outcome s (duration_of s) → ⊥
    from m v (breve e r) = clash cc
    from m v (longa e r) = clash cc
    from m v (reciprocal w r) = clash cc
    from m (inl e) (none a b c r) = a e
    from m (inr (inl e)) (none a b c r) = b e
    from m (inr (inr w)) (none a b c r) = c w
