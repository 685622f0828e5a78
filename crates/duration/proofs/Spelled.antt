-- A length as it is spelled, n or n%m: which has a value, and that its value with its dots lasts what the text says.
use mathlib.Core.Path.{◌≡◌, refl, sym, ◌∙◌}
use mathlib.Core.Logic.{◌↔◌}
use mathlib.Core.Bool.{Bool, true, false, cond}
use mathlib.Core.List.{List, [], ◌∷◌}
use Prim.Native.Nat.{ℕ, zero, suc, ◌*◌, ◌≤◌, ◌<◌}
use native.Mathlib.Omega.{arith}
use lib.Dec.{T}
use Rattle.slices.specs.Finite.{is_true, below}
use Rattle.slices.specs.Compare.{same_bytes}
use Rattle.slices.proofs.CompareLaws.{same_is}
use Rattle.slices.proofs.TestLaws.{clash}
use Rattle.duration.specs.Duration.{digits, number_from, gcd_in, exponent_of, written, written_at, counts, duration_of}
use Rattle.duration.specs.Length.{◌over◌, SameLength, note_length}
use Rattle.duration.specs.Reciprocal.{decimal, reciprocal_length, dotted}
use Rattle.duration.specs.Ratio.{smallest_of, reduced_at, ratio_at, ratio_of, ratio_value, counted_by, is_ratio, before_percent, behind_percent, spelled_value, spelled_length}
use Rattle.duration.specs.declared.Value.{Value}
use Rattle.duration.specs.declared.Value.TheVariants.{Plain, Tuplet}
use Rattle.std.specs.Prelude.{Option, Some, None}
use Rattle.duration.proofs.Kept.{Worth, counts_worth}
use Rattle.duration.proofs.Durations.{worth_value}
use Rattle.duration.proofs.Lowest.{duration_tuplet, duration_value}
use Rattle.duration.proofs.Reference.{lasting, reference_agrees}
use Rattle.duration.proofs.Ratios.{RatioOutcome, plain, tuplet, above, too_high, ratio_outcome, ratio_lasts, kept_ratio, actual_of}
use Rattle.duration.proofs.RatioExits.{Counted, counted, uncounted, counted_is, ratio_value_by}

-- ---- what the digits of a ratio write, by cases
pub data Written (n m : List ℕ) (r : Option Value) : Type 0 where
  ratio : Worth n → Worth m → r ≡ ratio_of (decimal n) (decimal m) → Written n m r
  no_n : (Worth n → ⊥) → r ≡ None → Written n m r
  no_m : (Worth m → ⊥) → r ≡ None → Written n m r

pub written_is : (n m : List ℕ) → Written n m (ratio_value n m)
written_is n m = go (counted_is n) (counted_is m)
  where
    go : Counted n (counted_by n) → Counted m (counted_by m) → Written n m (ratio_value n m)
    go (counted w e) (counted v f) = ratio w v (ratio_value_by n m ∙ rw (e, f))
    go (counted w e) (uncounted v f) = no_m v (ratio_value_by n m ∙ rw (e, f))
    go (uncounted w e) c = no_n w (ratio_value_by n m ∙ rw e)

-- "n and m each 1 to 4 digits worth 1 to 255", at most 4, and a tuplet that fits: exactly those have a value
pub kept_digits : (n m : List ℕ) → (ratio_value n m ≡ None → ⊥) ↔ (Worth n × Worth m × (decimal m ≤ 4 * decimal n) × (actual_of (decimal n) (decimal m) ≤ 255))
kept_digits n m = (λ h. to h (written_is n m), λ k e. from k e (written_is n m))
  where
    to : (ratio_value n m ≡ None → ⊥) → Written n m (ratio_value n m) → Worth n × Worth m × (decimal m ≤ 4 * decimal n) × (actual_of (decimal n) (decimal m) ≤ 255)
    to h (ratio w v e) = let k = (kept_ratio (decimal n) (decimal m) w.low v.low).0 (λ z. h (e ∙ z)) in (w, v, k.0, k.1)
    to h (no_n w e) = absurd (h e)
    to h (no_m w e) = absurd (h e)

    from : Worth n × Worth m × (decimal m ≤ 4 * decimal n) × (actual_of (decimal n) (decimal m) ≤ 255) → ratio_value n m ≡ None → Written n m (ratio_value n m) → ⊥
    from k e (ratio w v f) = (kept_ratio (decimal n) (decimal m) w.low v.low).1 (k.2, k.3) (sym f ∙ e)
    from k e (no_n w f) = w k.0
    from k e (no_m w f) = w k.1

-- ---- "exact lengths hold for ratios too"
digits_agree : (n m : List ℕ) (d : ℕ) → (ratio_value n m ≡ None → ⊥) → d ≤ 3
    → SameLength (lasting (ratio_value n m) d) (dotted d (decimal m over decimal n))
digits_agree n m d h few = go (written_is n m)
  where
    go : Written n m (ratio_value n m) → SameLength (lasting (ratio_value n m) d) (dotted d (decimal m over decimal n))
    go (ratio w v e) = rw e (ratio_lasts (decimal n) (decimal m) d w.low v.low few (λ z. h (e ∙ z)))
    go (no_n w e) = absurd (h e)
    go (no_m w e) = absurd (h e)

-- whatever has a value, its value with d dots lasts what the text says
pub spelled_agrees : (s : List ℕ) (d : ℕ) → (spelled_value s ≡ None → ⊥) → d ≤ 3 → SameLength (lasting (spelled_value s) d) (dotted d (spelled_length s))
unfolding spelled_value spelled_length
spelled_agrees s d h few = go (is_ratio s) h
  where
    go : (t : Bool) → (cond t (ratio_value (before_percent s) (behind_percent s)) (duration_of s) ≡ None → ⊥)
        → SameLength (lasting (cond t (ratio_value (before_percent s) (behind_percent s)) (duration_of s)) d)
        (dotted d (cond t (decimal (behind_percent s) over decimal (before_percent s)) (reciprocal_length s)))
    go true k = digits_agree (before_percent s) (behind_percent s) d k few
    go false k = reference_agrees s d k few

-- the same for a value that is known
pub plain_spelled : (s : List ℕ) (v d : ℕ) → spelled_value s ≡ Some (Plain v) → d ≤ 3
    → SameLength (note_length v d 0 0 false) (dotted d (spelled_length s))
plain_spelled s v d e few = rw e at (spelled_agrees s d (λ m. clash cc) few)

pub tuplet_spelled : (s : List ℕ) (v actual normal d : ℕ) → spelled_value s ≡ Some (Tuplet v actual normal) → d ≤ 3
    → SameLength (note_length v d actual normal false) (dotted d (spelled_length s))
tuplet_spelled s v actual normal d e few = rw e at (spelled_agrees s d (λ m. clash cc) few)

-- ---- the value is one of the ten, and a tuplet's numbers are bytes, the normal one below the actual
pub data Ranged (r : Option Value) : Type 0 where
  no_value : r ≡ None → Ranged r
  plain_value : (v : ℕ) → v ≤ 9 → r ≡ Some (Plain v) → Ranged r
  tuplet_value : (v a b : ℕ) → v ≤ 9 → a ≤ 255 → 1 ≤ b → b < a → r ≡ Some (Tuplet v a b) → Ranged r

digits_ranged : (n m : List ℕ) → Ranged (ratio_value n m)
digits_ranged n m = go (written_is n m)
  where
    of : Worth n → Worth m → ratio_value n m ≡ ratio_of (decimal n) (decimal m) → RatioOutcome (decimal n) (decimal m) (ratio_of (decimal n) (decimal m)) → Ranged (ratio_value n m)
    of w v e (plain k s _ _ r) = plain_value k s.ten (e ∙ r)
    of w v e (tuplet k b s t f r) = tuplet_value k (actual_of (decimal n) (decimal m)) b s.ten f t.some t.below (e ∙ r)
    of w v e (above _ r) = no_value (e ∙ r)
    of w v e (too_high _ r) = no_value (e ∙ r)

    go : Written n m (ratio_value n m) → Ranged (ratio_value n m)
    go (ratio w v e) = of w v e (ratio_outcome (decimal n) (decimal m) w.low v.low)
    go (no_n _ e) = no_value e
    go (no_m _ e) = no_value e

reciprocal_ranged : (s : List ℕ) → Ranged (duration_of s)
reciprocal_ranged s = go (duration_of s) refl
  where
    go : (r : Option Value) → duration_of s ≡ r → Ranged r
    go None e = no_value refl
    go (Some (Plain v)) e = plain_value v (duration_value s v e) refl
    go (Some (Tuplet v a b)) e = let t = duration_tuplet s v a b e in let r = t.1 in tuplet_value v a b r.value.1 r.actual_range.1 r.normal_range.0 t.0 refl

pub spelled_ranged : (s : List ℕ) → Ranged (spelled_value s)
unfolding spelled_value
spelled_ranged s = go (is_ratio s)
  where
    go : (t : Bool) → Ranged (cond t (ratio_value (before_percent s) (behind_percent s)) (duration_of s))
    go true = digits_ranged (before_percent s) (behind_percent s)
    go false = reciprocal_ranged s

-- ---- n%1 is n: one computed fact over all 255
shown : Option Value → List ℕ
shown None = []
shown (Some (Plain v)) = v ∷ []
shown (Some (Tuplet v a b)) = v ∷ a ∷ b ∷ []

shown_same : (x y : Option Value) → shown x ≡ shown y → x ≡ y
unfolding shown
shown_same None None e = refl
shown_same None (Some (Plain v)) e = cc
shown_same None (Some (Tuplet v a b)) e = cc
shown_same (Some (Plain v)) None e = cc
shown_same (Some (Plain v)) (Some (Plain w)) e = cc
shown_same (Some (Plain v)) (Some (Tuplet w a b)) e = cc
shown_same (Some (Tuplet v a b)) None e = cc
shown_same (Some (Tuplet v a b)) (Some (Plain w)) e = cc
shown_same (Some (Tuplet v a b)) (Some (Tuplet w c d)) e = cc

one_at : ℕ → Bool
one_at k = same_bytes (shown (Some (written (suc k)))) (shown (ratio_of (suc k) 1))

one_each : (k : ℕ) → k < 255 → T (one_at k)
unfolding one_at shown same_bytes ratio_of ratio_at reduced_at smallest_of written written_at exponent_of gcd_in
one_each = below one_at 255 tt

pub each_one : (n : ℕ) → 1 ≤ n → n ≤ 255 → ratio_of n 1 ≡ Some (written n)
unfolding one_at
each_one zero low high = absurd (omega arith)
each_one (suc k) low high = shown_same (ratio_of (suc k) 1) (Some (written (suc k))) (same_is _ _ (is_true _ (one_each k high)))

pub one_value : (s : List ℕ) → Worth s → ratio_value s (49 ∷ []) ≡ duration_of s
unfolding decimal counts digits number_from
one_value s w = go (written_is s (49 ∷ []))
  where
    go : Written s (49 ∷ []) (ratio_value s (49 ∷ [])) → ratio_value s (49 ∷ []) ≡ duration_of s
    go (ratio _ _ e) = e ∙ each_one (decimal s) w.low w.high ∙ worth_value s w
    go (no_n n e) = absurd (n w)
    go (no_m n e) = absurd (n (counts_worth (49 ∷ []) refl))
