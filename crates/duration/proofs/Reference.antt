-- The written value, its dots and its tuplet last as long as the reference says of the digits: one computed fact over all 255 reciprocals and 0 to 3 dots.
use mathlib.Core.Path.{◌≡◌, refl, ap}
use mathlib.Core.Bool.{Bool, true, false, cond}
use mathlib.Core.List.{List, [], ◌∷◌}
use Prim.Native.Nat.{ℕ, zero, suc, ◌*◌, ◌≤◌, ◌<◌}
use native.Mathlib.Omega.{arith}
use lib.Dec.{T, eqb, eqb→eq}
use Rattle.slices.specs.Finite.{all, below}
use Rattle.slices.specs.Compare.{same_bytes}
use Rattle.slices.proofs.CompareLaws.{same_is}
use Rattle.slices.proofs.TestLaws.{clash}
use Rattle.duration.specs.Duration.{gcd_in, exponent_of, written, written_at, duration_of}
use Rattle.duration.specs.Length.{Fraction, ◌over◌, SameLength, value_length, dot_factor, tuplet_factor, note_length}
use Rattle.duration.specs.Reciprocal.{decimal, reciprocal_length, added, dotted}
use Rattle.duration.specs.declared.Value.{Value}
use Rattle.duration.specs.declared.Value.TheVariants.{Plain, Tuplet}
use Rattle.std.specs.Prelude.{Option, Some, None}
use Rattle.duration.proofs.Kept.{Worth, Outcome, breve, longa, reciprocal, none, outcome}

-- how long a value with d dots lasts
abbrev pub lasting : Option Value → ℕ → Fraction
lasting None d = 0 over 1
lasting (Some (Plain v)) d = note_length v d 0 0 false
lasting (Some (Tuplet v actual normal)) d = note_length v d actual normal false

same : Fraction → Fraction → Bool
same f g = eqb (f.numerator * g.denominator) (g.numerator * f.denominator)

agree : Option Value → Fraction → ℕ → Bool
agree r f d = same (lasting r d) (dotted d f)

agree_at : ℕ → Bool
agree_at k = let r = Some (written (suc k)) in all (agree r (1 over suc k)) 4

each_agrees : (k : ℕ) → k < 255 → T (agree_at k)
unfolding agree_at agree same written written_at exponent_of gcd_in note_length value_length dot_factor tuplet_factor dotted added
each_agrees = below agree_at 255 tt

breve_agrees : (d : ℕ) → d < 4 → T (agree (Some (Plain 1)) (2 over 1) d)
unfolding agree same note_length value_length dot_factor tuplet_factor dotted added
breve_agrees = below (agree (Some (Plain 1)) (2 over 1)) 4 tt

longa_agrees : (d : ℕ) → d < 4 → T (agree (Some (Plain 0)) (4 over 1) d)
unfolding agree same note_length value_length dot_factor tuplet_factor dotted added
longa_agrees = below (agree (Some (Plain 0)) (4 over 1)) 4 tt

agree_is : (r : Option Value) (f : Fraction) (d : ℕ) → T (agree r f d) → SameLength (lasting r d) (dotted d f)
unfolding agree same
agree_is r f d t = eqb→eq _ _ t

written_agrees : (n d : ℕ) → 1 ≤ n → n ≤ 255 → d ≤ 3 → SameLength (lasting (Some (written n)) d) (dotted d (1 over n))
unfolding agree_at
written_agrees zero d lo hi h = absurd (omega arith)
written_agrees (suc k) d lo hi h =
    agree_is (Some (written (suc k))) (1 over suc k) d (below (agree (Some (written (suc k))) (1 over suc k)) 4 (each_agrees k hi) d (omega arith))

-- ---- of the digits
breve_length : reciprocal_length (48 ∷ []) ≡ 2 over 1
unfolding reciprocal_length same_bytes
breve_length = refl

longa_length : reciprocal_length (48 ∷ 48 ∷ []) ≡ 4 over 1
unfolding reciprocal_length same_bytes
longa_length = refl

worth_length : (s : List ℕ) → Worth s → reciprocal_length s ≡ 1 over decimal s
unfolding reciprocal_length decimal
worth_length s w = go (same_bytes (48 ∷ []) s) (same_bytes (48 ∷ 48 ∷ []) s) refl refl
  where
    go : (a b : Bool) → same_bytes (48 ∷ []) s ≡ a → same_bytes (48 ∷ 48 ∷ []) s ≡ b
        → cond a (2 over 1) (cond b (4 over 1) (1 over decimal s)) ≡ 1 over decimal s
    go true b p q = absurd (let z : decimal s ≡ 0 = ap decimal (same_is (48 ∷ []) s p) in omega (arith, w.low))
    go false true p q = absurd (let z : decimal s ≡ 0 = ap decimal (same_is (48 ∷ 48 ∷ []) s q) in omega (arith, w.low))
    go false false p q = refl

pub reference_agrees : (s : List ℕ) (d : ℕ) → (duration_of s ≡ None → ⊥) → d ≤ 3
    → SameLength (lasting (duration_of s) d) (dotted d (reciprocal_length s))
reference_agrees s d h few = go (outcome s)
  where
    go : Outcome s (duration_of s) → SameLength (lasting (duration_of s) d) (dotted d (reciprocal_length s))
    go (breve e r) = rw (r, e, breve_length) (agree_is (Some (Plain 1)) (2 over 1) d (breve_agrees d (omega arith)))
    go (longa e r) = rw (r, e, longa_length) (agree_is (Some (Plain 0)) (4 over 1) d (longa_agrees d (omega arith)))
    go (reciprocal w r) = rw (r, worth_length s w) (written_agrees (decimal s) d w.low w.high few)
    go (none _ _ _ r) = absurd (h r)

-- the same for a value that is known
pub plain_agrees : (s : List ℕ) (v d : ℕ) → duration_of s ≡ Some (Plain v) → d ≤ 3
    → SameLength (note_length v d 0 0 false) (dotted d (reciprocal_length s))
plain_agrees s v d e few = rw e at (reference_agrees s d (λ m. clash cc) few)

pub tuplet_agrees : (s : List ℕ) (v actual normal d : ℕ) → duration_of s ≡ Some (Tuplet v actual normal) → d ≤ 3
    → SameLength (note_length v d actual normal false) (dotted d (reciprocal_length s))
tuplet_agrees s v actual normal d e few =
    rw e at (reference_agrees s d (λ m. clash cc) few)
