-- Lines with different voices, and behind them branches that take the free ones in turn: the first four voices are all four, and the fifth finds none.
use mathlib.Core.Path.{◌≡◌, refl, sym, ap, ◌∙◌}
use mathlib.Core.Bool.{Bool, true, false, cond, ◌||◌}
use mathlib.Core.List.{List, [], ◌∷◌, ◌++◌}
use mathlib.Core.Option.{Option, none, some}
use Prim.Native.Nat.{ℕ, zero, suc, ◌+◌, ◌≤◌, ◌<◌}
use native.Mathlib.Omega.{arith}
use lib.Dec.{eqb, leb}
use lib.ListN.{length, length-append}
use lib.Seq.{take_at, drop_at}
use borrow.Author.Tests.{le-leb, eqb-true, eqb-false}
use Rattle.paths.specs.declared.Spine.TheVariants.{Line}
use Rattle.paths.specs.Voices.{lowest}
use Rattle.paths.specs.TracedVoice.{lowest_free}
use Rattle.paths.proofs.Counts.{bit, same, same_yes, same_le, four_at, low_bit}
use Rattle.paths.proofs.VoiceLaws.{LowestIs, lowest_is}
use Rattle.holders.specs.Voice.{has, free_voice}
use Rattle.holders.specs.Holders.{with_branches, times, Five}
use Rattle.holders.specs.declared.list.Holder.{Holder}

-- ---- the text's lowest free voice is the reading's, 4 for none
abbrev pub or_four : Option ℕ → ℕ
or_four none = 4
or_four (some v) = v

pub lowest_same : (taken : ℕ → Bool) → lowest_free taken ≡ or_four (lowest taken)
unfolding lowest_free lowest
lowest_same taken = go (taken 0) (taken 1) (taken 2) (taken 3)
  where
    go : (a b c d : Bool) → cond a (cond b (cond c (cond d 4 3) 2) 1) 0 ≡ or_four (cond a (cond b (cond c (cond d none (some 3)) (some 2)) (some 1)) (some 0))
    go false b c d = refl
    go true false c d = refl
    go true true false d = refl
    go true true true false = refl
    go true true true true = refl

pub free_same : (hs : List Holder) → free_voice hs ≡ or_four (lowest (λ v. has v hs))
unfolding free_voice
free_same hs = lowest_same (λ v. has v hs)

has_times : (v : ℕ) (hs : List Holder) → has v hs ≡ leb 1 (times v hs)
unfolding has times
has_times v [] = refl
has_times v (x ∷ hs) = go (eqb v x.voice) (has_times v hs)
  where
    go : (b : Bool) → has v hs ≡ leb 1 (times v hs) → (b || has v hs) ≡ leb 1 (cond b (suc (times v hs)) (times v hs))
    go true e = sym (le-leb 1 (suc (times v hs)) (omega arith))
    go false e = e

-- a free voice, or none
pub record Free (hs : List Holder) (v : ℕ) : Type 0 where
  pub low : v < 4
  pub unheld : times v hs ≡ 0

pub free_is : (hs : List Holder) → (v : ℕ) → free_voice hs ≡ v → (v ≡ 4 → ⊥) → Free hs v
free_is hs v e = go (lowest (λ v. has v hs)) (lowest_is (λ v. times v hs) (λ v. has v hs) (λ v. has_times v hs)) (sym (free_same hs) ∙ e)
  where
    go : (o : Option ℕ) → LowestIs (λ v. times v hs) o → or_four o ≡ v → (v ≡ 4 → ⊥) → Free hs v
    go none k e n = absurd (n (sym e))
    go (some u) k e n = record { low = omega (arith, k.0, e); unheld = ap (λ (w : ℕ). times w hs) (sym e) ∙ k.1 }

full_is : (hs : List Holder) → free_voice hs ≡ 4 → LowestIs (λ v. times v hs) none
full_is hs e = go (lowest (λ v. has v hs)) (lowest_is (λ v. times v hs) (λ v. has v hs) (λ v. has_times v hs)) (sym (free_same hs) ∙ e)
  where
    go : (o : Option ℕ) → LowestIs (λ v. times v hs) o → or_four o ≡ 4 → LowestIs (λ v. times v hs) none
    go none k e = k
    go (some u) k e = absurd (omega (arith, k.0, e))

times_append : (v : ℕ) (hs : List Holder) (x : Holder) → times v (hs ++ (x ∷ [])) ≡ times v hs + same v x.voice
unfolding times same
times_append v [] x = go (eqb v x.voice)
  where
    go : (b : Bool) → cond b (suc 0) 0 ≡ 0 + bit b
    go true = refl
    go false = refl
times_append v (y ∷ hs) x = go (eqb v y.voice) (times_append v hs x)
  where
    go : (b : Bool) → times v (hs ++ (x ∷ [])) ≡ times v hs + bit (eqb v x.voice)
        → cond b (suc (times v (hs ++ (x ∷ [])))) (times v (hs ++ (x ∷ []))) ≡ cond b (suc (times v hs)) (times v hs) + bit (eqb v x.voice)
    go true e = omega arith
    go false e = e

-- of the four voices it is one
one_of_four : (w : ℕ) → w < 4 → same 0 w + same 1 w + same 2 w + same 3 w ≡ 1
one_of_four w h = omega (arith, (four_at 0 (Line 0 w)).0, (four_at 0 (Line 0 w)).1, same_yes 0 0 refl, low_bit w h, same_le 0 w, same_le 1 w, same_le 2 w, same_le 3 w)

-- they have different voices, all below 4
pub record Good (hs : List Holder) : Type 0 where
  pub once : (v : ℕ) → times v hs ≤ 1
  pub all : times 0 hs + times 1 hs + times 2 hs + times 3 hs ≡ length hs

pub good_few : {hs : List Holder} → Good hs → length hs ≤ 4
good_few g = omega (arith, g.all, g.once 0, g.once 1, g.once 2, g.once 3)

pub good_more : {hs : List Holder} → Good hs → (x : Holder) → Free hs x.voice → Good (hs ++ (x ∷ []))
unfolding same
good_more {hs} g x f = record {
  once = λ v. once_more v (eqb v x.voice) refl;
  all = omega (arith, g.all, times_append 0 hs x, times_append 1 hs x, times_append 2 hs x, times_append 3 hs x, one_of_four x.voice f.low, length-append hs (x ∷ []));
}
  where
    once_more : (v : ℕ) (b : Bool) → eqb v x.voice ≡ b → times v (hs ++ (x ∷ [])) ≤ 1
    once_more v true e =
        let z : v ≡ x.voice = eqb-true v x.voice e in
        let u : times v hs ≡ 0 = ap (λ (w : ℕ). times w hs) z ∙ f.unheld in
        omega (arith, times_append v hs x, ap bit e)
    once_more v false e = omega (arith, times_append v hs x, ap bit e, g.once v)

-- the four of them, and one more without a voice
five_of : {hs : List Holder} → Good hs → free_voice hs ≡ 4 → (x : Holder) → x.voice ≡ 4 → Five (hs ++ (x ∷ []))
five_of {hs} g full x e =
    let k = full_is hs full in
    let l : length hs ≡ 4 = omega (arith, g.all, g.once 0, g.once 1, g.once 2, g.once 3, k.0, k.1, k.2, k.3) in
    record {
      five = omega (arith, length-append hs (x ∷ []));
      all_four = λ v h. rw (take_at hs (x ∷ []) 4 l) (one v h);
      last = rw (drop_at hs (x ∷ []) 4 l) (ap (λ (w : ℕ). w ∷ []) e);
    }
  where
    one : (v : ℕ) → v < 4 → times v hs ≡ 1
    one v h = let k = full_is hs full in by v h k.0 k.1 k.2 k.3
      where
        by : (v : ℕ) → v < 4 → 1 ≤ times 0 hs → 1 ≤ times 1 hs → 1 ≤ times 2 hs → 1 ≤ times 3 hs → times v hs ≡ 1
        by zero h a b c d = omega (arith, g.once 0)
        by (suc zero) h a b c d = omega (arith, g.once 1)
        by (suc (suc zero)) h a b c d = omega (arith, g.once 2)
        by (suc (suc (suc zero))) h a b c d = omega (arith, g.once 3)
        by (suc (suc (suc (suc v)))) h a b c d = absurd (omega arith)

-- with more than four of them together
module _ (g : ℕ → ℕ → Holder) (voiced : (i v : ℕ) → (g i v).voice ≡ v) where
  pub five : (hs : List Holder) (is : List ℕ) → Good hs → 4 < length hs + length is → Five (with_branches g hs is)
  unfolding with_branches
  five hs [] k l = absurd (omega (arith, good_few k))
  five hs (i ∷ is) k l = go (eqb (free_voice hs) 4) refl (λ m. five (hs ++ (g i (free_voice hs) ∷ [])) is m (omega (arith, length-append hs (g i (free_voice hs) ∷ []))))
    where
      go : (b : Bool) → eqb (free_voice hs) 4 ≡ b → (Good (hs ++ (g i (free_voice hs) ∷ [])) → Five (with_branches g (hs ++ (g i (free_voice hs) ∷ [])) is))
          → Five (cond b (hs ++ (g i (free_voice hs) ∷ [])) (with_branches g (hs ++ (g i (free_voice hs) ∷ [])) is))
      go true e later = let z : free_voice hs ≡ 4 = eqb-true (free_voice hs) 4 e in five_of k z (g i (free_voice hs)) (voiced i (free_voice hs) ∙ z)
      go false e later = later (good_more k (g i (free_voice hs)) (rw (voiced i (free_voice hs)) (free_is hs (free_voice hs) refl (eqb-false (free_voice hs) 4 e))))
