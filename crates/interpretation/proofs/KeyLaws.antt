-- Key signatures and key designations: each answer of the code, from the tests that led to it.
use mathlib.Core.Path.{◌≡◌, refl, sym, ap, ◌∙◌}
use Prim.Native.Nat.{ℕ, suc, ◌+◌, ◌-◌, ◌/◌, ◌%◌, ◌≤◌, ◌<◌}
use native.Mathlib.Omega.{arith}
use mathlib.Core.List.{List, [], ◌∷◌}
use mathlib.Core.Bool.{Bool, true, false, cond, and-true, and-false}
use denote.Ref.{Bor}
use lib.Dec.{eqb}
use lib.IntN.{pos, neg_ℤ, ◌-ℤ◌}
use lib.ListN.{length, take, drop, get_or, length-take, drop_of_length-le}
use lib.Pointwise.{pointwise}
use lib.Seq.{get_or-take, length-take-le, drop-cons}
use mir.Syntax.{w8}
use mir.Val.{to_z, of_z}
use Rattle.std.proofs.Common.{Some, None, Option, Ok, Err}
use Rattle.std.specs.Option.{MatchOption}
use Rattle.std.proofs.lemmas.Option.{MatchOption-at_some, MatchOption-at_none}
use Rattle.std.proofs.lemmas.Int.{ints, to_z_pos}
use borrow.Author.Tests.{le-leb, lt-leb, eq-eqb, ne_eqb}
use Rattle.slices.specs.Compare.{begins_with}
use Rattle.slices.proofs.CompareLaws.{begins_is, starts_begins}
use Rattle.slices.proofs.TestLaws.{clash}
use Rattle.interpretation.specs.Key.{sharp_order, flat_order, ends_with, without_last, is_prefix, signature_of, key_of, tonic_mode, mode_of}
use Rattle.interpretation.specs.declared.Interpretation.TheVariants.{Key}
use Rattle.interpretation.specs.declared.Unsupported.TheVariants.{OpenKey, OtherKey, Other}

-- a prefix is no longer than its order, and a text that is none has a byte
pub steps_few : (s order : List ℕ) → begins_with s order ≡ true → length s ≤ length order
steps_few s order e = omega (arith, simp length-take at (ap length (begins_is s order e)))

pub steps_some : (s order : List ℕ) → begins_with s order ≡ false → 0 < length s
unfolding begins_with
steps_some [] order e = clash (cc)
steps_some (x ∷ s) order e = omega arith

below_zero : (n : ℕ) → n ≤ 7 → to_z w8 (of_z w8 (pos 0 -ℤ to_z w8 n)) ≡ neg_ℤ (pos n)
below_zero n h = omega (arith, ints)

pub steps_odd : (s : List ℕ) → (length s % 2 ≡ 0 → ⊥) → Err OtherKey ≡ signature_of s
unfolding signature_of is_prefix
steps_odd s h = rw (ne_eqb _ _ h)

-- the code's tests of the two orders
module _ (s : List ℕ) (even : length s % 2 ≡ 0) {b : Bool} (sharp : b ≡ pointwise eqb s (take (length s) sharp_order)) where
  is_sharp : begins_with s sharp_order ≡ b
  is_sharp = sym (sharp ∙ starts_begins s sharp_order)

  pub steps_sharp : b ≡ true → Ok (Key (to_z w8 (length s / 2))) ≡ signature_of s
  unfolding signature_of is_prefix
  steps_sharp e =
      let few = steps_few s sharp_order (is_sharp ∙ e) in
      let fits : to_z w8 (length s / 2) ≡ pos (length s / 2) = to_z_pos w8 (length s / 2) (omega arith) in
      rw (fits, eq-eqb _ _ even, is_sharp ∙ e)

  pub steps_flat : {c : Bool} → b ≡ false → c ≡ pointwise eqb s (take (length s) flat_order) → c ≡ true
      → Ok (Key (to_z w8 (of_z w8 (pos 0 -ℤ to_z w8 (length s / 2))))) ≡ signature_of s
  unfolding signature_of is_prefix
  steps_flat e flat f =
      let is_flat : begins_with s flat_order ≡ true = sym (flat ∙ starts_begins s flat_order) ∙ f in
      let few = steps_few s flat_order is_flat in
      let fits : to_z w8 (of_z w8 (pos 0 -ℤ to_z w8 (length s / 2))) ≡ neg_ℤ (pos (length s / 2)) = below_zero (length s / 2) (omega arith) in
      rw (fits, eq-eqb _ _ even, is_sharp ∙ e, is_flat)

  pub steps_other : {c : Bool} → b ≡ false → c ≡ pointwise eqb s (take (length s) flat_order) → c ≡ false → Err OtherKey ≡ signature_of s
  unfolding signature_of is_prefix
  steps_other e flat f =
      let is_flat : begins_with s flat_order ≡ false = sym (flat ∙ starts_begins s flat_order) ∙ f in
      rw (eq-eqb _ _ even, is_sharp ∙ e, is_flat)

-- the code's test of the last byte
ends_last : (b : ℕ) (s : List ℕ) → 0 < b → pointwise eqb (drop (length s - 1) s) (b ∷ []) ≡ ends_with b s
unfolding ends_with
ends_last b [] h = sym (ne_eqb 0 b (λ e. omega arith))
ends_last b (x ∷ s) h =
    let i : length (x ∷ s) - 1 < length (x ∷ s) = omega arith in
    let l : length (x ∷ s) ≤ suc (length (x ∷ s) - 1) = omega arith in
    rw (drop-cons (x ∷ s) (length (x ∷ s) - 1) 0 i, drop_of_length-le (x ∷ s) l, and-true)

module _ (s : List ℕ) (o : Option (Bor (List ℕ)))
    (cases : MatchOption o (pointwise eqb (drop (length s - 1) s) (93 ∷ []) ≡ false)
    (λ x. (pointwise eqb (drop (length s - 1) s) (93 ∷ []) ≡ true) × (x.now ≡ take (length s - 1) s) × (length x.now + 1 ≡ length s))) where
  pub key_open : o ≡ None → Err OpenKey ≡ key_of s
  unfolding key_of
  key_open e = rw (sym (ends_last 93 s (omega arith)) ∙ MatchOption-at_none _ _ e cases)

  pub key_closed : {steps : Bor (List ℕ)} → o ≡ Some steps → signature_of steps.now ≡ key_of s
  unfolding key_of without_last
  key_closed {steps} e =
      let m = MatchOption-at_some _ (λ x. (pointwise eqb (drop (length s - 1) s) (93 ∷ []) ≡ true) × (x.now ≡ take (length s - 1) s) × (length x.now + 1 ≡ length s)) steps e cases in
      rw (sym (ends_last 93 s (omega arith)) ∙ m.0, m.1)

-- a key designation, by its length and its last byte
pub mode_short : (s : List ℕ) → length s < 2 → Err Other ≡ mode_of s
unfolding mode_of ends_with without_last tonic_mode
mode_short [] h = refl
mode_short (x ∷ []) h = go (eqb x 58)
  where
    go : (b : Bool) → Err Other ≡ cond b (tonic_mode 0) (Err Other)
    go true = refl
    go false = refl
mode_short (x ∷ y ∷ s) h = absurd (omega arith)

module _ (s : List ℕ) where
  tonic_length : length (without_last s) ≡ length s - 1
  unfolding without_last
  tonic_length = length-take-le (length s - 1) s (omega arith)

  pub mode_long : 4 < length s → Err Other ≡ mode_of s
  unfolding mode_of
  mode_long h = let l : 3 < length (without_last s) = omega (arith, tonic_length) in rw (lt-leb _ _ l)

  pub mode_open : (get_or s (length s - 1) 0 ≡ 58 → ⊥) → Err Other ≡ mode_of s
  unfolding mode_of ends_with
  mode_open n = rw (ne_eqb _ _ n, and-false)

  pub mode_closed : 2 ≤ length s → length s ≤ 4 → get_or s (length s - 1) 0 ≡ 58 → tonic_mode (get_or s 0 0) ≡ mode_of s
  unfolding mode_of ends_with without_last
  mode_closed g h e =
      let l : length (take (length s - 1) s) ≤ 3 = omega (arith, tonic_length) in
      let p : 0 < length s - 1 = omega arith in
      rw (le-leb _ _ l, eq-eqb _ _ e, get_or-take (length s - 1) s 0 0 p)

-- the ways out of `key_of`
pub ruleset keys = (key_open, key_closed)

-- the ways out of `mode_of`
pub ruleset modes = (mode_closed, mode_short, mode_long, mode_open)
