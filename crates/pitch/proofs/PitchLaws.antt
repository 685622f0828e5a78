-- The pitch of a run by the letter's case and the run's length.
use mathlib.Core.Path.{◌≡◌, refl, sym, subst}
use Prim.Native.Nat.{ℕ, ◌+◌, ◌-◌, ◌%◌, ◌<◌, ◌≤◌}
use native.Mathlib.Omega.{arith}
use mathlib.Core.Bool.{Bool, true, false, cond}
use lib.Dec.{eqb, leb}
use borrow.Author.Tests.{eq-eqb, ne_eqb, le-leb, lt-leb, leb-true}
use Rattle.slices.specs.Split.{index_of}
use Rattle.pitch.specs.Pitch.{within, lower_case, upper_case, lower_pitch, upper_pitch, pitch_of}
use Rattle.pitch.proofs.Letters.{lower_place, upper_place}
use Rattle.pitch.specs.declared.Pitch.{Pitch}
use Rattle.std.specs.Prelude.{Option, Some, None}

pub none_at_all : (b n : ℕ) → n ≡ 0 → pitch_of b n ≡ None
unfolding pitch_of
none_at_all b n e = rw (eq-eqb _ _ e)

module _ (b n : ℕ) (some : n ≡ 0 → ⊥) where
  pub lower_in : within 97 103 b ≡ true → n ≤ 6 → pitch_of b n ≡ Some (record { step = (b - 97 + 5) % 7; octave = 3 + n })
  unfolding pitch_of lower_pitch
  lower_in e h = rw (ne_eqb _ _ some, e, le-leb (3 + n) 9 (omega arith), lower_place b e)

  pub lower_out : within 97 103 b ≡ true → 6 < n → pitch_of b n ≡ None
  unfolding pitch_of lower_pitch
  lower_out e h = rw (ne_eqb _ _ some, e, lt-leb (3 + n) 9 (omega arith))

  pub upper_in : within 97 103 b ≡ false → within 65 71 b ≡ true → n ≤ 4 → pitch_of b n ≡ Some (record { step = (b - 65 + 5) % 7; octave = 4 - n })
  unfolding pitch_of upper_pitch
  upper_in l e h = rw (ne_eqb _ _ some, l, e, le-leb _ _ h, upper_place b e)

  pub upper_out : within 97 103 b ≡ false → within 65 71 b ≡ true → 4 < n → pitch_of b n ≡ None
  unfolding pitch_of upper_pitch
  upper_out l e h = rw (ne_eqb _ _ some, l, e, lt-leb _ _ h)

  pub no_letter : within 97 103 b ≡ false → within 65 71 b ≡ false → pitch_of b n ≡ None
  unfolding pitch_of
  no_letter l e = rw (ne_eqb _ _ some, l, e)

-- a pitch has a step to 6 and an octave to 9
abbrev Bounded : Option Pitch → Type 0
Bounded (Some p) = (p.step ≤ 6) × (p.octave ≤ 9)
Bounded None = Unit {0}

bounded : (b n : ℕ) → Bounded (pitch_of b n)
unfolding pitch_of lower_pitch upper_pitch
bounded b n = go (eqb n 0) (within 97 103 b) (leb (3 + n) 9) (within 65 71 b) (leb n 4) refl refl refl
  where
    go : (z l h u k : Bool) → within 97 103 b ≡ l → leb (3 + n) 9 ≡ h → within 65 71 b ≡ u
        → Bounded (cond z None (cond l (cond h (Some (record { step = index_of b lower_case; octave = 3 + n })) None) (cond u (cond k (Some (record { step = index_of b upper_case; octave = 4 - n })) None) None)))
    go true l h u k p q r = tt
    go false true true u k p q r = (rw (lower_place b p) (omega arith), leb-true _ _ q)
    go false true false u k p q r = tt
    go false false h true true p q r = (rw (upper_place b r) (omega arith), omega arith)
    go false false h true false p q r = tt
    go false false h false k p q r = tt

pub pitch_bounds : (b n : ℕ) (p : Pitch) → Some p ≡ pitch_of b n → (p.step ≤ 6) × (p.octave ≤ 9)
pitch_bounds b n p e = subst Bounded (sym e) (bounded b n)
