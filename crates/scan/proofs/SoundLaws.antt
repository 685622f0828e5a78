-- The scan counts the pitches and the signifiers.
use mathlib.Core.Path.{◌≡◌, refl}
use Prim.Native.Nat.{ℕ, ◌+◌, ◌≤◌}
use native.Mathlib.Omega.{arith}
use mathlib.Core.List.{List, [], ◌∷◌}
use mathlib.Core.Bool.{Bool, true, false, cond}
use lib.ListN.{length, length-append}
use Rattle.pitch.specs.Pitch.{pitch_of}
use Rattle.pitch.specs.declared.Pitch.{Pitch}
use Rattle.std.specs.Prelude.{Option, Some, None}
use Rattle.items.specs.declared.Item.{Item}
use Rattle.items.specs.declared.Item.TheVariants.{Digits, Ratio, Letters, Blank, Mark}
use Rattle.token.specs.Token.{fits, passes, begun, signed, given, heard, signifiers}
use Rattle.scan.specs.Steps.{step_sounds, with_unknown, sounded}
use Rattle.scan.specs.declared.Sounds.{Sounds}
use Rattle.token.specs.declared.pitches.Tone.{Tone}
use Rattle.scan.proofs.FoldLaws.{fold}

-- ---- signifiers
pub signifiers_fold : (s : Sounds) (is : List Item) → (fold step_sounds s is).signifiers ≡ s.signifiers + length (signifiers s.sounding is)
unfolding signifiers
signifiers_fold s [] = omega arith
signifiers_fold s (Digits v ∷ is) = signifiers_fold s is
signifiers_fold s (Ratio v ∷ is) = signifiers_fold s is
signifiers_fold s (Letters c n ∷ is) = go (fits s.sounding (pitch_of c n)) (signifiers_fold (sounded s) is) (signifiers_fold (with_unknown s 1) is)
  where
    go : (t : Bool) → (fold step_sounds (sounded s) is).signifiers ≡ s.signifiers + length (signifiers true is)
        → (fold step_sounds (with_unknown s 1) is).signifiers ≡ s.signifiers + 1 + length (signifiers s.sounding is)
        → (fold step_sounds (cond t (sounded s) (with_unknown s 1)) is).signifiers ≡ s.signifiers + length (cond t (signifiers true is) (c ∷ signifiers s.sounding is))
    go true a b = a
    go false a b = omega arith
signifiers_fold s (Blank ∷ is) = signifiers_fold _ is
signifiers_fold s (Mark b ∷ is) = go (passes s.sounding b) (signifiers_fold s is) (signifiers_fold (with_unknown s 1) is)
  where
    go : (t : Bool) → (fold step_sounds s is).signifiers ≡ s.signifiers + length (signifiers s.sounding is)
        → (fold step_sounds (with_unknown s 1) is).signifiers ≡ s.signifiers + 1 + length (signifiers s.sounding is)
        → (fold step_sounds (cond t s (with_unknown s 1)) is).signifiers ≡ s.signifiers + length (cond t (signifiers s.sounding is) (b ∷ signifiers s.sounding is))
    go true a e = a
    go false a e = omega arith

-- ---- pitches: the one of the sub-token so far is counted already
abbrev held : Option Tone → Bool
held None = false
held (Some t) = true

abbrev one : Option Tone → ℕ
one None = 0
one (Some t) = 1

length_given : (p : Option Tone) → length (given p) ≡ one p
length_given None = refl
length_given (Some t) = refl

abbrev pub sounds : Bool → ℕ → ℕ → Sounds
sounds sounding pitches signifiers = record { sounding = sounding; pitches = pitches; signifiers = signifiers }

pub pitches_fold : (p : Option Tone) (n m : ℕ) (is : List Item)
    → (fold step_sounds (sounds (held p) n m) is).pitches + one p ≡ n + length (heard p is)
unfolding heard
pitches_fold p n m [] = omega (arith, length_given p)
pitches_fold p n m (Digits v ∷ is) = pitches_fold p n m is
pitches_fold p n m (Ratio v ∷ is) = pitches_fold p n m is
pitches_fold p n m (Letters c k ∷ is) =
    run p (pitch_of c k) (λ q a b. pitches_fold q a b is)
  where
    run : (p : Option Tone) (r : Option Pitch) → ((q : Option Tone) (a b : ℕ) → (fold step_sounds (sounds (held q) a b) is).pitches + one q ≡ a + length (heard q is))
        → (fold step_sounds (cond (fits (held p) r) (sounds true (n + 1) m) (sounds (held p) n (m + 1))) is).pitches + one p ≡ n + length (heard (begun p r) is)
    run None (Some r) ih = let e = ih (Some (record { step = r.step; octave = r.octave; alter = 128 })) (n + 1) m in omega arith
    run None None ih = ih None n (m + 1)
    run (Some t) (Some r) ih = ih (Some t) n (m + 1)
    run (Some t) None ih = ih (Some t) n (m + 1)
pitches_fold p n m (Blank ∷ is) =
    let e = pitches_fold None n m is in
    omega (arith, length-append (given p) (heard None is), length_given p)
pitches_fold p n m (Mark b ∷ is) = mark p (passes (held p) b) (λ q a c. pitches_fold q a c is)
  where
    mark : (p : Option Tone) (t : Bool) → ((q : Option Tone) (a c : ℕ) → (fold step_sounds (sounds (held q) a c) is).pitches + one q ≡ a + length (heard q is))
        → (fold step_sounds (cond t (sounds (held p) n m) (sounds (held p) n (m + 1))) is).pitches + one p ≡ n + length (heard (signed p b) is)
    mark None true ih = ih None n m
    mark None false ih = ih None n (m + 1)
    mark (Some x) true ih = ih (signed (Some x) b) n m
    mark (Some x) false ih = ih (signed (Some x) b) n (m + 1)

-- ---- no count grows by more than one
pub record Slow (s t : Sounds) : Type 0 where
  pub pitches : t.pitches ≤ s.pitches + 1
  pub signifiers : t.signifiers ≤ s.signifiers + 1

either : (t : Bool) (s a b : Sounds) → Slow s a → Slow s b → Slow s (cond t a b)
either true s a b p q = p
either false s a b p q = q

pub slow : (s : Sounds) (i : Item) → Slow s (step_sounds s i)
slow s (Digits v) = record { pitches = omega arith; signifiers = omega arith }
slow s (Ratio v) = record { pitches = omega arith; signifiers = omega arith }
slow s (Letters c n) =
    either (fits s.sounding (pitch_of c n)) s (sounded s) (with_unknown s 1) (record { pitches = omega arith; signifiers = omega arith }) (record { pitches = omega arith; signifiers = omega arith })
slow s Blank = record { pitches = omega arith; signifiers = omega arith }
slow s (Mark b) =
    either (passes s.sounding b) s s (with_unknown s 1) (record { pitches = omega arith; signifiers = omega arith }) (record { pitches = omega arith; signifiers = omega arith })
