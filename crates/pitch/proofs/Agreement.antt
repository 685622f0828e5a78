-- Document 01 against the **kern reference: every run of a letter, and every accidental.
use mathlib.Core.Path.{◌≡◌, refl, ap, ◌∙◌}
use Prim.Native.Nat.{ℕ, zero, suc, ◌+◌, ◌-◌, ◌%◌, ◌<◌, ◌≤◌}
use native.Mathlib.Omega.{arith}
use mathlib.Core.Bool.{Bool, true, false}
use mathlib.Core.List.{List, [], ◌∷◌, ◌++◌}
use lib.Dec.{eqb, eqb→eq}
use lib.ListN.{get_or}
use Rattle.pitch.specs.Pitch.{within, pitch_of, altered_by, signs, twos_complement}
use Rattle.pitch.specs.Reference.{Step, C, D, E, F, G, A, B, Case, lower, upper, letter_of, above, below, further, octave_of, Numbered, number, sharp, flat, natural, written}
use Rattle.std.specs.Prelude.{Some, None}
use Rattle.pitch.proofs.Letters.{seven}
use Rattle.pitch.proofs.PitchLaws.{none_at_all, lower_in, lower_out, upper_in, upper_out, no_letter}
use Rattle.pitch.proofs.SignLaws.{signs_append, sharps_from, flats_from}

-- ---- runs of a letter
octave_lower : (r : ℕ) → octave_of lower r ≡ above r
unfolding octave_of further
octave_lower zero = refl
octave_lower (suc r) = ap further (octave_lower r)

octave_upper : (r : ℕ) → octave_of upper r ≡ below r
unfolding octave_of further
octave_upper zero = refl
octave_upper (suc r) = ap further (octave_upper r)

-- what is known of a step's two letters
lower_letter : (s : Step) → (within 97 103 (letter_of lower s) ≡ true) × ((letter_of lower s - 97 + 5) % 7 ≡ number s)
unfolding within letter_of number
lower_letter C = (refl, refl)
lower_letter D = (refl, refl)
lower_letter E = (refl, refl)
lower_letter F = (refl, refl)
lower_letter G = (refl, refl)
lower_letter A = (refl, refl)
lower_letter B = (refl, refl)

upper_letter : (s : Step)
    → (within 97 103 (letter_of upper s) ≡ false) × ((within 65 71 (letter_of upper s) ≡ true) × ((letter_of upper s - 65 + 5) % 7 ≡ number s))
unfolding within letter_of number
upper_letter C = (refl, (refl, refl))
upper_letter D = (refl, (refl, refl))
upper_letter E = (refl, (refl, refl))
upper_letter F = (refl, (refl, refl))
upper_letter G = (refl, (refl, refl))
upper_letter A = (refl, (refl, refl))
upper_letter B = (refl, (refl, refl))

not_none : (r : ℕ) → suc r ≡ 0 → ⊥
not_none r e = omega arith

-- where the octave's number is 0 to 9, the run has that octave and the letter's step
pub inside : (case : Case) (s : Step) (r octave : ℕ) → Numbered (octave_of case r) octave → octave ≤ 9
    → pitch_of (letter_of case s) (suc r) ≡ Some (record { step = number s; octave = octave })
unfolding Numbered
inside lower s r octave at h =
    let o : octave ≡ 4 + r = rw octave_lower at at in
    let n : 3 + suc r ≡ octave = omega arith in
    lower_in (letter_of lower s) (suc r) (not_none r) (lower_letter s).0 (omega arith) ∙ rw ((lower_letter s).1, n)
inside upper s r octave at h =
    let o : octave + r ≡ 3 = rw octave_upper at at in
    let n : 4 - suc r ≡ octave = omega arith in
    upper_in (letter_of upper s) (suc r) (not_none r) (upper_letter s).0 (upper_letter s).1.0 (omega arith) ∙ rw ((upper_letter s).1.1, n)

-- where it has no number from 0 to 9, there is no pitch
pub outside : (case : Case) (s : Step) (r : ℕ) → ((octave : ℕ) → Numbered (octave_of case r) octave → octave ≤ 9 → ⊥)
    → pitch_of (letter_of case s) (suc r) ≡ None
unfolding Numbered
outside lower s r none =
    let high : 4 + r ≤ 9 → ⊥ = none (4 + r) (rw octave_lower refl) in
    lower_out (letter_of lower s) (suc r) (not_none r) (lower_letter s).0 (omega arith)
outside upper s r none =
    let low : 3 - r + r ≡ 3 → ⊥ = λ e. none (3 - r) (rw octave_upper e) (omega arith) in
    upper_out (letter_of upper s) (suc r) (not_none r) (upper_letter s).0 (upper_letter s).1.0 (omega arith)

pub empty_run : (letter : ℕ) → pitch_of letter 0 ≡ None
empty_run letter = none_at_all letter 0 refl

-- the steps by the alphabet
step_at : ℕ → Step
step_at k = get_or (A ∷ B ∷ C ∷ D ∷ E ∷ F ∷ G ∷ []) k A

lower_at : (b : ℕ) → within 97 103 b ≡ true → b ≡ letter_of lower (step_at (b - 97))
unfolding letter_of step_at
lower_at b e = eqb→eq _ _ (seven (λ b. eqb b (letter_of lower (step_at (b - 97)))) 97 tt b e)

upper_at : (b : ℕ) → within 65 71 b ≡ true → b ≡ letter_of upper (step_at (b - 65))
unfolding letter_of step_at
upper_at b e = eqb→eq _ _ (seven (λ b. eqb b (letter_of upper (step_at (b - 65)))) 65 tt b e)

refuted : (t : Bool) → (t ≡ true → ⊥) → t ≡ false
refuted true h = absurd (h refl)
refuted false h = refl

-- and no other byte is a pitch, however often it stands
pub other : (letter n : ℕ) → ((case : Case) (s : Step) → letter ≡ letter_of case s → ⊥) → pitch_of letter n ≡ None
other letter zero none = empty_run letter
other letter (suc r) none =
    no_letter letter (suc r) (not_none r)
    (refuted (within 97 103 letter) (λ e. none lower (step_at (letter - 97)) (lower_at letter e)))
    (refuted (within 65 71 letter) (λ e. none upper (step_at (letter - 65)) (upper_at letter e)))

-- ---- accidentals
pub sharps : (k : ℕ) → k ≤ 127 → signs 128 (written (sharp k)) ≡ 128 + k
unfolding written
sharps k h = sharps_from 128 k (omega arith) ∙ omega arith

pub sharps_end : (k : ℕ) → 127 ≤ k → signs 128 (written (sharp k)) ≡ 255
unfolding written
sharps_end k h = sharps_from 128 k (omega arith) ∙ omega arith

pub flats : (k : ℕ) → k ≤ 128 → signs 128 (written (flat k)) ≡ 128 - k
unfolding written
flats k h = flats_from 128 k

pub flats_end : (k : ℕ) → 128 ≤ k → signs 128 (written (flat k)) ≡ 0
unfolding written
flats_end k h = flats_from 128 k ∙ omega arith

pub natural_sets : (a : ℕ) (before : List ℕ) → signs a (before ++ written natural) ≡ 128
unfolding written signs altered_by
natural_sets a before = signs_append a before (110 ∷ [])

-- two's complement: the byte is the alteration, with 256 added where it is below 0
pub sharp_byte : (k : ℕ) → k ≤ 127 → twos_complement (signs 128 (written (sharp k))) ≡ k
unfolding twos_complement
sharp_byte k h = rw (sharps k h) (omega arith)

pub flat_byte : (k : ℕ) → 0 < k → k ≤ 128 → twos_complement (signs 128 (written (flat k))) ≡ 256 - k
unfolding twos_complement
flat_byte k low high = rw (flats k high) (omega arith)
