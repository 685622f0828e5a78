-- What one item adds to a list.
use mathlib.Core.Path.{◌≡◌, refl, sym, ap, ◌∙◌}
use Prim.Native.Nat.{ℕ, ◌*◌}
use native.Mathlib.Omega.{arith}
use mathlib.Core.List.{List, [], ◌∷◌, ◌++◌, append-nil}
use lib.ListN.{length}
use Rattle.pitch.specs.Pitch.{twos_complement}
use Rattle.items.specs.declared.Item.{Item}
use Rattle.items.specs.declared.Item.TheVariants.{Digits, Ratio, Letters, Blank, Mark}
use Rattle.token.specs.Token.{given, heard}
use Rattle.token.specs.declared.pitches.Tone.{Tone}
use Rattle.std.specs.Prelude.{Option, Some, None}
use Rattle.lists.specs.Lists.{tone_bytes, sound_bytes, ended_by, sound_after}

-- ---- pitches
tones_append : (a b : List Tone) → tone_bytes (a ++ b) ≡ tone_bytes a ++ tone_bytes b
unfolding tone_bytes
tones_append [] b = refl
tones_append (t ∷ a) b = ap (λ (l : List ℕ). t.step ∷ t.octave ∷ twos_complement t.alter ∷ l) (tones_append a b)

pub heard_more : (s : Option Tone) (i : Item) (is : List Item) → tone_bytes (heard s (i ∷ is)) ≡ ended_by s i ++ tone_bytes (heard (sound_after s i) is)
unfolding heard
heard_more s (Digits v) is = refl
heard_more s (Ratio v) is = refl
heard_more s (Letters c n) is = refl
heard_more s Blank is = tones_append (given s) (heard None is)
heard_more s (Mark b) is = refl

pub heard_none : (s : Option Tone) → tone_bytes (heard s []) ≡ sound_bytes s ++ []
unfolding heard
heard_none s = sym (append-nil (sound_bytes s))

pub tones_length : (ts : List Tone) → length (tone_bytes ts) ≡ 3 * length ts
unfolding tone_bytes
tones_length [] = refl
tones_length (t ∷ ts) = omega (arith, tones_length ts)

pub no_sound : {s : Option Tone} → s ≡ None → sound_bytes s ≡ []
unfolding tone_bytes
no_sound e = ap sound_bytes e

pub a_sound : {s : Option Tone} {t : Tone} {b : ℕ} → s ≡ Some t → b ≡ twos_complement t.alter → sound_bytes s ≡ t.step ∷ t.octave ∷ b ∷ []
unfolding tone_bytes
a_sound {s} {t} e p = ap sound_bytes e ∙ rw (← p)
