-- The scan's counts are the lengths of the lists, and its rest has no pitches.
use mathlib.Core.Path.{◌≡◌, sym, ap, ◌∙◌}
use Prim.Native.Nat.{ℕ, ◌*◌, ◌/◌, ◌≤◌, ◌<◌}
use native.Mathlib.Omega.{arith}
use mathlib.Core.List.{List, [], ◌∷◌, ◌++◌}
use mathlib.Core.Bool.{Bool, true, false, cond}
use lib.ListN.{length}
use Rattle.slices.specs.Store.{stored}
use Rattle.slices.proofs.StoreLaws.{stored_not, stored_sets}
use Rattle.items.specs.Items.{items}
use Rattle.items.specs.declared.Item.{Item}
use Rattle.token.specs.Token.{rest_of, pitches_of, heard}
use Rattle.token.specs.Scan.{scan_items, scan_of}
use Rattle.token.specs.declared.scan.Scan.{Scan}
use Rattle.token.specs.declared.pitches.Tone.{Tone}
use Rattle.std.specs.Prelude.{Option, None}
use Rattle.lists.specs.Lists.{tone_bytes, pitch_bytes, articulation_bytes, signifier_bytes, ended_by, sound_after}
use Rattle.lists.proofs.ItemLaws.{tones_length, heard_more}

pub note_bytes_lem : (token : List ℕ) → rest_of (items token) ≡ false → tone_bytes (heard None (items token)) ≡ pitch_bytes token
note_bytes_lem token h = sym (ap (λ (t : Bool). tone_bytes (cond t [] (pitches_of (items token)))) h)

module _ {s : Scan} (token : List ℕ) (e : s ≡ scan_of token) where
  pub count_articulations : s.articulations ≡ length (articulation_bytes token)
  unfolding scan_items
  count_articulations = ap (λ (x : Scan). x.articulations) e

  pub count_signifiers : s.signifiers ≡ length (signifier_bytes token)
  unfolding scan_items
  count_signifiers = ap (λ (x : Scan). x.signifiers) e

  count_pitches : s.pitches ≡ length (pitches_of (items token))
  unfolding scan_items
  count_pitches = ap (λ (x : Scan). x.pitches) e

  is_rest : s.rest ≡ rest_of (items token)
  unfolding scan_items
  is_rest = ap (λ (x : Scan). x.rest) e

  pub rest_bytes : (old : List ℕ) → s.rest ≡ true → old ≡ stored old (pitch_bytes token)
  unfolding tone_bytes
  rest_bytes old h = sym (ap (λ (t : Bool). stored old (tone_bytes (cond t [] (pitches_of (items token))))) (sym is_rest ∙ h) ∙ stored_sets old [] (omega arith))

  pub no_rest : s.rest ≡ false → rest_of (items token) ≡ false
  no_rest h = sym is_rest ∙ h

  pitches_length : s.rest ≡ false → length (pitch_bytes token) ≡ 3 * s.pitches
  pitches_length h = ap length (sym (note_bytes_lem token (no_rest h))) ∙ tones_length (pitches_of (items token)) ∙ ap (λ (n : ℕ). 3 * n) (sym count_pitches)

  pub pitches_long : (old : List ℕ) → s.rest ≡ false → length old / 3 < s.pitches → old ≡ stored old (pitch_bytes token)
  pitches_long old h l = sym (stored_not old (pitch_bytes token) (omega (arith, pitches_length h)))

  pub pitches_fit : (old : List ℕ) → s.rest ≡ false → s.pitches ≤ length old / 3 → length (pitch_bytes token) ≤ length old
  pitches_fit old h l = omega (arith, pitches_length h)

-- what is left behind an item, with the state that the code has there
abbrev pub heard_bytes : Option Tone → List Item → List ℕ
heard_bytes s is = tone_bytes (heard s is)

pub heard_next : (s : Option Tone) {t : Option Tone} (i : Item) → t ≡ sound_after s i → (is : List Item) → heard_bytes s (i ∷ is) ≡ ended_by s i ++ heard_bytes t is
heard_next s {t} i e is = heard_more s i is ∙ ap (λ (x : Option Tone). ended_by s i ++ heard_bytes x is) (sym e)
