-- Unknown marks in a row: each is a signifier, and none alters a pitch.
use mathlib.Core.Path.{◌≡◌, refl, ap, ◌∙◌}
use Prim.Native.Nat.{ℕ, zero, suc, ◌+◌, ◌-◌, ◌≤◌, ◌<◌}
use native.Mathlib.Nat.{add-zero}
use native.Mathlib.Omega.{arith}
use mathlib.Core.List.{List, ◌∷◌, ◌++◌}
use mathlib.Core.Bool.{Bool, true, false}
use lib.ListN.{length, get_or, take, drop}
use lib.Seq.{sets}
use Rattle.slices.specs.Split.{piece_at}
use Rattle.slices.proofs.SplitLaws.{at_index}
use Rattle.token.proofs.SignifierLaws.{past_unknown}
use Rattle.pitch.specs.Pitch.{within, altered_by}
use Rattle.notation.specs.Bytes.{contains}
use Rattle.items.specs.Items.{is_letter, items}
use Rattle.items.specs.declared.Item.TheVariants.{Mark}
use Rattle.items.proofs.RunLaws.{next_at}
use Rattle.token.specs.Token.{is_unknown, passes, signed, heard, signifiers}
use Rattle.scan.specs.Steps.{Unknowns}
use Rattle.token.specs.declared.pitches.Tone.{Tone}
use Rattle.std.specs.Prelude.{Option, Some, None}
use Rattle.scan.proofs.UnknownLaws.{plain, is_not, next_unknown}
use Rattle.lists.specs.Lists.{tone_bytes}
use Rattle.lists.proofs.FillLaws.{fill_as, fill_room, fill_turn, Writing}
use Rattle.lists.proofs.CountLaws.{heard_bytes}

module _ (b : ℕ) (o : is_unknown b ≡ true) where
  unknown_fails : (t : Bool) → false ≡ passes t b
  unfolding passes
  unknown_fails t = rw ((plain b o).2, (plain b o).3)

  unsigned : (s : Option Tone) → signed s b ≡ s
  unfolding altered_by is_unknown contains is_letter within
  unsigned None = refl
  unsigned (Some t) = rw (is_not b o 35 refl, is_not b o 45 refl, is_not b o 110 refl)

-- ---- so many of them
module _ (token : List ℕ) where
  items_unknown : (i : ℕ) → i < length token → is_unknown (get_or token i 0) ≡ true → items (drop i token) ≡ Mark (get_or token i 0) ∷ items (drop (i + 1) token)
  items_unknown i h o = (next_at h (next_unknown token i h o)).same

  run_signifiers : (t : Bool) (n i : ℕ) → ((j : ℕ) → i ≤ j → j < i + n → is_unknown (get_or token j 0) ≡ true) → i + n ≤ length token
      → signifiers t (items (drop i token)) ≡ take n (drop i token) ++ signifiers t (items (drop (i + n) token))
  run_signifiers t zero i unknown h = rw (add-zero i)
  run_signifiers t (suc n) i unknown h =
      let b : ℕ = get_or token i 0 in
      let o : is_unknown b ≡ true = unknown i (omega arith) (omega arith) in
      let k : i + suc n ≡ i + 1 + n = omega arith in
      ap (signifiers t) (items_unknown i (omega arith) o)
      ∙ past_unknown t b (unknown_fails b o t) refl (items (drop (i + 1) token))
      ∙ ap (λ (l : List ℕ). b ∷ l) (run_signifiers t n (i + 1) (λ j l u. unknown j (omega arith) (omega arith)) (omega arith))
      ∙ rw (at_index token i (omega arith), k)

  run_heard : (s : Option Tone) (n i : ℕ) → ((j : ℕ) → i ≤ j → j < i + n → is_unknown (get_or token j 0) ≡ true) → i + n ≤ length token
      → heard s (items (drop i token)) ≡ heard s (items (drop (i + n) token))
  unfolding heard
  run_heard s zero i unknown h = rw (add-zero i)
  run_heard s (suc n) i unknown h =
      let o : is_unknown (get_or token i 0) ≡ true = unknown i (omega arith) (omega arith) in
      let k : i + suc n ≡ i + 1 + n = omega arith in
      ap (heard s) (items_unknown i (omega arith) o)
      ∙ ap (λ (x : Option Tone). heard x (items (drop (i + 1) token))) (unsigned (get_or token i 0) o s)
      ∙ run_heard s n (i + 1) (λ j l u. unknown j (omega arith) (omega arith)) (omega arith)
      ∙ rw k

-- ---- a buffer filled over all of them
module _ {token : List ℕ} {i end : ℕ} (unknowns : Unknowns token i end) where
  here : i + (end - i) ≡ end
  here = omega (arith, unknowns.on)

  each_unknown : (j : ℕ) → i ≤ j → j < i + (end - i) → is_unknown (get_or token j 0) ≡ true
  each_unknown j l u = unknowns.unknown j l (omega (arith, here))

  unknown_signifiers : (t : Bool) → signifiers t (items (drop i token)) ≡ piece_at token i (end - i) ++ signifiers t (items (drop end token))
  unknown_signifiers t =
      run_signifiers token t (end - i) i each_unknown (omega (arith, here, unknowns.high))
      ∙ ap (λ (e : ℕ). piece_at token i (end - i) ++ signifiers t (items (drop e token))) here

  unknown_heard : (s : Option Tone) → heard s (items (drop i token)) ≡ heard s (items (drop end token))
  unknown_heard s =
      run_heard token s (end - i) i each_unknown (omega (arith, here, unknowns.high)) ∙ ap (λ (e : ℕ). heard s (items (drop e token))) here

  module _ {old all out : List ℕ} {k : ℕ} (t : Bool) (inv : Writing old all out token k i (signifiers t)) where
    pub unknowns_room : k + length (piece_at token i (end - i)) ≤ length out
    unknowns_room = fill_room (piece_at token i (end - i)) (signifiers t (items (drop end token))) (fill_as (unknown_signifiers t) inv.fill)

    pub unknowns_turn : {out' : List ℕ} {k' : ℕ} → out' ≡ sets out k (piece_at token i (end - i)) → k' ≡ k + length (piece_at token i (end - i))
        → Writing old all out' token k' end (signifiers t)
    unknowns_turn e p =
        record {
          high = unknowns.high;
          fill = fill_turn (piece_at token i (end - i)) (signifiers t (items (drop end token))) (fill_as (unknown_signifiers t) inv.fill) e p;
        }

  pub unknowns_past : {old all out : List ℕ} {k : ℕ} (s : Option Tone) → Writing old all out token k i (heard_bytes s) → Writing old all out token k end (heard_bytes s)
  unknowns_past s inv = record { high = unknowns.high; fill = fill_as (ap tone_bytes (unknown_heard s)) inv.fill }
