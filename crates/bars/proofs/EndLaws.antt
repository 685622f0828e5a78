-- PART by falling part, END, and the whole end of a text.
use mathlib.Core.Path.{◌≡◌, refl, sym, ap, ap₂, ◌∙◌}
use Prim.Native.Nat.{ℕ, zero, suc, ◌+◌}
use native.Mathlib.Omega.{arith}
use mathlib.Core.Bool.{Bool, true, false, cond}
use mathlib.Core.List.{List, [], ◌∷◌, ◌++◌, map, reverse}
use lib.ListN.{length, take}
use Rattle.std.specs.Prelude.{◌-◌, Some, None, slice_get}
use Rattle.sheet.specs.Record.{Record, END}
use Rattle.sheet.specs.declared.End.{End}
use Rattle.reading.specs.declared.Part.{Part}
use Rattle.reading.specs.Notices.{quiet}
use Rattle.reading.specs.Bars.{any_noted, closing, closed_part}
use Rattle.reading.specs.Text.{part_record, last_part, last_closing, last_records}
use Rattle.state.specs.Lay.{laid, behind}
use Rattle.state.specs.View.{state_of}
use Rattle.state.specs.declared.Tally.{Tally}
use Rattle.state.proofs.LayLaws.{laid_append, behind_append}
use Rattle.bars.specs.Bars.{bar_record, last_parts, last_bars, last_end}

-- ---- END

pub last_some : (d : Part) (ps : List Part) (k : ℕ) {p : Part} → length ps - 1 ≡ k → slice_get ps k ≡ Some p → last_part d ps ≡ p
unfolding last_part
last_some d [] k h e = cc
last_some d (p ∷ []) zero h e = cc
last_some d (p ∷ []) (suc k) h e = absurd (omega arith)
last_some d (p ∷ q ∷ ps) zero h e = absurd (omega arith)
last_some d (p ∷ q ∷ ps) (suc k) h e = last_some p (q ∷ ps) k (omega arith) e

none_empty : (ps : List Part) (k : ℕ) → length ps - 1 ≡ k → slice_get ps k ≡ None → ps ≡ []
none_empty [] k h e = refl
none_empty (p ∷ []) zero h e = cc
none_empty (p ∷ []) (suc k) h e = absurd (omega arith)
none_empty (p ∷ q ∷ ps) zero h e = absurd (omega arith)
none_empty (p ∷ q ∷ ps) (suc k) h e = let z : q ∷ ps ≡ [] = none_empty (q ∷ ps) k (omega arith) e in cc

pub last_none : (d : Part) (ps : List Part) → slice_get ps (length ps - 1) ≡ None → last_part d ps ≡ d
unfolding last_part
last_none d ps e = ap (last_part d) (none_empty ps (length ps - 1) refl e)

-- ---- the last closing
module _ (ps : List Part) (out : List ℕ) (t : Tally) {b : Bool} (a : b ≡ any_noted ps) where
  pub last_closed : (new : List Part) {out' : List ℕ} {k : ℕ} → b ≡ true
      → new ≡ map (closed_part 0 0 (t.bars + 1)) ps
      → out' ≡ laid out t.at (map (bar_record 0 (t.bars + 1)) ps)
      → k ≡ behind t.at (map (bar_record 0 (t.bars + 1)) ps)
      → (new ≡ last_parts t.bars ps) × ((out' ≡ laid out t.at (last_bars t.bars ps)) × (k ≡ behind t.at (last_bars t.bars ps)))
  unfolding last_parts last_bars
  last_closed new e p o k =
      let z : true ≡ any_noted ps = sym e ∙ a in
      let rs = map (bar_record 0 (t.bars + 1)) ps in (
        p ∙ ap (λ (x : Bool). cond x (map (closed_part 0 0 (t.bars + 1)) ps) ps) z,
        (
          o ∙ ap (λ (x : Bool). laid out t.at (cond x rs [])) z,
          k ∙ ap (λ (x : Bool). behind t.at (cond x rs [])) z,
        ),
      )

  pub last_same : b ≡ false
      → (ps ≡ last_parts t.bars ps) × ((out ≡ laid out t.at (last_bars t.bars ps)) × (t.at ≡ behind t.at (last_bars t.bars ps)))
  unfolding last_parts last_bars laid behind
  last_same e =
      let z : false ≡ any_noted ps = sym e ∙ a in
      let rs = map (bar_record 0 (t.bars + 1)) ps in (
        ap (λ (x : Bool). cond x (map (closed_part 0 0 (t.bars + 1)) ps) ps) z,
        (
          ap (λ (x : Bool). laid out t.at (cond x rs [])) z,
          ap (λ (x : Bool). behind t.at (cond x rs [])) z,
        ),
      )

-- ---- the end of a text

all_records : (cells : List ℕ) (parts : List Part) (t : Tally)
    → (last_closing (state_of cells parts t)).records ++ last_records (last_closing (state_of cells parts t)).state
    ≡ last_bars t.bars (take t.parts parts)
    ++ (map part_record (reverse (last_parts t.bars (take t.parts parts))) ++ (END (last_end (last_parts t.bars (take t.parts parts)) t) ∷ []))
unfolding last_closing last_records last_bars last_parts closing
all_records cells parts t = go (any_noted (take t.parts parts))
  where
    go : (b : Bool) → (cond b (closing 0 0 (state_of cells parts t)) (quiet (state_of cells parts t))).records
        ++ last_records (cond b (closing 0 0 (state_of cells parts t)) (quiet (state_of cells parts t))).state
        ≡ cond b (map (bar_record 0 (t.bars + 1)) (take t.parts parts)) []
        ++ (map part_record (reverse (cond b (map (closed_part 0 0 (t.bars + 1)) (take t.parts parts)) (take t.parts parts)))
        ++ (END (last_end (cond b (map (closed_part 0 0 (t.bars + 1)) (take t.parts parts)) (take t.parts parts)) t) ∷ []))
    go true = refl
    go false = refl

module _ (parts new : List Part) (out₀ : List ℕ) {out₁ out₂ out₃ : List ℕ} (t : Tally) {at₁ at₂ at₃ : ℕ} {e : End}
    (p : new ≡ last_parts t.bars (take t.parts parts))
    (o₁ : out₁ ≡ laid out₀ t.at (last_bars t.bars (take t.parts parts)))
    (a₁ : at₁ ≡ behind t.at (last_bars t.bars (take t.parts parts)))
    (o₂ : out₂ ≡ laid out₁ at₁ (map part_record (reverse new)))
    (a₂ : at₂ ≡ behind at₁ (map part_record (reverse new)))
    (is : e ≡ last_end new t)
    (o₃ : out₃ ≡ laid out₂ at₂ (END e ∷ []))
    (a₃ : at₃ ≡ behind at₂ (END e ∷ []))
    (cells : List ℕ) where
  abbrev bars : List Record
  bars = last_bars t.bars (take t.parts parts)

  abbrev tail : List Part → List Record
  tail ps = map part_record (reverse ps) ++ (END (last_end ps t) ∷ [])

  tail_out : laid out₁ at₁ (tail new) ≡ out₃
  tail_out =
      laid_append (map part_record (reverse new)) (END (last_end new t) ∷ []) out₁ at₁
      ∙ sym (o₃ ∙ ap₂ (λ (u : List ℕ) (v : ℕ). laid u v (END e ∷ [])) o₂ a₂
      ∙ ap (λ (x : End). laid (laid out₁ at₁ (map part_record (reverse new))) (behind at₁ (map part_record (reverse new))) (END x ∷ [])) is)

  tail_at : behind at₁ (tail new) ≡ at₃
  tail_at =
      behind_append (map part_record (reverse new)) (END (last_end new t) ∷ []) at₁
      ∙ sym (a₃ ∙ ap (λ (v : ℕ). behind v (END e ∷ [])) a₂
      ∙ ap (λ (x : End). behind (behind at₁ (map part_record (reverse new))) (END x ∷ [])) is)

  whole : bars ++ tail new ≡ (last_closing (state_of cells parts t)).records ++ last_records (last_closing (state_of cells parts t)).state
  whole = ap (λ (ps : List Part). bars ++ tail ps) p ∙ sym (all_records cells parts t)

  pub finish_out : out₃ ≡ laid out₀ t.at ((last_closing (state_of cells parts t)).records ++ last_records (last_closing (state_of cells parts t)).state)
  finish_out =
      sym tail_out
      ∙ ap₂ (λ (u : List ℕ) (v : ℕ). laid u v (tail new)) o₁ a₁
      ∙ sym (laid_append bars (tail new) out₀ t.at)
      ∙ ap (laid out₀ t.at) whole

  pub finish_at_lem : at₃ ≡ behind t.at ((last_closing (state_of cells parts t)).records ++ last_records (last_closing (state_of cells parts t)).state)
  finish_at_lem =
      sym tail_at
      ∙ ap (λ (v : ℕ). behind v (tail new)) a₁
      ∙ sym (behind_append bars (tail new) t.at)
      ∙ ap (behind t.at) whole
