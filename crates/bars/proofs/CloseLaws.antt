-- A closing, or a left barline kept, as the reading has it.
use Rattle.std.specs.Prelude.{Ok}
use mathlib.Core.Path.{◌≡◌, sym, ap, ap₂, ◌∙◌}
use Prim.Native.Nat.{ℕ, ◌+◌}
use mathlib.Core.Bool.{Bool, true, false, cond}
use mathlib.Core.List.{List, map}
use lib.ListN.{length, take}
use borrow.Author.Tests.{eq-eqb, ne_eqb}
use Rattle.lines.specs.Tokens.{tokens_of}
use Rattle.notation.specs.Barline.{barlines_of, barline_number}
use Rattle.notation.specs.declared.barline.Barlines.{Barlines}
use Rattle.spines.specs.Cells.{row_of}
use Rattle.reading.specs.State.{State, goes, with_parts, with_bars}
use Rattle.reading.specs.declared.Part.{Part}
use Rattle.reading.specs.Notices.{placed, quiet}
use Rattle.reading.specs.Bars.{any_noted, closing, closed_part, left_anew, keep_left, deciding, close_with, read_bar}
use Rattle.state.specs.Lay.{laid, behind}
use Rattle.state.specs.View.{Landed, going, state_of, landed, told}
use Rattle.state.specs.declared.Tally.{Tally}
use Rattle.bars.specs.Bars.{filled_bars, deciding_of, bar_record, tallied}
use Rattle.bars.proofs.DecidingLaws.{deciding_line}

-- ---- all parts
module _ (cells : List ℕ) (parts parts' : List Part) (out out' : List ℕ) (t : Tally) (right left : ℕ) where
  abbrev before : State
  before = state_of cells parts t

  outcome : Bool → Landed
  outcome b = landed (goes (cond b (closing right left before) (quiet (keep_left left before)))) out t.at

  outcome_is : (b : Bool) → b ≡ any_noted (take t.parts parts) → outcome b ≡ landed (goes (close_with right left before)) out t.at
  unfolding close_with outcome
  outcome_is b e = ap outcome e

  pub close_told : (k : ℕ) → true ≡ any_noted (take t.parts parts)
      → take t.parts parts' ≡ map (closed_part right left (t.bars + 1)) (take t.parts parts)
      → out' ≡ laid out t.at (map (bar_record right (t.bars + 1)) (take t.parts parts))
      → k ≡ behind t.at (map (bar_record right (t.bars + 1)) (take t.parts parts))
      → told (Ok (tallied t (t.bars + 1) k)) cells parts' out' ≡ landed (goes (close_with right left before)) out t.at
  unfolding closing outcome
  close_told k e p o b =
      ap (λ (ps : List Part). going (with_bars (with_parts before ps) (t.bars + 1)) k out') p
      ∙ ap₂ (going (closing right left before).state) b o
      ∙ outcome_is true e

  pub same_told : false ≡ any_noted (take t.parts parts) → left ≡ 0 → take t.parts parts' ≡ take t.parts parts
      → told (Ok t) cells parts' out ≡ landed (goes (close_with right left before)) out t.at
  unfolding keep_left laid behind outcome
  same_told e z p =
      ap (λ (ps : List Part). going (with_parts before ps) t.at out) p
      ∙ ap (λ (b : Bool). going (cond b before (with_parts before (map (left_anew left) (take t.parts parts)))) t.at out) (sym (eq-eqb left 0 z))
      ∙ outcome_is false e

  pub left_told : false ≡ any_noted (take t.parts parts) → (left ≡ 0 → ⊥)
      → take t.parts parts' ≡ map (left_anew left) (take t.parts parts)
      → told (Ok t) cells parts' out ≡ landed (goes (close_with right left before)) out t.at
  unfolding keep_left laid behind outcome
  left_told e z p =
      ap (λ (ps : List Part). going (with_parts before ps) t.at out) p
      ∙ ap (λ (b : Bool). going (cond b before (with_parts before (map (left_anew left) (take t.parts parts)))) t.at out) (sym (ne_eqb left 0 z))
      ∙ outcome_is false e

-- ---- a barline record
pub read_told : {token : List ℕ} {b : Barlines} {right left : ℕ} {l : Landed} (s cells : List ℕ) (parts : List Part) (out : List ℕ) (t : Tally) (at offset : ℕ)
    → token ≡ deciding_of (row_of cells) (tokens_of s) → b ≡ barlines_of token → right ≡ barline_number b.right → left ≡ barline_number b.left
    → l ≡ landed (goes (close_with right left (state_of cells parts t))) out at
    → l ≡ landed (goes (read_bar (placed offset (filled_bars (length cells) (tokens_of s))) (state_of cells parts t))) out at
unfolding read_bar
read_told {token} {b} {right} {left} {l} s cells parts out t at offset d e r f g =
    let same : b ≡ barlines_of (deciding (row_of cells) (placed offset (filled_bars (length cells) (tokens_of s))))
    = e ∙ ap barlines_of (d ∙ sym (deciding_line offset cells s)) in
    g
    ∙ ap₂ (λ (x y : ℕ). landed (goes (close_with x y (state_of cells parts t))) out at) r f
    ∙ ap (λ (x : Barlines). landed (goes (close_with (barline_number x.right) (barline_number x.left) (state_of cells parts t))) out at) same
