-- One column: what its spine says, and what its token comes to.
use mathlib.Core.Path.{◌≡◌, refl, sym, ap, ◌∙◌}
use Prim.Native.Nat.{ℕ, ◌+◌, ◌-◌, ◌/◌, ◌%◌, ◌^◌, ◌≤◌, ◌<◌}
use native.Mathlib.Omega.{arith}
use mathlib.Core.List.{List, map}
use mathlib.Core.Bool.{Bool, true, false, cond}
use lib.Dec.{eqb, ltb}
use borrow.Author.Tests.{ltb-true}
use lib.ListN.{length, take, drop, get_or, length-take}
use Rattle.slices.proofs.TestLaws.{clash}
use Rattle.lines.specs.Tokens.{tokens_of, is_null}
use Rattle.duration.specs.Ratio.{spelled_value}
use Rattle.duration.specs.declared.Value.{Value}
use Rattle.std.specs.Prelude.{Option}
use Rattle.paths.specs.declared.Spine.{Spine}
use Rattle.paths.specs.declared.Spine.TheVariants.{Line, Branch, Outside}
use Rattle.spines.specs.Cells.{spine_of, row_of}
use Rattle.spines.proofs.CellLaws.{cell_at}
use Rattle.reading.specs.State.{State, Step, goes}
use Rattle.reading.specs.Notices.{Token, quiet}
use Rattle.reading.specs.Bars.{is_kern_spine}
use Rattle.reading.specs.Notes as notes
use Rattle.state.specs.declared.Tally.{Tally}
use Rattle.state.specs.Ready.{Ready}
use Rattle.state.specs.View.{Landed, going, landed}
use Rattle.notes.specs.declared.Spot.{Spot}
use Rattle.data.specs.declared.Column.{Column}
use Rattle.notes.specs.Spot.{token_step, Sited}
use Rattle.data.specs.Column.{token_in, column_step}
use Rattle.notes.proofs.TokenLaws.{quiet_step}

-- a null token, in whatever spine
spine_null : (s : Spine) (all : List (List ℕ)) (kern : List Bool) (k i : ℕ) (t : Token) (st : State) → is_null t.bytes ≡ true
    → notes.read_spine s all kern k i t st ≡ goes (quiet st)
unfolding notes.read_token_at
spine_null (Line p v) all kern k i t st e = rw e
spine_null (Branch p) all kern k i t st e = refl
spine_null Outside all kern k i t st e = refl

-- a token in a spine that is no line of a part
spine_quiet : (s : Spine) (all : List (List ℕ)) (kern : List Bool) (k i : ℕ) (t : Token) (st : State) → ((p v : ℕ) → s ≡ Line p v → ⊥)
    → notes.read_spine s all kern k i t st ≡ goes (quiet st)
spine_quiet (Line p v) all kern k i t st none = absurd (none p v refl)
spine_quiet (Branch p) all kern k i t st none = refl
spine_quiet Outside all kern k i t st none = refl

-- a part has four voices
line_voice : (c : ℕ) {p v : ℕ} → spine_of c ≡ Line p v → v < 4
unfolding spine_of
line_voice c {p} {v} e = go (eqb (c / 8) 0) (ltb (c % 8) 4) refl e
  where
    go : (a b : Bool) → ltb (c % 8) 4 ≡ b → cond a Outside (cond b (Line (c / 8 - 1) (c % 8)) (Branch (c / 8 - 1))) ≡ Line p v → v < 4
    go true b low q = clash cc
    go false true low q = let same : c % 8 ≡ v = cc in omega (arith, same, ltb-true (c % 8) 4 low)
    go false false low q = clash cc

-- the spot of a column in a line of a part
abbrev pub spot_of : ℕ → ℕ → ℕ → ℕ → Column → Spot
spot_of k offset p v c = record { part = p; voice = v; line = k; column = c.index + 1; at = offset + c.from }

module _ (k offset : ℕ) (text row : List ℕ) (c : Column) where
  pub column_quiet : (st : State) (out : List ℕ) (at : ℕ) → ((p v : ℕ) → spine_of (get_or row c.index 0) ≡ Line p v → ⊥)
      → going st at out ≡ landed (column_step k offset text row c st) out at
  unfolding column_step
  column_quiet st out at none =
      quiet_step st out at
      ∙ ap (λ (s : Step). landed s out at)
      (sym (spine_quiet (spine_of (get_or row c.index 0)) (take (length row) (tokens_of text)) (map is_kern_spine (row_of row)) k c.index (token_in offset text c) st none))

  pub column_null : (st : State) (out : List ℕ) (at : ℕ) → is_null (token_in offset text c).bytes ≡ true → going st at out ≡ landed (column_step k offset text row c st) out at
  unfolding column_step
  column_null st out at e =
      quiet_step st out at
      ∙ ap (λ (s : Step). landed s out at)
      (sym (spine_null (spine_of (get_or row c.index 0)) (take (length row) (tokens_of text)) (map is_kern_spine (row_of row)) k c.index (token_in offset text c) st e))

  module _ {p v : ℕ} (is : spine_of (get_or row c.index 0) ≡ Line p v) where
    pub column_line : (st : State) (out : List ℕ) (at : ℕ) {value : Option Value} {s : Spot} {l : Landed}
        → value ≡ spelled_value (notes.inferred_for (take (length row) (tokens_of text)) (map is_kern_spine (row_of row)) c.index (token_in offset text c).bytes)
        → s ≡ spot_of k offset p v c
        → l ≡ landed (token_step (token_in offset text c).bytes value s st) out at
        → l ≡ landed (column_step k offset text row c st) out at
    unfolding column_step token_step notes.read_token_at
    column_line st out at {value} e here q =
        q
        ∙ ap (λ (x : Spot). landed (token_step (token_in offset text c).bytes value x st) out at) here
        ∙ ap (λ (x : Option Value). landed (token_step (token_in offset text c).bytes x (spot_of k offset p v c) st) out at) e
        ∙ ap (λ (s : Spine). landed (notes.read_spine s (take (length row) (tokens_of text)) (map is_kern_spine (row_of row)) k c.index (token_in offset text c) st) out at)
        (sym is)

    -- its token is one of a part and of a voice
    pub column_sited : {t : Tally} {s : Spot} → Ready row t → offset + length text < 2 ^ 27 → c.index < length row → c.from ≤ c.end → c.end ≤ length text
        → s ≡ spot_of k offset p v c → Sited (token_in offset text c).bytes s t
    column_sited r low i f e here = rw here (record {
      short = omega (arith, length-take (c.end - c.from) (drop c.from text));
      parts_few = r.parts_few;
      bars_few = r.bars_few;
      part_in = r.within c.index p v (cell_at row c.index i ∙ is);
      voice_in = line_voice (get_or row c.index 0) is;
    })
