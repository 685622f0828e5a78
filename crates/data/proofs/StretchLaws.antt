-- The columns of a stretch, one after the other.
use Rattle.std.specs.Prelude.{Ok}
use mathlib.Core.Path.{◌≡◌, refl, sym, ap, subst, ◌∙◌}
use Prim.Native.Nat.{ℕ, ◌+◌, ◌-◌, ◌^◌, ◌≤◌, ◌<◌}
use native.Mathlib.Omega.{arith}
use mathlib.Core.List.{List}
use lib.ListN.{length, take, drop, get_or, length-drop}
use Rattle.std.proofs.lemmas.List.{take_all, length-take-le, get_or-drop}
use Rattle.slices.specs.Split.{piece_at}
use Rattle.state.specs.Counts.{Same}
use Rattle.state.proofs.CountLaws.{same, same_same}
use Rattle.lines.specs.Lines.{piece_end}
use Rattle.lines.proofs.PieceLaws.{piece_at_lem}
use Rattle.plain.specs.Plain.{PlainToken, ShapeAt}
use Rattle.plain.specs.declared.Plain.{Plain}
use Rattle.plain.specs.declared.Shape.{Shape}
use Rattle.plain.specs.declared.Shape.TheVariants.{Null, Note}
use Rattle.state.specs.declared.Tally.{Tally}
use Rattle.state.specs.Ready.{Ready}
use Rattle.state.specs.View.{Landed, state_of, landed}
use Rattle.notes.specs.declared.Spot.{Spot}
use Rattle.data.specs.declared.Column.{Column}
use Rattle.data.specs.declared.Stretch.{Stretch}
use Rattle.data.specs.Column.{token_in, rest}
use Rattle.notes.specs.Spot.{Sited}
use Rattle.notes.specs.Plain.{PlainWritten}
use Rattle.data.specs.Stretch.{AtOnce, counts_at, with_stretch, Stretched}
use Rattle.notes.proofs.NoticeLaws.{inferred_no}
use Rattle.notes.proofs.TokenLaws.{plain_step, note_added}
use Rattle.data.proofs.ShapeLaws.{null_end, note_end, null_column, note_column}
use Rattle.data.proofs.ColumnLaws.{spot_of, column_quiet, column_null, column_line, column_sited}
use Rattle.data.proofs.DataLaws.{Reading, data_turn}
use Rattle.paths.specs.declared.Spine.TheVariants.{Line}
use Rattle.spines.specs.Cells.{spine_of}
use Rattle.reading.specs.declared.Part.{Part}

-- what is left before a stretch
abbrev pub whole_rest : List ℕ → List ℕ → List Part → List ℕ → Tally → ℕ → ℕ → ℕ → ℕ → Landed
whole_rest line row parts out t k offset from i = landed (rest line row k offset from i (state_of row parts t)) out t.at

module _ {whole : Landed} {line row : List ℕ} {parts₀ : List Part} {out₀ : List ℕ} {t₀ : Tally} {k offset : ℕ} {parts : List Part} {out : List ℕ} {n at from i : ℕ}
    (inv : Reading whole line row parts₀ out₀ t₀ k offset parts out (counts_at t₀ n at) from i) (h : i < length row) (low : from ≤ length line) where
  abbrev column : ℕ → Column
  column e = record { index = i; from = from; end = e }

  pub quiet_turn : {e : ℕ} → ((p v : ℕ) → spine_of (get_or row i 0) ≡ Line p v → ⊥) → e ≡ piece_end 9 line from
      → Reading whole line row parts₀ out₀ t₀ k offset parts out (counts_at t₀ n at) (e + 1) (i + 1)
  quiet_turn {e} o q =
      data_turn inv parts out (Ok (counts_at t₀ n at)) h (piece_at_lem low q) (column_quiet k offset line row (column e) (state_of row parts (counts_at t₀ n at)) out at o) (same (counts_at t₀ n at)) refl refl

  pub null_turn : {e : ℕ} {s : Shape} → ShapeAt line from s → s ≡ Null e
      → Reading whole line row parts₀ out₀ t₀ k offset parts out (counts_at t₀ n at) (e + 1) (i + 1)
  null_turn {e} {s} shape q =
      let z : e ≡ piece_end 9 line from = null_end line from s shape q in
      data_turn inv parts out (Ok (counts_at t₀ n at)) h (piece_at_lem low z)
      (column_null k offset line row (column e) (state_of row parts (counts_at t₀ n at)) out at (null_column offset line (column e) s shape z q)) (same (counts_at t₀ n at)) refl refl

  module _ {v w : ℕ} (spine : spine_of (get_or row i 0) ≡ Line v w) where
    pub note_turn : {p : Plain} {s : Shape} {spot : Spot} {parts' : List Part} {out' : List ℕ} {place : ℕ} → ShapeAt line from s → s ≡ Note p
        → AtOnce n p.unknown t₀.notices
        → spot ≡ spot_of k offset v w (column p.end) → PlainWritten (piece_at line from (p.end - from)) p spot t₀ at parts out parts' out' place
        → length out' ≡ length out
        → Reading whole line row parts₀ out₀ t₀ k offset parts' out' (counts_at t₀ (n + 1) place) (p.end + 1) (i + 1)
    note_turn {p} {s} {spot} {parts'} {out'} {place} shape q once is by lo =
        let written : PlainWritten (piece_at line from (p.end - from)) p (spot_of k offset v w (column p.end)) t₀ at parts out parts' out' place
        = subst (λ (x : Spot). PlainWritten (piece_at line from (p.end - from)) p x t₀ at parts out parts' out' place) is by in
        let z : p.end ≡ piece_end 9 line from = note_end line from s shape q in
        let c : Column = column p.end in
        let token : List ℕ = (token_in offset line c).bytes in
        let plain : PlainToken token p = note_column offset line c s shape z q in
        let t : Tally = counts_at t₀ n at in
        let added = note_added row parts parts' token p.note (spot_of k offset v w c) {t = t} {u = t} {w = counts_at t₀ (n + 1) place} once.few (inferred_no token (spot_of k offset v w c) t out plain.sure) (sym plain.letters) written.sounds refl refl written.lays written.ends refl in
        data_turn inv parts' out' (Ok (counts_at t₀ (n + 1) place)) h (piece_at_lem low z)
        (column_line k offset line row c spine (state_of row parts t) out at refl refl (plain_step row parts token _ (spot_of k offset v w c) t out plain once.full added))
        (record { active = refl; parts = refl; bars = refl }) refl lo

    -- it is one of a part and of a voice
    pub note_sited : {e : ℕ} {s : Spot} → Ready row t₀ → offset + length line < 2 ^ 27 → from ≤ e → e ≤ length line → s ≡ spot_of k offset v w (column e)
        → Sited (piece_at line from (e - from)) s t₀
    note_sited {e} ready short l r is = column_sited k offset line row (column e) spine ready short h l r is

-- the cells of a row from one on: the k-th is that of column i
module _ (row : List ℕ) (first k : ℕ) {i : ℕ} (at : i ≡ first + k) (h : first ≤ length row) where
  pub cell_here : get_or (take (length row - first) (drop first row)) k 0 ≡ get_or row i 0
  cell_here =
      ap (λ (s : List ℕ). get_or s k 0) (take_all (length row - first) (drop first row) (omega (arith, length-drop first row)))
      ∙ get_or-drop first row k 0
      ∙ ap (λ (j : ℕ). get_or row j 0) (sym at)

  pub cell_inside : k < length (take (length row - first) (drop first row)) → i < length row
  cell_inside inside = omega (arith, length-take-le (length row - first) (drop first row) (omega (arith, length-drop first row)), length-drop first row)

-- ---- a stretch, and a column that is read by itself
pub begun_kept : {t₀ t : Tally} (s : Stretch) → t ≡ with_stretch t₀ s → Same t₀ t
begun_kept s e = rw e (record { active = refl; parts = refl; bars = refl })

-- one stretch more
pub stretch_turn : {whole : Landed} {line row : List ℕ} {parts₀ : List Part} {out₀ : List ℕ} {t₀ : Tally} {k offset : ℕ} {parts : List Part} {out : List ℕ} {parts' : List Part} {out' : List ℕ} {u t : Tally} {from i : ℕ} {s : Stretch}
    → Reading whole line row parts₀ out₀ t₀ k offset parts out u from i → Stretched line row parts out u k offset from i parts' out' s → t ≡ with_stretch u s
    → length out' ≡ length out
    → Reading whole line row parts₀ out₀ t₀ k offset parts' out' t s.from s.index
stretch_turn {line = line} {row = row} {k = k} {offset = offset} {parts' = parts'} {out' = out'} {s = s} inv h e lo = record {
  high = h.high;
  wide = lo ∙ inv.wide;
  kept = same_same inv.kept (begun_kept s e);
  here = h.here;
  same = inv.same ∙ h.same ∙ ap (λ (w : Tally). whole_rest line row parts' out' w k offset s.from s.index) (sym e);
}
