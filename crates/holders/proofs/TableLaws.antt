-- A walk over a row's table of active spines finds what a walk over the row does: a branch in the row is no line of any part.
use mathlib.Core.Path.{◌≡◌, refl, ap, ap₂, ◌∙◌}
use Prim.Native.Nat.{ℕ, zero, suc, ◌+◌, ◌<◌}
use native.Mathlib.Omega.{arith}
use mathlib.Core.Bool.{Bool, false, cond, ◌&&◌}
use mathlib.Core.List.{List, [], ◌∷◌, map}
use lib.Dec.{eqb}
use lib.ListN.{length, get_or, take}
use Rattle.std.proofs.Common.{Option}
use Rattle.paths.specs.declared.PathToken.{PathToken}
use Rattle.paths.specs.declared.Spine.{Spine}
use Rattle.paths.specs.declared.Spine.TheVariants.{Line, Branch, Outside}
use Rattle.paths.specs.Token.{is_join}
use Rattle.slices.proofs.TestLaws.{clash}
use Rattle.spines.specs.Cells.{spine_of, row_of}
use Rattle.spines.specs.Table.{active_at, active_spine, active_row, line_of}
use Rattle.spines.specs.Tokens.{record_tokens}
use Rattle.spines.specs.declared.active.Line.{Line as ActiveLine}
use Rattle.holders.specs.Voice.{free_voice}
use Rattle.holders.specs.Walk.{put, is_split, entry, line_step, lines_from, branches_from, walked}
use Rattle.holders.specs.declared.list.Holder.{Holder}

module _ (p c : ℕ) where
  lines_same : (hs : List Holder) (i : ℕ) (f : Bool) (ts : List PathToken) (row : List Spine) → lines_from p c hs i f ts (map line_of row) ≡ lines_from p c hs i f ts row
  unfolding lines_from
  lines_same hs i f [] row = refl
  lines_same hs i f (t ∷ ts) [] = refl
  lines_same hs i f (t ∷ ts) (Line q v ∷ row) = lines_same (line_step p c hs (i + 1) f t (Line q v)) (suc i) (is_join t) ts row
  lines_same hs i f (t ∷ ts) (Branch q ∷ row) = lines_same hs (suc i) (is_join t) ts row
  lines_same hs i f (t ∷ ts) (Outside ∷ row) = lines_same hs (suc i) (is_join t) ts row

  branches_same : (hs : List Holder) (i : ℕ) (ts : List PathToken) (row : List Spine) → branches_from p c hs i ts (map line_of row) ≡ branches_from p c hs i ts row
  unfolding branches_from
  branches_same hs i [] row = refl
  branches_same hs i (t ∷ ts) [] = refl
  branches_same hs i (t ∷ ts) (Line q v ∷ row) =
      let more = put hs (entry p c (i + 1) (free_voice hs)) in
      ap₂ (λ (a b : List Holder). cond (eqb p q && is_split t) (cond (eqb (free_voice hs) 4) more a) b) (branches_same more (suc i) ts row) (branches_same hs (suc i) ts row)
  branches_same hs i (t ∷ ts) (Branch q ∷ row) = branches_same hs (suc i) ts row
  branches_same hs i (t ∷ ts) (Outside ∷ row) = branches_same hs (suc i) ts row

  pub walked_same : (ts : List PathToken) (row : List Spine) → walked p c ts (map line_of row) ≡ walked p c ts row
  unfolding walked
  walked_same ts row = branches_same (lines_from p c [] 0 false ts (map line_of row)) 0 ts row ∙ ap (λ (hs : List Holder). branches_from p c hs 0 ts row) (lines_same [] 0 false ts row)

  -- over the lines of a row's cells
  pub walked_lines : (line row : List ℕ) {lines hs : List Holder} → lines ≡ lines_from p c [] 0 false (record_tokens (length row) line) (map line_of (row_of row))
      → hs ≡ branches_from p c lines 0 (record_tokens (length row) line) (map line_of (row_of row)) → hs ≡ walked p c (record_tokens (length row) line) (row_of row)
  unfolding walked
  walked_lines line row {lines} {hs} l b =
      b ∙ ap (λ (hs : List Holder). branches_from p c hs 0 (record_tokens (length row) line) (map line_of (row_of row))) l ∙ walked_same (record_tokens (length row) line) (row_of row)

-- the line of a column, by the table of a row's first n columns
pub entry_at : (table : List (Option ActiveLine)) (row : List ℕ) (n i : ℕ) → i < length row → i < n → active_row table ≡ map line_of (row_of (take n row))
    → active_spine (active_at table i) ≡ line_of (spine_of (get_or row i 0))
unfolding active_row row_of
entry_at table [] n i h k e = absurd (omega arith)
entry_at table (c ∷ row) zero i h k e = absurd (omega arith)
entry_at [] (c ∷ row) (suc n) i h k e = clash cc
entry_at (a ∷ table) (c ∷ row) (suc n) zero h k e = cc
entry_at (a ∷ table) (c ∷ row) (suc n) (suc i) h k e = entry_at table row n i (omega arith) (omega arith) cc
