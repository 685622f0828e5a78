-- The new row with its voices taken over.
use mathlib.Core.Path.{◌≡◌, sym, ap, ◌∙◌}
use Prim.Native.Nat.{ℕ, ◌≤◌, ◌<◌}
use mathlib.Core.List.{List}
use lib.ListN.{length, take}
use borrow.Author.Tests.{le-leb, lt-leb}
use Rattle.paths.specs.declared.PathToken.{PathToken}
use Rattle.paths.specs.Joins.{mixed_run}
use Rattle.paths.specs.Row.{part_at, next_row}
use Rattle.paths.specs.declared.Spine.{Spine}
use Rattle.paths.specs.Voices.{Outcome, next, mixed, wide, voice_row, narrow, unmixed, step_row}
use Rattle.spines.specs.Cells.{row_of}
use Rattle.spines.specs.Runs.{runs_of}
use Rattle.std.proofs.Common as Std
use Rattle.std.proofs.Common.{Some, None}
use Rattle.spines.proofs.CellLaws.{row_length}

module _ (cells : List ℕ) (n : ℕ) (size : length cells ≡ n) where
  pub too_wide : 256 < n → wide n ≡ narrow (next (row_of cells))
  too_wide h = sym (rw (row_length cells, size, lt-leb n 256 h))

  -- all cells are copied
  pub taken_over : (row : List ℕ) → n ≤ 256 → take n row ≡ cells → next (row_of (take n row)) ≡ narrow (next (row_of cells))
  taken_over row h e = rw (e, row_length cells, size, le-leb n 256 h)

-- ---- one star record: its runs first, then the next row
module _ (row : List Spine) (ts : List PathToken) {r : Std.Option ℕ} (runs : (o : Outcome) → runs_of r o ≡ unmixed (mixed_run (part_at row) ts) o) where
  pub stepped : (new : List Spine) (o : Outcome) → r ≡ None → new ≡ next_row ts row → o ≡ narrow (voice_row new) → o ≡ step_row row ts
  unfolding step_row
  stepped new o alike walked e =
      e ∙ ap (λ (r : List Spine). narrow (voice_row r)) walked ∙ ap (λ (x : Std.Option ℕ). runs_of x (narrow (voice_row (next_row ts row)))) (sym alike)
      ∙ runs (narrow (voice_row (next_row ts row)))

  pub stopped : (c : ℕ) → r ≡ Some c → mixed c ≡ step_row row ts
  unfolding step_row
  stopped c e = ap (λ (x : Std.Option ℕ). runs_of x (narrow (voice_row (next_row ts row)))) (sym e) ∙ runs (narrow (voice_row (next_row ts row)))
