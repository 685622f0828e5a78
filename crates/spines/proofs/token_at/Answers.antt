-- The piece at the index, where one is wanted and there is one.
use native.Mathlib.Omega.{arith}
use Rattle.lines.proofs.PieceLaws.{piece_at_lem}
use Rattle.spines.proofs.WalkLaws.{ahead_none, ahead_past, ahead_here}
use Rattle.spines.proofs.token_at.Goals as goal
use Rattle.spines.proofs.token_at.Goals.{then-n-eq0-via-then-n-eq0, then-n-eq0-via-else-n-eq0+then-line-from}

pub returns-then-n-eq0 : goal.returns-then-n-eq0
returns-then-n-eq0 c =
    elim c.then-n-eq0.branch [
      | then-n-eq0-via-then-n-eq0 w ↦ ahead_none w.if-n-eq0.true
      | then-n-eq0-via-else-n-eq0+then-line-from w ↦ ahead_past w.if-n-eq0.false w.if-line-from.true
    ]

pub slice_bounds-path_token-end : goal.slice_bounds-path_token-end
slice_bounds-path_token-end c = omega (arith, piece_at_lem c.if-line-from.false c.token_end-end.ensures)

pub returns : goal.returns
returns c = ahead_here c.if-n-eq0.false (piece_at_lem c.if-line-from.false c.token_end-end.ensures) c.path_token.ensures
