-- The summary so far, carried on over the columns left, gives what all give from the start.
use mathlib.Core.Path.{ap}
use native.Mathlib.Omega.{arith}
use borrow.Author.Tests.{le-leb, lt-leb}
use Rattle.lines.proofs.PieceLaws.{end_low}
use Rattle.peers.specs.Found.{tally_of}
use Rattle.peers.proofs.MeetLaws.{pass_first, pass_turn, line_past, row_past, broken_stop}
use Rattle.peers.proofs.agreed_reciprocal.Goals as goal
use Rattle.peers.proofs.agreed_reciprocal.Goals.{in-Broken, in_default, then-in_kern, else-in_kern}

pub loop-cell-init : goal.loop-cell-init
loop-cell-init c = pass_first

pub returns-then-line-from : goal.returns-then-line-from
returns-then-line-from c = line_past c.loop-cell.invariant c.if-line-from.true c.settle.ensures

pub returns-then-matches : goal.returns-then-matches
returns-then-matches c =
    elim c.match-matches.branch [
      | in-Broken w ↦ broken_stop c.loop-cell.invariant (ap tally_of w.in-Broken.is)
      | in_default w ↦ cc
    ]

pub slice_bounds-pass-end : goal.slice_bounds-pass-end
slice_bounds-pass-end c = let e = end_low _ _ _ c.if-line-from.false c.token_end-end.ensures in omega arith

pub overflow_add-from : goal.overflow_add-from
overflow_add-from c = let e = end_low _ _ _ c.if-line-from.false c.token_end-end.ensures in omega arith

pub loop-cell-preserved : goal.loop-cell-preserved
loop-cell-preserved c =
    pass_turn c.loop-cell.invariant c.loop-cell-test.true c.if-line-from.false c.token_end-end.ensures
    (elim c.if-in_kern.branch [
      | then-in_kern w ↦ rw (le-leb _ _ w.if-in_kern.true, w.summary-is) w.pass-summary.ensures
      | else-in_kern w ↦ rw (lt-leb _ _ w.if-in_kern.false, w.summary-is)
    ])

pub returns : goal.returns
returns c = row_past c.loop-cell.invariant c.loop-cell-test.false c.settle-2.ensures
