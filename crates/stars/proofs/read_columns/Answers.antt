-- What all columns come to is what those left come to from here on.
use mathlib.Core.Path.{◌∙◌}
use native.Mathlib.Omega.{arith}
use Rattle.lines.proofs.PieceLaws.{piece_at_lem}
use Rattle.stars.proofs.LoopLaws.{loop_first, loop_fit, loop_turn, line_past, row_past}
use Rattle.stars.proofs.read_columns.Goals.{then-right, else-right}
use Rattle.stars.proofs.read_columns.Goals as goal

pub loop-i-init : goal.loop-i-init
loop-i-init c = loop_first

pub returns-then-text-from-clause-told : goal.returns-then-text-from-clause-told
returns-then-text-from-clause-told c = line_past c.loop-i.invariant c.if-text-from.true

pub slice_bounds-token-end : goal.slice_bounds-token-end
slice_bounds-token-end c = omega (arith, piece_at_lem c.if-text-from.false c.token_end-end.ensures)

pub read_column-t-requires : goal.read_column-t-requires
read_column-t-requires c = loop_fit c.loop-i.invariant c.requires c.loop-i-test.true c.spine_of.ensures

pub loop-i-preserved : goal.loop-i-preserved
loop-i-preserved c = loop_turn c.loop-i.invariant c.loop-i-test.true (piece_at_lem c.if-text-from.false c.token_end-end.ensures) c.exchanges_right-right.ensures (elim c.if-right.branch [ then-right w ↦ rw w.if-right.true (w.paired-is ∙ w.if-right.true) | else-right w ↦ rw w.if-right.false w.paired-is ]) (rw c.spine_of.ensures at c.read_column-t.ensures) c.read_column-t.auto.out

pub returns-clause-told : goal.returns-clause-told
returns-clause-told c = row_past c.loop-i.invariant c.loop-i-test.false
