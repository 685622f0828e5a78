-- What was left before the stretch is what is left from column to column.
use mathlib.Core.Path.{sym, ap, ◌∙◌}
use native.Mathlib.Omega.{arith}
use Rattle.lines.proofs.PieceLaws.{piece_at_lem}
use Rattle.spines.specs.Cells.{spine_of}
use Rattle.data.proofs.ShapeLaws.{null_end, note_end, note_column}
use Rattle.data.proofs.StretchLaws.{cell_here, cell_inside, quiet_turn, null_turn, note_turn, note_sited}
use Rattle.data.proofs.read_stretch.Goals as goal
use Rattle.data.proofs.read_stretch.Goals.{in-Null, in-Note+else-not-at_once}

pub overflow_add-from : goal.overflow_add-from
overflow_add-from c = let p = piece_at_lem c.if-bytes-from.false c.token_end-from.ensures in omega (arith, p.high, c.args.line.short)

pub loop-cell-preserved-in_default : goal.loop-cell-preserved-in_default
loop-cell-preserved-in_default c =
    let at = c.loop-cell.invariant.0 in
    let spine = c.spine_of.ensures ∙ ap spine_of (cell_here c.args.row.now c.args.first c.loop-cell.cell-index at c.requires.first) in
    (omega arith, quiet_turn c.loop-cell.invariant.1 (cell_inside c.args.row.now c.args.first c.loop-cell.cell-index at c.requires.first c.loop-cell-test.true) c.if-bytes-from.false (λ p v e. c.in_default.not-Line p v (spine ∙ e)) c.token_end-from.ensures)

pub overflow_add-from-in-Null : goal.overflow_add-from-in-Null
overflow_add-from-in-Null c = let p = piece_at_lem c.if-bytes-from.false (null_end _ _ _ c.in-Some.ensures c.in-Null.is) in omega (arith, p.high, c.args.line.short)

pub slice_bounds-token-end : goal.slice_bounds-token-end
slice_bounds-token-end c = let p = piece_at_lem c.if-bytes-from.false (note_end _ _ _ c.in-Some.ensures c.in-Note.is) in omega (arith, p.low, p.high)

pub write_plain-at-requires : goal.write_plain-at-requires
write_plain-at-requires c =
    let at = c.loop-cell.invariant.0 in
    let spine = sym (c.spine_of.ensures ∙ ap spine_of (cell_here c.args.row.now c.args.first c.loop-cell.cell-index at c.requires.first)) ∙ c.in-Line.is in
    let ends = note_end _ _ _ c.in-Some.ensures c.in-Note.is in
    let p = piece_at_lem c.if-bytes-from.false ends in (
      note_sited c.loop-cell.invariant.1 (cell_inside c.args.row.now c.args.first c.loop-cell.cell-index at c.requires.first c.loop-cell-test.true) c.if-bytes-from.false spine c.requires.ready c.args.line.short p.low p.high c.spot_of-spot.ensures,
      note_column c.args.line.offset _ (record { index = c.loop-cell.index; from = c.loop-cell.from; end = c.in-Note.p.end }) _ c.in-Some.ensures ends c.in-Note.is,
    )

pub overflow_add-from-in-Note : goal.overflow_add-from-in-Note
overflow_add-from-in-Note c = let p = piece_at_lem c.if-bytes-from.false (note_end _ _ _ c.in-Some.ensures c.in-Note.is) in omega (arith, p.high, c.args.line.short)

pub loop-cell-preserved : goal.loop-cell-preserved
loop-cell-preserved c =
    let at = c.loop-cell.invariant.0 in
    let inside = cell_inside c.args.row.now c.args.first c.loop-cell.cell-index at c.requires.first c.loop-cell-test.true in
    let spine = sym (c.spine_of.ensures ∙ ap spine_of (cell_here c.args.row.now c.args.first c.loop-cell.cell-index at c.requires.first)) ∙ c.in-Line.is in
    elim c.match-shape.branch [
      | in-Null w ↦
          rw (w.parts-is, w.out-is, w.from-is, w.index-is, w.notes-is, w.at-is) (omega arith, null_turn c.loop-cell.invariant.1 inside c.if-bytes-from.false c.in-Some.ensures w.in-Null.is)
      | in-Note+else-not-at_once w ↦
          rw (w.parts-is, w.out-is, w.from-is, w.index-is, w.notes-is, w.at-is) (omega arith, note_turn c.loop-cell.invariant.1 inside c.if-bytes-from.false spine c.in-Some.ensures w.in-Note.is (w.at_once.ensures (w.if-not-at_once.false)) w.spot_of-spot.ensures w.write_plain-at.ensures w.write_plain-at.auto.out)
    ]
