-- What the whole record comes to is what is left from stretch to stretch.
use native.Mathlib.Omega.{arith}
use Rattle.std.proofs.lemmas.Result.{err_from_is_err_and}
use Rattle.lines.proofs.PieceLaws.{piece_at_lem}
use Rattle.data.proofs.DataLaws.{data_first, token_here, data_past, data_done, data_turn, data_stops}
use Rattle.data.proofs.StretchLaws.{stretch_turn}
use Rattle.data.proofs.read_data.Goals as goal
use Rattle.data.proofs.read_data.Goals.{then-s-row-via-then-s-row, then-s-row-via-else-s-row+then-line-s}

pub loop-agreed-init : goal.loop-agreed-init
loop-agreed-init c = (data_first c.args.line.bytes.now c.args.row.now c.args.parts.now c.args.out.now c.args.tally c.args.line.number c.args.line.offset, tt)

pub returns-then-s-row-clause-told : goal.returns-then-s-row-clause-told
returns-then-s-row-clause-told c =
    let r = stretch_turn c.loop-agreed.invariant.0 c.read_stretch-s.ensures c.with_stretch-t.ensures c.read_stretch-s.auto.out in
    elim c.then-s-row.branch [ then-s-row-via-then-s-row w ↦ data_done r (omega (arith, w.if-s-row.true)) | then-s-row-via-else-s-row+then-line-s w ↦ data_past r w.if-line-s.true ]

pub read_column-requires-clause-entered : goal.read_column-requires-clause-entered
read_column-requires-clause-entered c =
    let p = piece_at_lem c.if-line-s.false c.token_end-end.ensures in
    record { inside = omega (arith, c.read_stretch-s.ensures.high, c.if-s-row.false); low = p.low; high = p.high; here = token_here c.read_stretch-s.result.index c.read_stretch-s.ensures.here p }

pub returns-in_err-t-clause-told : goal.returns-in_err-t-clause-told
returns-in_err-t-clause-told c =
    let r = stretch_turn c.loop-agreed.invariant.0 c.read_stretch-s.ensures c.with_stretch-t.ensures c.read_stretch-s.auto.out in
    let stops = data_stops r c.read_column.new.parts c.read_column.new.out c.read_column.result (omega (arith, c.read_stretch-s.ensures.high, c.if-s-row.false)) (piece_at_lem c.if-line-s.false c.token_end-end.ensures) c.read_column.ensures.told c.read_column.ensures.kept c.in_err-t.was in
    let p = err_from_is_err_and c.from_residual.result c.from_residual.ensures.1 in
    rw (p.1, p.2) (rw c.in_err-t.was at stops)

pub overflow_add-from : goal.overflow_add-from
overflow_add-from c = let p = piece_at_lem c.if-line-s.false c.token_end-end.ensures in omega (arith, p.high, c.args.line.short)

pub loop-agreed-preserved : goal.loop-agreed-preserved
loop-agreed-preserved c =
    let r = stretch_turn c.loop-agreed.invariant.0 c.read_stretch-s.ensures c.with_stretch-t.ensures c.read_stretch-s.auto.out in
    (data_turn r c.read_column.new.parts c.read_column.new.out c.read_column.result (omega (arith, c.read_stretch-s.ensures.high, c.if-s-row.false)) (piece_at_lem c.if-line-s.false c.token_end-end.ensures) c.read_column.ensures.told c.read_column.ensures.kept c.in_ok-t.was c.read_column.auto.out, c.read_column.ensures.agreed)
