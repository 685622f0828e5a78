use mathlib.Core.Path.{refl, sym, subst}
use mathlib.Core.List.{[]}
use native.Mathlib.Omega.{arith}
use Rattle.state.specs.Counts.{Same}
use Rattle.writing.proofs.KeptLaws.{kept_same}
use Rattle.std.proofs.lemmas.Result.{err_from_is_err_and}
use Rattle.records.proofs.RecordLaws.{none_told, uneven_told, mixed_told, even_told}
use Rattle.records.proofs.read_record.Goals as goal

pub returns-then-tally-eq0 : goal.returns-then-tally-eq0
returns-then-tally-eq0 c = record { told = none_told c.args.parts.now c.requires c.args.line.bytes.now c.args.out.now c.args.line.number c.args.line.offset c.notify-noticed.result _ c.if-tally-eq0.true refl (rw (c.from.ensures, c.span_of.ensures) at c.notify-noticed.ensures); few = omega (arith, (subst (Same c.args.tally) (sym c.notify-noticed.ensures.1) (kept_same c.args.tally _ [])).parts, c.requires.ready.parts_few) }

pub returns-in-Uneven : goal.returns-in-Uneven
returns-in-Uneven c = record { told = uneven_told c.args.parts.now c.requires c.args.line.bytes.now c.args.out.now c.args.line.number c.args.line.offset c.if-tally-eq0.false c.repair_record.ensures c.in-Err.is c.in-Uneven.is; few = tt }

pub returns-in-Mixed : goal.returns-in-Mixed
returns-in-Mixed c = record { told = mixed_told c.args.parts.now c.requires c.args.line.bytes.now c.args.out.now c.args.line.number c.args.line.offset c.if-tally-eq0.false c.repair_record.ensures c.in-Err.is c.in-Mixed.is; few = tt }

pub returns-in_ok-read-in-Ok : goal.returns-in_ok-read-in-Ok
returns-in_ok-read-in-Ok c = record { told = even_told c.args.parts.now c.requires c.args.line.bytes.now c.args.out.now c.args.line.number c.args.line.offset c.if-tally-eq0.false c.repair_record.ensures c.notice_repair-noticed.result _ _ c.in-Ok.is c.args.line.of_kind c.notice_repair-noticed.ensures.told c.notice_repair-noticed.ensures.same (rw c.in_ok-read-in-Ok.was at c.read_even.ensures.told); few = rw c.in_ok-read-in-Ok.was at c.read_even.ensures.few }

pub returns-in_err-read-in-Ok : goal.returns-in_err-read-in-Ok
returns-in_err-read-in-Ok c =
    let p = err_from_is_err_and c.from_residual.result c.from_residual.ensures.1 in
    rw (p.1, p.2) (record { told = even_told c.args.parts.now c.requires c.args.line.bytes.now c.args.out.now c.args.line.number c.args.line.offset c.if-tally-eq0.false c.repair_record.ensures c.notice_repair-noticed.result _ _ c.in-Ok.is c.args.line.of_kind c.notice_repair-noticed.ensures.told c.notice_repair-noticed.ensures.same (rw c.in_err-read-in-Ok.was at c.read_even.ensures.told); few = tt })
