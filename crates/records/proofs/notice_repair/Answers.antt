use mathlib.Core.Path.{refl, ap}
use Rattle.std.specs.Option.{option_map}
use Rattle.notice.specs.Number.{number_of}
use Rattle.records.proofs.OutcomeLaws.{no_repair_told, repair_told}
use Rattle.records.proofs.notice_repair.Goals as goal

pub returns-in-None-clause-told : goal.returns-in-None-clause-told
returns-in-None-clause-told c = no_repair_told c.args.repair c.args.line.number c.args.line.offset c.args.line.bytes.now c.args.tally _ c.repair_notice.ensures (ap (option_map number_of) c.in-None.is)

pub returns-in-Some : goal.returns-in-Some
returns-in-Some c =
    let r = repair_told c.args.repair c.args.line.number c.args.line.offset c.args.line.bytes.now c.args.tally c.args.out.now c.repair_notice.ensures (ap (option_map number_of) c.in-Some.is) refl (rw (c.from.ensures, c.span_of.ensures) at c.notify.ensures) in
    record { told = r.0; same = r.1 }
