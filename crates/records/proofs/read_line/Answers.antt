-- A record goes its way, a reference sets what it sets, and any other line does nothing.
use native.Mathlib.Omega.{arith}
use lib.ListN.{take}
use Rattle.std.specs.Prelude.{Ok}
use Rattle.state.specs.View.{told}
use Rattle.records.proofs.RecordLaws.{quiet_line, reference_line, record_line}
use Rattle.records.proofs.read_line.Goals as goal

pub returns-in-Star-clause-told : goal.returns-in-Star-clause-told
returns-in-Star-clause-told c = record_line c.args.begun _ c.args.line.bytes.now c.args.out.now (take c.args.tally.active c.args.rows.now.row) c.args.parts.now c.args.tally c.args.line.number c.args.line.offset c.args.line.of_kind c.in-Star.is c.on_record.ensures.told

pub returns-in-Empty-clause-told : goal.returns-in-Empty-clause-told
returns-in-Empty-clause-told c = quiet_line c.args.begun (told (Ok c.args.tally) (take c.args.tally.active c.args.rows.now.row) c.args.parts.now c.args.out.now) c.args.line.bytes.now c.args.out.now (take c.args.tally.active c.args.rows.now.row) c.args.parts.now c.args.tally c.args.line.number c.args.line.offset c.args.line.of_kind c.in-Empty.is

pub returns-in-Reference : goal.returns-in-Reference
returns-in-Reference c = record { told = reference_line c.args.begun _ c.args.line.bytes.now c.args.out.now (take c.args.tally.active c.args.rows.now.row) c.args.parts.now c.args.tally c.args.line.number c.args.line.offset c.args.line.of_kind c.in-Reference.is (c.read_reference-set.ensures.told (take c.args.tally.active c.args.rows.now.row) c.args.parts.now); few = omega (arith, c.read_reference-set.ensures.same.parts, c.requires.ready.parts_few) }
