use Rattle.records.proofs.KindLaws.{by_none, by_star}
use Rattle.records.proofs.read_even.Goals as goal

pub returns-in-Empty-clause-told : goal.returns-in-Empty-clause-told
returns-in-Empty-clause-told c = by_none c.args.parts.now c.requires.under c.args.line.bytes.now c.requires.even c.args.out.now c.args.line.number c.args.line.offset c.args.line.kind c.in-Empty.is

pub returns-in-Star-clause-told : goal.returns-in-Star-clause-told
returns-in-Star-clause-told c = by_star c.args.parts.now c.requires.under c.args.line.bytes.now c.requires.even c.read_star.result _ _ _ c.args.out.now c.args.line.number c.args.line.offset c.args.line.kind c.args.line.of_kind c.in-Star.is c.read_star.ensures.told
