use mathlib.Core.Path.{sym, ◌∙◌}
use Rattle.records.proofs.KindLaws.{data_told}
use Rattle.records.proofs.data_of.Goals as goal

pub returns-clause-told : goal.returns-clause-told
returns-clause-told c = data_told c.args.parts.now c.requires.under c.args.line.bytes.now c.requires.even c.read_data.result _ _ c.args.out.now c.args.line.number c.args.line.offset (sym c.args.line.of_kind ∙ c.requires.data_kind) c.read_data.ensures.told c.read_data.ensures.kept
