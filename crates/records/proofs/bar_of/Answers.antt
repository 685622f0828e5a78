use mathlib.Core.Path.{refl, sym, ◌∙◌}
use Rattle.records.proofs.KindLaws.{bar_told}
use Rattle.records.proofs.bar_of.Goals as goal

pub returns-clause-told : goal.returns-clause-told
returns-clause-told c = bar_told c.args.parts.now c.requires.under c.args.line.bytes.now c.requires.even c.read_bar-closed.result _ _ _ c.args.out.now (sym c.args.line.of_kind ∙ c.requires.bar) refl c.read_bar-closed.ensures.told c.args.line.offset
