use mathlib.Core.Path.{sym, ◌∙◌}
use Rattle.reader.proofs.AnswerLaws.{read_by_lines, tells}
use Rattle.reader.proofs.measure.Goals as goal

pub returns : goal.returns
returns c = tells c.args.text.bytes.now _ _ c.run.result (c.run.ensures ∙ sym (read_by_lines c.args.text.bytes.now c.args.text.short c.requires _))
