-- The highest part, or a fresh one where there is none.
use Rattle.std.proofs.Common.{refl, sym, ap, ◌∙◌}
use Rattle.std.specs.Option.{option_copied}
use Rattle.sheet.specs.declared.Bar.{Bar}
use Rattle.reading.specs.State.{fresh_part}
use Rattle.reading.specs.declared.Part.{Part}
use Rattle.bars.specs.Bars.{end_with}
use Rattle.bars.proofs.EndLaws.{last_some, last_none}
use Rattle.bars.proofs.end_of.Goals.{in-Some, in-None}
use Rattle.bars.proofs.end_of.Goals as goal

pub returns : goal.returns
returns c = elim c.match-last.branch [
  | in-Some w ↦ ap (λ (b : Bar). end_with b c.args.tally) (w.first-is ∙ ap (λ (p : Part). p.first) (sym (last_some (fresh_part 0) c.args.parts.now _ refl (sym c.last.ensures.value ∙ ap option_copied w.in-Some.is))))
  | in-None w ↦ ap (λ (b : Bar). end_with b c.args.tally) (w.first-is ∙ w.blank_bar-first.ensures ∙ ap (λ (p : Part). p.first) (sym (last_none (fresh_part 0) c.args.parts.now (sym c.last.ensures.value ∙ ap option_copied w.in-None.is))))
]
