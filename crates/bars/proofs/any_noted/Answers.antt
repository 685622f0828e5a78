-- `any` asks part by part.
use Rattle.std.proofs.Common.{◌∙◌, rules, tests}
use Rattle.std.proofs.lemmas.Iterator.{YieldsList-from_slice}
use Rattle.std.proofs.lemmas.Iterator.Search.{any_from_yields_List}
use Rattle.reading.specs.declared.Part.{Part}
use Rattle.bars.proofs.LoopLaws.{any_noted_lem}
use Rattle.bars.proofs.any_noted.Goals as goal

pub returns : goal.returns
returns c = any_from_yields_List (λ (p : Part). p.noted) _ _ _ c.any.ensures.ran (YieldsList-from_slice c.args.parts.now cc) (λ x b q k. search (rules, tests)) ∙ any_noted_lem c.args.parts.now
