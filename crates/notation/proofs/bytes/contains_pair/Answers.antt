-- Each byte of the slice stands beside the next.
use mathlib.Core.Path.{◌∙◌}
use mathlib.Core.Bool.{◌&&◌}
use lib.Dec.{eqb}
use Rattle.notation.proofs.ByteLaws.{any_pair}
use Rattle.std.proofs.Common.{rules, tests}
use Rattle.std.proofs.lemmas.Iterator.{YieldsList-from_slice, YieldsList-from_zip}
use Rattle.std.proofs.lemmas.Iterator.Adapters.{YieldsList-from_skip}
use Rattle.std.proofs.lemmas.Iterator.Search.{any_from_yields_List}
use Rattle.notation.proofs.bytes.contains_pair.Goals as goal

pub returns : goal.returns
returns c =
    let s = c.args.s.now in
    any_from_yields_List (λ p. eqb p.0 c.args.a && eqb p.1 c.args.b) c.any.new.self _ _ c.any.ensures.ran
    (YieldsList-from_zip (YieldsList-from_slice s (cc)) (YieldsList-from_skip 1 (YieldsList-from_slice s (cc)) (cc)))
    (λ x b q k. search (rules, tests))
    ∙ any_pair c.args.a c.args.b s
