-- The voices first, then question 9 by the count, then the copy.
use mathlib.Core.Path.{◌≡◌}
use native.Mathlib.Omega.{arith}
use lib.ListN.{length, take}
use lib.Seq.{take_all}
use Rattle.std.proofs.Common.{ap, ◌∙◌}
use Rattle.paths.specs.Voices.{narrow}
use Rattle.voices.proofs.StepLaws.{too_wide, taken_over}
use Rattle.voices.proofs.settle.Goals as goal

pub returns-then-count-gt256-clause-outcome : goal.returns-then-count-gt256-clause-outcome
returns-then-count-gt256-clause-outcome c =
    too_wide c.give.new.cells _ c.give.auto.cells c.if-count-gt256.true ∙ ap narrow c.in_ok-give.ensures

pub returns-clause-outcome : goal.returns-clause-outcome
returns-clause-outcome c =
    let all : c.loop-i.i ≡ length c.args.cells.now = omega (arith, c.give.auto.cells) in
    let same : take (length c.args.cells.now) c.loop-i.row ≡ c.give.new.cells =
    rw (← all) (c.loop-i.invariant.1 ∙ take_all c.loop-i.i c.give.new.cells (omega (arith, all, c.give.auto.cells))) in
    taken_over c.give.new.cells _ c.give.auto.cells c.loop-i.row c.if-count-gt256.false same ∙ ap narrow c.in_ok-give.ensures
