-- `ratio_of`: the value's part of the ratio is at most the ratio, so that it fits a shift and its quotient a byte.
use mathlib.Core.Path.{sym, ◌∙◌}
use native.Mathlib.Omega.{arith}
use Rattle.duration.proofs.RatioExits.{Part, part, ratio_plain, ratio_high, ratio_tuplet, normal_fits}
use Rattle.duration.proofs.ratio_of.Goals as goal
use Rattle.duration.proofs.ratio_of.Goals.{After-smallest-v, After-gcd-divisor}

small : (c : After-smallest-v) → Part c.args.n c.args.m c.smallest-v.result
small c = part c.if-all-m.false c.requires.2 c.smallest-v.ensures

pub overflow_shl-part : goal.overflow_shl-part
overflow_shl-part c = omega (arith, (small (goal.at.overflow_shl-part c).After-smallest-v).ten)

pub overflow_cast-value : goal.overflow_cast-value
overflow_cast-value c = omega (arith, (small (goal.at.overflow_cast-value c).After-smallest-v).ten)

pub returns-then-all-part : goal.returns-then-all-part
returns-then-all-part c =
    let p = small (goal.at.returns-then-all-part c).After-smallest-v in
    sym (ratio_plain p (c.if-all-part.true ∙ p.is))

pub returns-then-actual-gt255 : goal.returns-then-actual-gt255
returns-then-actual-gt255 c =
    let p = small (goal.at.returns-then-actual-gt255 c).After-smallest-v in
    sym (ratio_high p p.is c.if-all-part.false c.gcd-divisor.ensures c.if-actual-gt255.true)

pub overflow_cast-result-2 : goal.overflow_cast-result-2
overflow_cast-result-2 c =
    let p = small (goal.at.overflow_cast-result-2 c).After-smallest-v in
    omega (arith, normal_fits p p.is c.if-all-part.false c.gcd-divisor.ensures c.if-actual-gt255.false)

pub returns : goal.returns
returns c =
    let p = small (goal.at.returns c).After-smallest-v in
    sym (ratio_tuplet p p.is c.if-all-part.false c.gcd-divisor.ensures c.if-actual-gt255.false)
