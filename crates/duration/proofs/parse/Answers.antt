-- `parse`: the number that the digits write. The digits from the index on, read after n, decide; n has at most as many places as were read.
use mathlib.Core.Path.{sym, ◌∙◌}
use Rattle.duration.proofs.Numbers.{parse_turn}
use Rattle.duration.proofs.parse.Goals as goal

pub loop-d-preserved : goal.loop-d-preserved
loop-d-preserved c = rw c.from.ensures (parse_turn c.loop-d.invariant c.loop-d-test.true (sym c.is_ascii_digit.ensures.value ∙ c.if-not-is_ascii_digit.false))
