-- The bytes so far are digits, and what is left decides.
use mathlib.Core.Path.{sym, ◌∙◌}
use Rattle.interpretation.specs.Digits.{is_digit}
use Rattle.interpretation.proofs.DigitLaws.{reading_turn}
use Rattle.interpretation.proofs.digits.number_up_to.Goals as goal

pub loop-d-preserved : goal.loop-d-preserved
unfolding is_digit
loop-d-preserved c = reading_turn c.loop-d.invariant c.loop-d-test.true (sym c.is_ascii_digit.ensures.value ∙ c.if-not-is_ascii_digit.false) cc
