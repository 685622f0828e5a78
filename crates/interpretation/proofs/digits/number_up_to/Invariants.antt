-- The bytes so far are digits, and what is left decides.
use Rattle.interpretation.proofs.DigitLaws.{Reading}
use Rattle.interpretation.proofs.digits.number_up_to.Given as goal

abbrev pub invariant-loop-d : goal.invariant-loop-d
invariant-loop-d l = Reading l.s l.most l.n l.d-index
