-- By the tests that led to each answer.
use Rattle.interpretation.proofs.KeyLaws.{steps_sharp, steps_flat, steps_other}
use Rattle.interpretation.proofs.key.signature.Goals as goal

pub returns-then-starts_with : goal.returns-then-starts_with
returns-then-starts_with c = steps_sharp _ c.if-s-ne0.false c.starts_with.ensures.value c.if-starts_with.true

pub returns-then-starts_with-2 : goal.returns-then-starts_with-2
returns-then-starts_with-2 c = steps_flat _ c.if-s-ne0.false c.starts_with.ensures.value c.if-starts_with.false c.starts_with-2.ensures.value c.if-starts_with-2.true

pub returns : goal.returns
returns c = steps_other _ c.if-s-ne0.false c.starts_with.ensures.value c.if-starts_with.false c.starts_with-2.ensures.value c.if-starts_with-2.false
