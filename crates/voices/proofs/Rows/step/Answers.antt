-- The runs of `*v` first; then the next row, and its voices.
use Rattle.voices.proofs.StepLaws.{stepped, stopped}
use Rattle.voices.proofs.Rows.step.Goals as goal

pub returns-in-Some-clause-outcome : goal.returns-in-Some-clause-outcome
returns-in-Some-clause-outcome c = stopped _ _ c.mixed_run.ensures c.in-Some.column c.in-Some.is

pub returns-clause-outcome : goal.returns-clause-outcome
returns-clause-outcome c = stepped _ _ c.mixed_run.ensures _ _ c.in_default.is c.next_row-count.ensures.made c.settle.ensures.outcome
