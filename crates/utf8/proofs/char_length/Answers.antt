-- `char_length`: each arm is the row of the table that the first byte leads, or none.
use mathlib.Core.Path.{sym, ◌∙◌}
use native.Mathlib.Omega.{arith}
use Rattle.utf8.specs.Utf8.{table, begins}
use Rattle.utf8.proofs.RowLaws.{row, leads}
use Rattle.utf8.proofs.char_length.Goals as goal

pub returns-in-0-to-127 : goal.returns-in-0-to-127
unfolding table begins
returns-in-0-to-127 c = sym (leads _ (λ e. omega arith) (row 0 (omega arith)) (omega arith) (omega arith))

pub returns-in-194-to-223 : goal.returns-in-194-to-223
unfolding table
returns-in-194-to-223 c = c.rest-in-194-to-223.ensures ∙ sym (leads _ (λ e. omega arith) (row 1 (omega arith)) (omega arith) (omega arith))

pub returns-in-224 : goal.returns-in-224
unfolding table
returns-in-224 c = c.rest.ensures ∙ sym (leads _ (λ e. omega arith) (row 2 (omega arith)) (omega arith) (omega arith))

pub returns-in-237 : goal.returns-in-237
unfolding table
returns-in-237 c = c.rest-in-237.ensures ∙ sym (leads _ (λ e. omega arith) (row 4 (omega arith)) (omega arith) (omega arith))

pub returns-in-240 : goal.returns-in-240
unfolding table
returns-in-240 c = c.rest-in-240.ensures ∙ sym (leads _ (λ e. omega arith) (row 6 (omega arith)) (omega arith) (omega arith))

pub returns-in-241-to-243 : goal.returns-in-241-to-243
unfolding table
returns-in-241-to-243 c = c.rest-in-241-to-243.ensures ∙ sym (leads _ (λ e. omega arith) (row 7 (omega arith)) (omega arith) (omega arith))

pub returns-in-244 : goal.returns-in-244
unfolding table
returns-in-244 c = c.rest-in-244.ensures ∙ sym (leads _ (λ e. omega arith) (row 8 (omega arith)) (omega arith) (omega arith))
