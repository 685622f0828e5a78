-- A null token, or a note by its parts.
use mathlib.Core.Path.{sym, ◌∙◌}
use native.Mathlib.Omega.{arith}
use Rattle.plain.proofs.LineLaws.{null_shape, reciprocal_value, note_shape}
use Rattle.plain.proofs.shape_of.Goals as goal

pub returns-then-closes : goal.returns-then-closes
returns-then-closes c =
    let at = c.in_ok-get.ensures.lookup.3 in
    null_shape _ _ at.0 (sym (at.1 0) ∙ c.if-branch-eq46.true) (c.closes.ensures c.if-closes.true)

pub returns : goal.returns
returns c =
    note_shape c.openings-opening.result c.parts_of-v.result c.openings-opening.ensures c.reciprocal_at-reciprocal.ensures.run (omega (arith, c.reciprocal_at-reciprocal.ensures.run.low, c.if-to-digits.false))
    (sym (reciprocal_value c.reciprocal_at-reciprocal.ensures c.value_by.ensures) ∙ c.in_ok-value_by.was) c.parts_of-v.ensures c.run_end-sound.ensures (omega arith) c.in_ok-plain.plain c.in_ok-plain.ensures
