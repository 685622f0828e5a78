-- `rest`: the byte behind the lead, and the tails behind it.
use mathlib.Core.Path.{sym, ◌∙◌}
use mathlib.Core.Bool.{true, false}
use Rattle.utf8.proofs.RowLaws.{rest_none, rest_some}
use Rattle.utf8.proofs.rest.Goals.{else-between-via-then-between+else-tailed, else-between-via-else-between}
use Rattle.utf8.proofs.rest.Goals as goal

pub returns-then-tailed : goal.returns-then-tailed
returns-then-tailed c = rest_some (c.args.lo, c.args.hi) c.args.s.now c.args.n (sym c.between.ensures ∙ c.if-between.true) true (sym c.tailed.ensures ∙ c.if-tailed.true)

pub returns-else-between : goal.returns-else-between
returns-else-between c = elim c.else-between.branch [
  | else-between-via-then-between+else-tailed w ↦ rest_some (c.args.lo, c.args.hi) c.args.s.now c.args.n (sym c.between.ensures ∙ w.if-between.true) false (sym w.tailed.ensures ∙ w.if-tailed.false)
  | else-between-via-else-between w ↦ rest_none (c.args.lo, c.args.hi) c.args.s.now c.args.n (sym c.between.ensures ∙ w.if-between.false)
]
