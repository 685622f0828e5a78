-- By whether the token is `**kern`.
use mathlib.Core.Path.{sym, ◌∙◌}
use Rattle.header.proofs.NoticeLaws.{other_kern, other_told}
use Rattle.header.proofs.notice_other.Goals as goal

pub returns-then-is_kern : goal.returns-then-is_kern
returns-then-is_kern c = other_kern _ _ _ _ _ _ (sym c.is_kern.ensures ∙ c.if-is_kern.true)

pub returns : goal.returns
returns c = other_told _ _ _ _ _ _ _ _ (sym c.is_kern.ensures ∙ c.if-is_kern.false) (rw c.from.ensures at c.notify.ensures)
