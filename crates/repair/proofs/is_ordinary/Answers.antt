-- A token that begins `*` and is none of the five path tokens.
use Rattle.std.proofs.Common.{sym, ap, ◌∙◌}
use Rattle.repair.specs.Repair.{is_other, is_ordinary}
use Rattle.repair.proofs.EachLaws.{other_same}
use Rattle.repair.proofs.is_ordinary.Goals as goal

pub returns-then-is_star : goal.returns-then-is_star
unfolding is_ordinary
returns-then-is_star c = c.eq.ensures ∙ other_same _ ∙ ap is_other c.path_token.ensures ∙ sym (rw (sym c.is_star.ensures ∙ c.if-is_star.true))

pub returns-else-is_star : goal.returns-else-is_star
unfolding is_ordinary
returns-else-is_star c = c.if-is_star.false ∙ sym (rw (sym c.is_star.ensures ∙ c.if-is_star.false))
