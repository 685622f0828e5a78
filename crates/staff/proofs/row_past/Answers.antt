-- A star record makes the next row.
use Rattle.std.proofs.Common.{sym, ◌∙◌}
use Rattle.staff.proofs.WalkLaws.{active_is, star_behind}
use Rattle.staff.proofs.row_past.Goals as goal

pub returns-in-true-Star : goal.returns-in-true-Star
returns-in-true-Star c =
    star_behind c.args.line.now c.args.rows.now.row c.step.new.self.row c.args.rows.now.room c.requires c.step.result c.in-true-Star.is-0 (sym c.line_kind.ensures ∙ c.in-true-Star.is-1)
    c.step.ensures.outcome c.step.ensures.few (c.unwrap_or.ensures ∙ active_is c.step.result)
