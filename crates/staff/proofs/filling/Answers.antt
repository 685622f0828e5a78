-- The row before the line, and the passes over its record.
use Prim.Native.Nat.{ℕ, ◌-◌}
use mathlib.Core.Path.{refl, ap, ◌∙◌}
use mathlib.Core.List.{List}
use Rattle.std.proofs.Common.{rules}
use borrow.Author.Tests.{tests}
use Rattle.std.proofs.lemmas.Iterator.Consumers.{nth_from_yields_List}
use denote.Ref.{Bor}
use Rattle.lines.specs.Lines.{lines_of, without_crs}
use Rattle.staff.proofs.WalkLaws.{YieldsList-from_lines, line_or, column_or, walked_there}
use Rattle.staff.proofs.filling.Goals as goal

pub returns : goal.returns
returns c =
    let n = nth_from_yields_List c.nth.result _ (c.args.k - 1) (rw c.saturating_sub.ensures at c.nth.ensures.ran) (YieldsList-from_lines _ c.args.text.now (cc) (cc) (cc) (λ x b q k. search (rules, tests))) in
    walked_there c.args.text.now c.args.k c.row_before-active.new.rows.row c.row_before-active.result c.args.part c.row_before-active.ensures.0
    (c.bare-line.ensures ∙ ap without_crs (ap (λ (y : Bor (List ℕ)). y.now) c.unwrap_or.ensures ∙ line_or c.nth.result _ (lines_of c.args.text.now) (c.args.k - 1) n refl))
    (c.unwrap_or-header.ensures ∙ column_or c.header_column.result ∙ c.header_column.ensures.number) c.holders_of.ensures
