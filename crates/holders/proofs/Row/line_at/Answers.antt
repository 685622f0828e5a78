-- The entry of the column, and that of its cell alone.
use Rattle.std.proofs.Common.{◌≡◌, ◌∙◌, ap, arith, ℕ, ◌+◌, ◌-◌, drop, length, get_or}
use Rattle.std.proofs.lemmas.List.{get_or-drop, length-drop}
use Rattle.spines.specs.Cells.{spine_of}
use Rattle.spines.specs.Table.{active_spine, line_of}
use Rattle.holders.proofs.TableLaws.{entry_at}
use Rattle.holders.proofs.Row.line_at.Goals as goal

pub returns-then-column-self : goal.returns-then-column-self
returns-then-column-self c =
    let row = c.args.self in
    ap active_spine c.active_at.ensures ∙ entry_at row.table.now row.cells.now (length row.table.now) c.args.column c.requires c.if-column-self.true row.filled

pub returns : goal.returns
returns c =
    let i = c.args.column in
    let cells = c.args.self.cells.now in
    let here : i + 0 ≡ i = omega arith in
    ap active_spine c.active_at-2.ensures
    ∙ entry_at c.fill_table.new.spines (drop i cells) (i + 1 - i) 0 (omega (arith, c.requires, length-drop i cells)) (omega arith) c.fill_table.ensures
    ∙ ap (λ (c : ℕ). line_of (spine_of c)) (get_or-drop i cells 0 0 ∙ ap (λ (k : ℕ). get_or cells k 0) here)
