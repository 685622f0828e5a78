use mathlib.Core.Path.{sym, ap, subst, ◌∙◌}
use Rattle.std.specs.Prelude.{Bool, false, ◌||◌, Ok}
use Rattle.std.proofs.lemmas.Result.{err_from_is_err_and}
use lib.ListN.{take}
use Rattle.state.specs.declared.Tally.{Tally}
use Rattle.reader.proofs.LoopLaws.{Reading, reading_first, reading_past, passed_here, under, refused_here, ends_here, ends_small, goes_here}
use Rattle.reader.proofs.read_lines.Goals as goal

pub loop-line-init : goal.loop-line-init
loop-line-init c = subst (λ (t : Tally). Reading c.args.text.bytes.now c.args.out.now c.args.rows.now.row c.args.parts.now c.args.out.now 0 0 false t) (sym c.no_tally-tally.ensures) reading_first

pub loop-line-preserved-then-is_passed : goal.loop-line-preserved-then-is_passed
loop-line-preserved-then-is_passed c = passed_here c.loop-line.invariant c.in-Some.ensures.taken c.in-Some.line.of_kind (sym c.is_passed.ensures ∙ c.if-is_passed.true)

pub read_line-requires : goal.read_line-requires
read_line-requires c = under c.loop-line.invariant c.loop-line.rows.room

pub returns-in_err-last : goal.returns-in_err-last
returns-in_err-last c =
    let p = err_from_is_err_and c.from_residual.result c.from_residual.ensures.1 in
    rw (p.1, p.2) (refused_here c.loop-line.invariant c.in-Some.ensures.taken c.in-Some.line.of_kind c.read_line.result _ _ _ c.read_line.ensures.told _ c.in_err-last.was)

pub finish_text-requires : goal.finish_text-requires
finish_text-requires c = ends_small c.loop-line.invariant c.in-Some.ensures.taken c.in-Some.line.of_kind c.read_line.result _ _ _ c.read_line.ensures.told _ (c.in_ok-last.was ∙ ap Ok c.in-Ends.is) c.read_line.ensures.few

pub returns-in-Ends : goal.returns-in-Ends
returns-in-Ends c = c.finish_text.ensures _ ∙ sym (ends_here c.loop-line.invariant c.in-Some.ensures.taken c.in-Some.line.of_kind c.read_line.result _ _ _ c.read_line.ensures.told _ (c.in_ok-last.was ∙ ap Ok c.in-Ends.is))

pub loop-line-preserved : goal.loop-line-preserved
loop-line-preserved c = goes_here c.loop-line.invariant c.in-Some.ensures.taken c.in-Some.line.of_kind c.read_line.result _ _ _ c.read_line.ensures.told _ (c.in_ok-last.was ∙ ap Ok c.in-Goes.is) c.read_line.ensures.few c.read_line.auto.out (ap (λ (b : Bool). c.loop-line.begun || b) c.is_record-begun.ensures)

pub returns : goal.returns
returns c = c.finish_text-2.ensures (take c.loop-line.tally.active c.loop-line.rows.row) ∙ sym (reading_past c.loop-line.invariant c.in_default.ensures.past.0)
