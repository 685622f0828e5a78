-- Question by question; then the row, the parts and the notices.
use mathlib.Core.Path.{sym, ◌∙◌}
use native.Mathlib.Omega.{arith}
use Rattle.header.proofs.FreshLaws.{fresh_back}
use Rattle.header.proofs.HeaderLaws.{stops_3, stops_4, stops_5, header_told}
use Rattle.header.proofs.read_header.Goals as goal

pub returns-then-other : goal.returns-then-other
returns-then-other c = record { told = λ cells. stops_3 _ _ _ _ _ _ (sym c.if-other.true ∙ c.all_exclusive-exclusive.ensures); few = tt; room = c.told-row }

pub returns-then-count-gt256 : goal.returns-then-count-gt256
returns-then-count-gt256 c = record { told = λ cells. stops_4 _ _ _ _ _ _ (sym c.if-other.false ∙ c.all_exclusive-exclusive.ensures) c.token_count-count.ensures.0 c.if-count-gt256.true; few = tt; room = c.told-row }

pub returns-then-kerns-eq0 : goal.returns-then-kerns-eq0
returns-then-kerns-eq0 c = record { told = λ cells. stops_5 _ _ _ _ _ _ (sym c.if-other.false ∙ c.all_exclusive-exclusive.ensures) _ c.token_count-count.ensures.0 c.if-count-gt256.false _ c.fill_row-kerns.ensures.parts.0 c.if-kerns-eq0.true; few = tt; room = c.fill_row-kerns.ensures.room }

pub returns : goal.returns
returns c = record { told = λ cells. header_told _ _ _ c.args.tally _ _ _ _ _ (sym c.if-other.false ∙ c.all_exclusive-exclusive.ensures) c.token_count-count.ensures.0 c.if-count-gt256.false (c.fill_row-kerns.ensures.row, c.fill_row-kerns.ensures.parts) c.if-kerns-eq0.false (fresh_back c.fill_row-kerns.result c.fresh_parts.new.parts c.args.parts.now (omega (arith, c.fill_row-kerns.ensures.parts.1, c.told-parts)) c.fresh_parts.auto.parts c.fresh_parts.ensures) _ _ c.notice_others-told.ensures cells _; few = omega (arith, c.notice_others-told.ensures.0.parts, c.fill_row-kerns.ensures.parts.1); room = c.fill_row-kerns.ensures.room }
