-- What the rests come to is what the hole comes to.
use Rattle.std.proofs.Common.{rules}
use Rattle.std.specs.Prelude.{Err}
use mathlib.Core.Path.{◌≡◌, sym, subst, ◌∙◌}
use Rattle.gap.proofs.AnswerLaws.{Answers, turned_away, too_short, is_filled}
use Rattle.gap.proofs.gap_rests.Goals as goal

pub returns-in_err-long : goal.returns-in_err-long
returns-in_err-long c =
    let is : c.from_residual.result ≡ Err c.in_err-long.field-0.0 = search rules in
    let a = turned_away c.args.ticks c.args.divisions c.args.notes c.args.out.now c.saturating_sub.ensures (sym c.in_err-long.was ∙ c.count_rests.ensures) in
    let all = subst (Answers c.args.ticks c.args.divisions c.args.notes c.args.out.now c.args.out.now) (sym is) a in
    record { answer = all.answer; buffer = all.buffer; numbered = all.numbered; filled = all.filled }

pub returns-then-out-long : goal.returns-then-out-long
returns-then-out-long c =
    let all = too_short c.args.ticks c.args.divisions c.args.notes c.args.out.now c.saturating_sub.ensures (sym c.in_ok-long.was ∙ c.count_rests.ensures) c.if-out-long.true in
    record { answer = all.answer; buffer = all.buffer; numbered = all.numbered; filled = all.filled }

pub returns : goal.returns
returns c =
    let all = is_filled c.args.ticks c.args.divisions c.args.notes c.args.out.now c.saturating_sub.ensures (sym c.in_ok-long.was ∙ c.count_rests.ensures) c.if-out-long.false c.write_rests.ensures in
    record { answer = all.answer; buffer = all.buffer; numbered = all.numbered; filled = all.filled }
