-- The reader's promises, and the list by the case that the answer is.
use Rattle.staff.proofs.FillingLaws.{explains_accepted, explains_refused}
use Rattle.staff.proofs.read_with_lines.Goals as goal

pub returns-in-Ok-clause-lines : goal.returns-in-Ok-clause-lines
returns-in-Ok-clause-lines c = (explains_accepted c.args.text.now c.args.out.now c.read-answer.ensures.answer c.empty-lines.result c.in-Ok.is c.empty-lines.ensures).0

pub returns-in-Err-clause-lines : goal.returns-in-Err-clause-lines
returns-in-Err-clause-lines c =
    let l = c.lines_behind-lines.ensures in
    (explains_refused c.args.text.now c.args.out.now c.read-answer.ensures.answer c.lines_behind-lines.result c.in-Err.is l.full l.other).0

pub returns-in-Err-clause-filled : goal.returns-in-Err-clause-filled
returns-in-Err-clause-filled c =
    let l = c.lines_behind-lines.ensures in
    (explains_refused c.args.text.now c.args.out.now c.read-answer.ensures.answer c.lines_behind-lines.result c.in-Err.is l.full l.other).1
