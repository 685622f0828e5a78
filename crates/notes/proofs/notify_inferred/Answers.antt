-- Notice 20 is kept or nothing is.
use Rattle.notes.proofs.NoticeLaws.{inferred_no}
use Rattle.notes.proofs.notify_inferred.Goals as goal

pub returns : goal.returns
returns c = inferred_no c.args.token.now c.args.spot c.args.tally c.args.out.now c.if-inferred.false
