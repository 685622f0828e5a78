-- By whether the notice is kept.
use mathlib.Core.List.{[]}
use Rattle.writing.proofs.WriteLaws.{is_kept, not_kept}
use Rattle.writing.proofs.keep.Goals as goal

pub returns-then-fits : goal.returns-then-fits
returns-then-fits c = is_kept c.args.tally c.args.notice [] c.args.out.now c.if-fits.true c.write-at.ensures.0 c.write-at.ensures.1 c.counted.ensures

pub returns : goal.returns
returns c = not_kept c.args.tally c.args.notice [] c.args.out.now c.if-fits.false
