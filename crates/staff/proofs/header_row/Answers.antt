-- The row of a header that is not too wide.
use Rattle.staff.proofs.WalkLaws.{headed_wide}
use Rattle.staff.proofs.header_row.Goals as goal

pub returns-then-n-gt256 : goal.returns-then-n-gt256
returns-then-n-gt256 c = headed_wide c.args.line.now c.token_count-n.ensures.0 c.if-n-gt256.true
