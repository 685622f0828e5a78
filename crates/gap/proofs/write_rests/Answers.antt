-- The rests that are left fill the rest of the hole; with them the buffer is as at the end.
use Rattle.std.proofs.Common.{rules}
use Rattle.gap.proofs.FillLaws.{writing_end}
use Rattle.gap.proofs.write_rests.Goals as goal

pub returns-in_default : goal.returns-in_default
returns-in_default c = writing_end c.loop-rest.invariant c.take.new.self c.take.result c.take.ensures (search rules)
