-- The scan tells whether there is room.
use mathlib.Core.Path.{sym}
use Rattle.slices.proofs.StoreLaws.{stored_not}
use Rattle.lists.proofs.CountLaws.{count_signifiers}
use Rattle.lists.proofs.put_signifiers.Goals as goal

pub fill_signifiers-requires : goal.fill_signifiers-requires
fill_signifiers-requires c = rw (count_signifiers _ c.scan_token-scan.ensures) at c.if-scan-out.true

pub returns-else-scan-out : goal.returns-else-scan-out
returns-else-scan-out c = sym (stored_not _ _ (rw (count_signifiers _ c.scan_token-scan.ensures) at c.if-scan-out.false))
