-- `counted`: the number stands between 1 and 255.
use native.Mathlib.Omega.{arith}
use Rattle.duration.proofs.RatioExits.{counted_in}
use Rattle.duration.proofs.counted.Goals as goal

pub returns-in-1-to-255 : goal.returns-in-1-to-255
returns-in-1-to-255 c = counted_in c.args.digits.now c.in_ok-n.ensures c.if-digits-gt4.false (omega arith) (omega arith)
