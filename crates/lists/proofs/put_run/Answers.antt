-- The bytes are stored from k on.
use mathlib.Core.Path.{refl}
use native.Mathlib.Omega.{arith}
use Rattle.slices.proofs.StoreLaws.{stored_tail}
use Rattle.lists.proofs.put_run.Goals as goal

pub returns : goal.returns
returns c = (stored_tail c.args.run.now c.args.out.now c.put.new.out c.args.k (omega (arith, c.requires)) c.put.ensures, refl)
