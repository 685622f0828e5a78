-- No articulations have no bytes.
use native.Mathlib.Omega.{arith}
use Rattle.slices.proofs.StoreLaws.{stored_tail}
use Rattle.lists.specs.Lists.{articulation_bytes}
use Rattle.writing.proofs.add_articulations.Goals as goal

pub returns : goal.returns
returns c = stored_tail (articulation_bytes c.args.token.now) c.args.out.now c.fill_articulations.new.out c.args.at (omega arith) c.fill_articulations.ensures
