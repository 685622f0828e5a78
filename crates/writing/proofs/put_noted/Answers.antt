-- The lists go behind the NOTE where all fits.
use mathlib.Core.Path.{sym}
use native.Mathlib.Omega.{arith}
use Rattle.slices.proofs.StoreLaws.{stored_not}
use Rattle.writing.proofs.WriteLaws.{noted, noted_length}
use Rattle.writing.proofs.put_noted.Goals as goal

pub returns-then-out-at : goal.returns-then-out-at
returns-then-out-at c = sym (stored_not _ _ (omega (arith, noted_length c.args.note c.args.token.now c.requires.pitches c.requires.articulations)))

pub returns : goal.returns
returns c = noted c.args.note c.args.token.now c.args.out.now c.requires.pitches c.requires.articulations (omega arith) c.put.ensures c.add_pitches.ensures c.add_articulations.ensures
