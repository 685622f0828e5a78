-- The columns' result, with the row that has stepped.
use native.Mathlib.Omega.{arith}
use lib.Seq.{length-take-le}
use Rattle.stars.proofs.StarLaws.{star_told, star_few}
use Rattle.stars.proofs.read_star.Goals as goal

pub returns : goal.returns
returns c = record {
  told = star_told c.args.line.bytes.now _ _ _ _ _ _ c.args.tally c.read_columns-t.result c.args.line.number c.args.line.offset c.step-step.result c.read_columns-t.ensures.told (length-take-le c.args.tally.active c.args.rows.now.row (omega arith)) c.requires.0 c.step-step.ensures.outcome c.answer.ensures;
  few = star_few c.step-step.result c.read_columns-t.result c.args.line.number (omega (arith, c.read_columns-t.ensures.held.parts, c.requires.1.parts_few)) c.answer.ensures;
}
