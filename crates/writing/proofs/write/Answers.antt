-- The end of the buffer comes back with the record at its start.
use Rattle.writing.proofs.WriteLaws.{wrote}
use Rattle.writing.proofs.write.Goals as goal

pub returns : goal.returns
returns g c = wrote (g.W.Whole.as_record c.args.whole) c.args.out.now c.args.at (g.met.W.Whole.whole c.args.whole) (g.met.W.Fixed.long c.args.whole) c.min-k.ensures c.put.ensures c.past.ensures
