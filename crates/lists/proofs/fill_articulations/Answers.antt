-- What is stored, and what the bytes left give, are all.
use Rattle.lists.proofs.ByteLaws.{mark_first, mark_room, mark_turn, mark_past}
use Rattle.lists.proofs.fill_articulations.Goals as goal

pub loop-b-init : goal.loop-b-init
loop-b-init c = mark_first _ c.requires

pub put_articulation-k-requires : goal.put_articulation-k-requires
put_articulation-k-requires c = mark_room c.loop-b.invariant c.loop-b-test.true

pub loop-b-preserved : goal.loop-b-preserved
loop-b-preserved c = mark_turn c.loop-b.invariant c.loop-b-test.true c.put_articulation-k.ensures.0 c.put_articulation-k.ensures.1

pub returns : goal.returns
returns c = mark_past c.loop-b.invariant c.loop-b-test.false
