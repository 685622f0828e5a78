-- `blocks`: no b stands from `from` up to i, which is its contract's record.
use mathlib.Core.Path.{◌≡◌}
use Prim.Native.Nat.{◌+◌, ◌*◌}
use Rattle.search.specs.Blocks.{Without}
use Rattle.search.proofs.blocks.Given as goal

abbrev pub invariant-loop-block : goal.invariant-loop-block
invariant-loop-block g l = Without l.b l.s l.from l.i × (l.i ≡ l.from + g.row.N * l.block-index)
