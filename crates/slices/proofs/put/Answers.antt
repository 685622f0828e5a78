-- The bytes passed stand at the start of the buffer, in the end all of them.
use mathlib.Core.Path.{ap, sym, ◌∙◌}
use mathlib.Core.List.{List}
use Prim.Native.Nat.{ℕ}
use native.Mathlib.Omega.{arith}
use lib.ListN.{get_or, set, length-set}
use lib.Seq.{take_all}
use Rattle.slices.proofs.StoreLaws.{copy_more, stored_sets}
use Rattle.slices.proofs.put.Goals as goal

pub loop-i-preserved : goal.loop-i-preserved
loop-i-preserved c =
    let i = c.loop-i.i in
    let s = c.args.bytes.now in
    let inv = c.loop-i.invariant in
    (simp length-set inv.0, ap (λ (l : List ℕ). set l i (get_or s i 0)) inv.1 ∙ copy_more c.args.out.now s i (omega arith))

pub returns : goal.returns
returns c = rw (take_all c.loop-i.i c.args.bytes.now (omega arith)) at c.loop-i.invariant.1 ∙ sym (stored_sets _ _ c.if-out-bytes.false)
