-- What is stored, and what the items left give, are all; the byte at i decides the item there.
use Prim.Native.Nat.{◌-◌}
use lib.ListN.{length}
use Rattle.token.specs.Token.{signifiers}
use Rattle.lists.specs.Lists.{signifier_bytes}
use Rattle.lists.proofs.FillLaws.{Writing}
use Rattle.lists.proofs.fill_signifiers.Given as goal

abbrev pub invariant-loop-i : goal.invariant-loop-i
invariant-loop-i l = Writing l.initial.out (signifier_bytes l.token) l.out l.token l.k l.i (signifiers l.sounding)

abbrev pub decreases-loop-i : goal.decreases-loop-i
decreases-loop-i l = length l.token - l.i
