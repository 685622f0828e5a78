-- What is stored, and what the items left give, are all; a pitch is given where its sub-token ends.
use Prim.Native.Nat.{◌-◌}
use lib.ListN.{length}
use Rattle.lists.specs.Lists.{pitch_bytes}
use Rattle.lists.proofs.FillLaws.{Writing}
use Rattle.lists.proofs.CountLaws.{heard_bytes}
use Rattle.lists.proofs.fill_pitches.Given as goal

abbrev pub invariant-loop-i : goal.invariant-loop-i
invariant-loop-i l = Writing l.initial.out (pitch_bytes l.token) l.out l.token l.k l.i (heard_bytes l.sound)

abbrev pub decreases-loop-i : goal.decreases-loop-i
decreases-loop-i l = length l.token - l.i
