-- The mask 1 keeps the remainder by two.
use Prim.Native.Nat.{◌/◌, ◌^◌}
use lib.Bits.{and_mask}
use Rattle.voices.specs.Mask.{bit}
use Rattle.voices.proofs.taken.Goals as goal

pub returns : goal.returns
unfolding bit
returns c = rw (and_mask (c.args.mask / 2 ^ c.args.voice) 1)
