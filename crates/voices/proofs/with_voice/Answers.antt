-- A bit set by a shift.
use Rattle.voices.proofs.MaskLaws.{bit_or_lem}
use Rattle.voices.proofs.with_voice.Goals as goal

pub returns : goal.returns
returns c = bit_or_lem c.args.mask c.args.voice c.requires
