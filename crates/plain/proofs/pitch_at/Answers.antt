-- A run of one letter with its signs.
use Rattle.plain.proofs.LineLaws.{sung_pitch}
use Rattle.plain.proofs.pitch_at.Goals as goal

pub returns : goal.returns
returns c = sung_pitch c.run_end-to.ensures c.signs-s.ensures c.pitch_of.ensures c.in_ok-step.was
