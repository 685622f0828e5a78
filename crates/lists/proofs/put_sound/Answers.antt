-- None or three bytes are stored.
use mathlib.Core.Path.{refl}
use native.Mathlib.Omega.{arith}
use Rattle.lists.proofs.FillLaws.{none_put, three_room}
use Rattle.lists.proofs.ItemLaws.{no_sound, a_sound}
use Rattle.lists.proofs.put_sound.Goals as goal

pub returns-in-None : goal.returns-in-None
returns-in-None c = none_put _ _ (no_sound c.in-None.is)

pub put_run-requires : goal.put_run-requires
put_run-requires c = let h = three_room (a_sound c.in-Some.is refl) c.requires in omega arith

pub returns-in-Some : goal.returns-in-Some
returns-in-Some c = rw (a_sound c.in-Some.is c.alter_byte.ensures) c.put_run.ensures
