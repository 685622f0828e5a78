-- The end of the buffer comes back with the NOTE and its lists at its start.
use mathlib.Core.Path.{refl}
use Rattle.writing.specs.Kept.{note_record}
use Rattle.writing.proofs.WriteLaws.{wrote, noted_length}
use Rattle.writing.proofs.write_note.Goals as goal

pub returns : goal.returns
returns c = wrote (note_record c.args.note c.args.token.now) c.args.out.now c.args.at refl (noted_length c.args.note c.args.token.now c.requires.pitches c.requires.articulations) c.min-k.ensures c.put_noted.ensures c.past.ensures
