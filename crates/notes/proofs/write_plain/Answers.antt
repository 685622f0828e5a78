-- The beam, the NOTE and its place.
use mathlib.Core.Path.{ap, ◌∙◌}
use mathlib.Core.List.{[], ◌∷◌}
use native.Mathlib.Omega.{arith}
use Rattle.sheet.specs.declared.Note.{Note as NoteWritten}
use Rattle.token.proofs.FewLaws.{gives}
use Rattle.state.specs.Lay.{laid, behind}
use Rattle.writing.specs.Kept.{note_record}
use Rattle.notes.specs.Spot.{note_at}
use Rattle.notes.proofs.BeamLaws.{part_sounded}
use Rattle.notes.proofs.PlainLaws.{plain_lists, plain_alone}
use Rattle.notes.proofs.write_plain.Goals as goal

pub note_at-note-requires : goal.note_at-note-requires
note_at-note-requires c = let g = gives c.args.token.now in
    let l = plain_lists c.requires.1 in
    let p = c.requires.0 in
    ((omega (arith, g.pitches, l.pitches, p.short), omega (arith, g.articulations, l.articulations, p.short)), (omega (arith, p.part_in, p.parts_few), (p.voice_in, p.bars_few)))

pub write_note-requires : goal.write_note-requires
write_note-requires c = let l = plain_lists c.requires.1 in
    record {
      pitches = ap (λ (x : NoteWritten). x.pitches) c.note_at-note.ensures ∙ l.pitches;
      articulations = ap (λ (x : NoteWritten). x.articulations) c.note_at-note.ensures ∙ l.articulations;
      alone = plain_alone c.requires.1;
    }

pub returns : goal.returns
returns c = let g = part_sounded c.args.tally.parts _ c.args.spot.voice c.args.p.starts c.args.p.ends _ c.args.parts.now c.requires.0.part_in (omega (arith, c.requires.0.parts_few, c.told-parts)) c.sound-beam.ensures in
    let is = c.note_at-note.ensures ∙ ap (note_at c.args.p.note c.args.spot c.args.tally.bars) g.1 in
    record {
      sounds = g.0;
      lays = c.write_note.ensures.0 ∙ ap (λ (x : NoteWritten). laid c.args.out.now c.args.at (note_record x c.args.token.now ∷ [])) is;
      ends = c.write_note.ensures.1 ∙ ap (λ (x : NoteWritten). behind c.args.at (note_record x c.args.token.now ∷ [])) is;
    }
