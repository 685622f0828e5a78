-- Notice 20 comes first, then the NOTE behind it.
use native.Mathlib.Omega.{arith}
use Rattle.token.proofs.FewLaws.{gives}
use Rattle.state.specs.View.{state_of}
use Rattle.notes.proofs.BeamLaws.{part_sounded}
use Rattle.notes.proofs.TokenLaws.{note_added, note_refused, note_same}
use Rattle.notes.proofs.add_note.Goals as goal

pub note_at-note-requires : goal.note_at-note-requires
note_at-note-requires c = let g = gives c.args.token.now in
    let p = c.requires in
    let k = c.notify_inferred-t.ensures.same.bars in
    ((omega (arith, g.pitches, p.1.0, p.0.short), omega (arith, g.articulations, p.1.1, p.0.short)), (omega (arith, p.0.part_in, p.0.parts_few), (p.0.voice_in, omega (arith, k, p.0.bars_few))))

pub returns-then-room : goal.returns-then-room
returns-then-room c = let same = c.notify_inferred-t.ensures.same in
    let l = c.beam_letters-letters.result in
    let g = part_sounded c.notify_inferred-t.result.parts c.args.spot.part c.args.spot.voice l.starts l.ends _ c.args.parts.now (omega (arith, same.parts, c.requires.0.part_in)) (omega (arith, same.parts, c.requires.0.parts_few, c.told-parts)) c.sound-beam.ensures in
    (λ cells. note_added cells c.args.parts.now _ c.args.token.now c.args.n c.args.spot (omega arith) c.notify_inferred-t.ensures c.beam_letters-letters.ensures g.0 g.1 c.note_at-note.ensures c.write_note-at.ensures.0 c.write_note-at.ensures.1 c.with_note.ensures, note_same same c.with_note.ensures)

pub returns : goal.returns
returns c = (λ cells. note_refused c.args.spot.part c.args.spot.voice c.args.spot.line c.args.spot.column c.args.spot.at c.args.token.now c.args.n (state_of cells c.args.parts.now c.args.tally) c.args.out.now c.args.tally.at c.if-room.false, tt)
