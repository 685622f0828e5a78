-- No pitches have no bytes; the one that there is has three.
use mathlib.Core.Path.{ap, subst, ◌∙◌}
use native.Mathlib.Omega.{arith}
use Rattle.std.specs.Prelude.{IfSome}
use Rattle.slices.specs.Store.{stored}
use Rattle.slices.proofs.StoreLaws.{stored_tail}
use Rattle.token.specs.Outcome.{note_pitches}
use Rattle.lists.specs.Lists.{pitch_bytes}
use Rattle.lists.proofs.ItemLaws.{tones_length}
use Rattle.writing.specs.Kept.{Alone}
use Rattle.writing.proofs.WriteLaws.{none_put, sounds, tone_alone}
use Rattle.writing.proofs.add_pitches.Goals as goal

pub returns-then-count-eq0 : goal.returns-then-count-eq0
returns-then-count-eq0 c = none_put (pitch_bytes c.args.token.now) c.args.out.now 28 (omega (arith, tones_length (note_pitches c.args.token.now)))

pub fill_pitches-requires : goal.fill_pitches-requires
fill_pitches-requires c = (sounds c.args.token.now (λ e. c.if-count-eq0.false (c.requires.count ∙ e)), omega (arith, c.requires.count, c.requires.room, tones_length (note_pitches c.args.token.now)))

pub returns-in-Some : goal.returns-in-Some
returns-in-Some c = let alone = subst (λ o. IfSome o (Alone c.args.token.now)) c.in-Some.is c.requires.alone in
    let e = tone_alone c.args.token.now c.in-Some.tone c.alter_byte.ensures alone (λ z. c.if-count-eq0.false (c.requires.count ∙ z)) in
    stored_tail (pitch_bytes c.args.token.now) c.args.out.now c.put.new.out 28 (omega (arith, tones_length (note_pitches c.args.token.now), c.requires.count, c.requires.room)) (c.put.ensures ∙ ap (stored _) e)

pub returns-in-None : goal.returns-in-None
returns-in-None c = stored_tail (pitch_bytes c.args.token.now) c.args.out.now c.fill_pitches.new.out 28 (omega (arith, tones_length (note_pitches c.args.token.now), c.requires.count, c.requires.room)) c.fill_pitches.ensures
