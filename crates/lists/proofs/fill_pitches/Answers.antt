-- What is stored, and what the items left give, are all; a pitch is given where its sub-token ends.
use mathlib.Core.Path.{refl, ap, ◌∙◌}
use mathlib.Core.List.{[]}
use Rattle.items.specs.declared.Item.TheVariants.{Letters, Blank, Mark}
use Rattle.items.proofs.RunLaws.{next_at}
use Rattle.items.proofs.NextLaws.{next_length, next_letters, next_blank, next_mark}
use Rattle.token.specs.Token.{begun}
use Rattle.token.proofs.ReferenceLaws.{heard_length}
use Rattle.std.specs.Prelude.{None}
use Rattle.lists.specs.Lists.{tone_bytes, sound_bytes}
use Rattle.lists.proofs.FillLaws.{fill_as, fill_room, fill_turn, fill_past, write_room, write_on, write_turn, write_left}
use Rattle.lists.proofs.ItemLaws.{heard_none}
use Rattle.lists.proofs.CountLaws.{heard_bytes, heard_next}
use Rattle.lists.proofs.UnknownLaws.{unknowns_past}
use Rattle.lists.proofs.fill_pitches.Goals as goal

pub loop-i-preserved-then-is_digit : goal.loop-i-preserved-then-is_digit
loop-i-preserved-then-is_digit c = write_on c.loop-i.invariant _ (next_at c.loop-i-test.true (next_length _ _ c.loop-i-test.true c.length_end-i.ensures c.is_digit.ensures c.if-is_digit.true)) (λ is. ap tone_bytes (heard_length c.loop-i.sound _ is))

pub loop-i-preserved-then-is_letter : goal.loop-i-preserved-then-is_letter
loop-i-preserved-then-is_letter c = write_on c.loop-i.invariant _ (next_at c.loop-i-test.true (next_letters _ _ c.loop-i-test.true c.letter_end-end.ensures c.is_digit.ensures c.if-is_digit.false c.is_letter.ensures c.if-is_letter.true)) (heard_next c.loop-i.sound (Letters _ _) (c.begin-sound.ensures ∙ ap (begun c.loop-i.sound) c.pitch_of.ensures))

pub put_sound-k-requires : goal.put_sound-k-requires
put_sound-k-requires c = write_room c.loop-i.invariant (sound_bytes c.loop-i.sound) (heard_bytes None) (next_at c.loop-i-test.true (next_blank _ _ c.loop-i-test.true c.is_digit.ensures c.if-is_digit.false c.is_letter.ensures c.if-is_letter.false c.if-b-eq32.true)) (heard_next c.loop-i.sound Blank refl)

pub loop-i-preserved-then-b-eq32 : goal.loop-i-preserved-then-b-eq32
loop-i-preserved-then-b-eq32 c = write_turn c.loop-i.invariant (sound_bytes c.loop-i.sound) (heard_bytes None) (next_at c.loop-i-test.true (next_blank _ _ c.loop-i-test.true c.is_digit.ensures c.if-is_digit.false c.is_letter.ensures c.if-is_letter.false c.if-b-eq32.true)) (heard_next c.loop-i.sound Blank refl) c.put_sound-k.ensures.0 c.put_sound-k.ensures.1

pub loop-i-preserved-then-is_unknown : goal.loop-i-preserved-then-is_unknown
loop-i-preserved-then-is_unknown c = unknowns_past c.unknown_end-i.ensures c.loop-i.sound c.loop-i.invariant

pub loop-i-preserved : goal.loop-i-preserved
loop-i-preserved c = write_on c.loop-i.invariant _ (next_at c.loop-i-test.true (next_mark _ _ c.loop-i-test.true c.is_digit.ensures c.if-is_digit.false c.is_letter.ensures c.if-is_letter.false c.if-b-eq32.false)) (heard_next c.loop-i.sound (Mark _) c.sign-sound.ensures)

pub put_sound-requires : goal.put_sound-requires
put_sound-requires c = fill_room (sound_bytes c.loop-i.sound) [] (fill_as (heard_none c.loop-i.sound) (write_left c.loop-i.invariant c.loop-i-test.false))

pub returns : goal.returns
returns c = fill_past (fill_turn (sound_bytes c.loop-i.sound) [] (fill_as (heard_none c.loop-i.sound) (write_left c.loop-i.invariant c.loop-i-test.false)) c.put_sound.ensures.0 c.put_sound.ensures.1)
