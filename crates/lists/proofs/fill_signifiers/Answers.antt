-- What is stored, and what the items left give, are all; the byte at i decides the item there.
use mathlib.Core.Path.{refl}
use mathlib.Core.List.{[], ◌∷◌}
use native.Mathlib.Omega.{arith}
use Rattle.items.proofs.RunLaws.{next_at}
use Rattle.items.proofs.NextLaws.{next_length, next_letters, next_blank, next_mark}
use Rattle.token.specs.Token.{signifiers}
use Rattle.lists.proofs.FillLaws.{fill_as, fill_past, write_room, write_on, write_turn, write_left}
use Rattle.token.proofs.SignifierLaws.{no_signifiers, past_length, past_pitch, past_run, past_blank, past_known, past_unknown}
use Rattle.lists.proofs.UnknownLaws.{unknowns_room, unknowns_turn}
use Rattle.lists.proofs.fill_signifiers.Goals as goal

pub loop-i-preserved-then-is_digit : goal.loop-i-preserved-then-is_digit
loop-i-preserved-then-is_digit c = write_on c.loop-i.invariant _ (next_at c.loop-i-test.true (next_length _ _ c.loop-i-test.true c.length_end-i.ensures c.is_digit.ensures c.if-is_digit.true)) (past_length c.loop-i.sounding _)

pub loop-i-preserved-then-fits : goal.loop-i-preserved-then-fits
loop-i-preserved-then-fits c = write_on c.loop-i.invariant _ (next_at c.loop-i-test.true (next_letters _ _ c.loop-i-test.true c.letter_end-end.ensures c.is_digit.ensures c.if-is_digit.false c.is_letter.ensures c.if-is_letter.true)) (past_pitch c.loop-i.sounding _ _ c.fits.ensures c.if-fits.true)

pub bounds-out-k : goal.bounds-out-k
bounds-out-k c = omega (arith, write_room c.loop-i.invariant (_ ∷ []) (signifiers c.loop-i.sounding) (next_at c.loop-i-test.true (next_letters _ _ c.loop-i-test.true c.letter_end-end.ensures c.is_digit.ensures c.if-is_digit.false c.is_letter.ensures c.if-is_letter.true)) (past_run c.loop-i.sounding _ _ c.fits.ensures c.if-fits.false))

pub loop-i-preserved-then-is_letter : goal.loop-i-preserved-then-is_letter
loop-i-preserved-then-is_letter c = write_turn c.loop-i.invariant (_ ∷ []) (signifiers c.loop-i.sounding) (next_at c.loop-i-test.true (next_letters _ _ c.loop-i-test.true c.letter_end-end.ensures c.is_digit.ensures c.if-is_digit.false c.is_letter.ensures c.if-is_letter.true)) (past_run c.loop-i.sounding _ _ c.fits.ensures c.if-fits.false) refl refl

pub loop-i-preserved-then-b-eq32 : goal.loop-i-preserved-then-b-eq32
loop-i-preserved-then-b-eq32 c = write_on c.loop-i.invariant _ (next_at c.loop-i-test.true (next_blank _ _ c.loop-i-test.true c.is_digit.ensures c.if-is_digit.false c.is_letter.ensures c.if-is_letter.false c.if-b-eq32.true)) (past_blank c.loop-i.sounding)

pub put_run-k-requires : goal.put_run-k-requires
put_run-k-requires c = unknowns_room c.unknown_end-end.ensures c.loop-i.sounding c.loop-i.invariant

pub loop-i-preserved-then-is_unknown : goal.loop-i-preserved-then-is_unknown
loop-i-preserved-then-is_unknown c = unknowns_turn c.unknown_end-end.ensures c.loop-i.sounding c.loop-i.invariant c.put_run-k.ensures.0 c.put_run-k.ensures.1

pub loop-i-preserved-then-passes : goal.loop-i-preserved-then-passes
loop-i-preserved-then-passes c = write_on c.loop-i.invariant _ (next_at c.loop-i-test.true (next_mark _ _ c.loop-i-test.true c.is_digit.ensures c.if-is_digit.false c.is_letter.ensures c.if-is_letter.false c.if-b-eq32.false)) (past_known c.loop-i.sounding _ c.passes.ensures c.if-passes.true)

pub bounds-out-k-in-loop-i : goal.bounds-out-k-in-loop-i
bounds-out-k-in-loop-i c = omega (arith, write_room c.loop-i.invariant (_ ∷ []) (signifiers c.loop-i.sounding) (next_at c.loop-i-test.true (next_mark _ _ c.loop-i-test.true c.is_digit.ensures c.if-is_digit.false c.is_letter.ensures c.if-is_letter.false c.if-b-eq32.false)) (past_unknown c.loop-i.sounding _ c.passes.ensures c.if-passes.false))

pub loop-i-preserved : goal.loop-i-preserved
loop-i-preserved c = write_turn c.loop-i.invariant (_ ∷ []) (signifiers c.loop-i.sounding) (next_at c.loop-i-test.true (next_mark _ _ c.loop-i-test.true c.is_digit.ensures c.if-is_digit.false c.is_letter.ensures c.if-is_letter.false c.if-b-eq32.false)) (past_unknown c.loop-i.sounding _ c.passes.ensures c.if-passes.false) refl refl

pub returns : goal.returns
returns c = fill_past (fill_as (no_signifiers _) (write_left c.loop-i.invariant c.loop-i-test.false))
