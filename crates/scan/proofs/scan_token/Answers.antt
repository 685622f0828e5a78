-- Each of the four states, carried on over the items left, gives what it gives over all from the start; the byte at i decides the item there.
use mathlib.Core.Path.{refl}
use native.Mathlib.Omega.{arith}
use Rattle.items.proofs.RunLaws.{next_at}
use Rattle.items.proofs.NextLaws.{next_letters, next_blank, next_mark}
use Rattle.scan.proofs.ScanLaws.{scan_turn, scan_length, scan_past}
use Rattle.scan.proofs.UnknownLaws.{scan_run}
use Rattle.scan.proofs.scan_token.Goals as goal

pub loop-i-preserved-then-is_digit : goal.loop-i-preserved-then-is_digit
loop-i-preserved-then-is_digit c = scan_length c.loop-i.invariant c.loop-i-test.true c.is_digit.ensures c.if-is_digit.true c.length_at-next.ensures c.step_lengths-lengths.ensures c.step_first-first.ensures

pub loop-i-smaller-then-is_digit : goal.loop-i-smaller-then-is_digit
loop-i-smaller-then-is_digit c = let at = next_at c.loop-i-test.true c.length_at-next.ensures in omega arith

pub loop-i-preserved-then-is_letter : goal.loop-i-preserved-then-is_letter
loop-i-preserved-then-is_letter c = scan_turn c.loop-i.invariant c.loop-i-test.true (next_letters _ _ c.loop-i-test.true c.letter_end-end.ensures c.is_digit.ensures c.if-is_digit.false c.is_letter.ensures c.if-is_letter.true) c.step_lengths-lengths-then-is_letter.ensures c.step_first-first-then-is_letter.ensures c.step_sounds-sounds.ensures refl

pub loop-i-preserved-then-b-eq32 : goal.loop-i-preserved-then-b-eq32
loop-i-preserved-then-b-eq32 c = scan_turn c.loop-i.invariant c.loop-i-test.true (next_blank _ _ c.loop-i-test.true c.is_digit.ensures c.if-is_digit.false c.is_letter.ensures c.if-is_letter.false c.if-b-eq32.true) c.step_lengths-lengths-then-b-eq32.ensures c.step_first-first-then-b-eq32.ensures c.step_sounds-sounds-then-b-eq32.ensures refl

pub loop-i-preserved-then-is_unknown : goal.loop-i-preserved-then-is_unknown
loop-i-preserved-then-is_unknown c = rw c.with_unknown-sounds.ensures (scan_run _ c.loop-i.invariant c.unknown_end-end.ensures c.step_lengths-lengths-then-is_unknown.ensures c.step_first-first-then-is_unknown.ensures)

pub loop-i-preserved : goal.loop-i-preserved
loop-i-preserved c = scan_turn c.loop-i.invariant c.loop-i-test.true (next_mark _ _ c.loop-i-test.true c.is_digit.ensures c.if-is_digit.false c.is_letter.ensures c.if-is_letter.false c.if-b-eq32.false) c.step_lengths-lengths-in-loop-i.ensures c.step_first-first-in-loop-i.ensures c.step_sounds-sounds-in-loop-i.ensures c.step_marks-marks.ensures

pub returns : goal.returns
returns c = scan_past c.loop-i.invariant c.loop-i-test.false c.collect.ensures
