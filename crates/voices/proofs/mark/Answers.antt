-- The masks tell the voices of the lines passed.
use Rattle.std.proofs.Common.{arith, sym, ◌∙◌}
use Rattle.spines.proofs.CellLaws.{of_line}
use Rattle.voices.proofs.MaskLaws.{marking_first, marking_line, marking_pass}
use Rattle.voices.proofs.mark.Goals as goal
use Rattle.voices.proofs.mark.Goals.{in-Line, in_default}

pub loop-cell-init : goal.loop-cell-init
loop-cell-init c = marking_first c.requires

pub overflow_cast-voice : goal.overflow_cast-voice
overflow_cast-voice c = let l = of_line _ (sym c.in-Line.ensures) in omega (arith, l.low)

pub with_voice-requires : goal.with_voice-requires
with_voice-requires c = let l = of_line _ (sym c.in-Line.ensures) in omega (arith, l.low)

pub loop-cell-preserved : goal.loop-cell-preserved
loop-cell-preserved c =
    elim c.match-spine_of.branch [
      | in-Line w ↦ rw w.masks-is (marking_line c.loop-cell.invariant c.loop-cell-test.true (sym w.in-Line.ensures) w.place-q.ensures.0 (omega (arith, w.place-q.ensures)) w.with_voice.ensures)
      | in_default w ↦ rw w.masks-is (marking_pass c.loop-cell.invariant c.loop-cell-test.true (λ p v e. w.in_default.not-Line p v (c.spine_of.ensures ∙ e)))
    ]
