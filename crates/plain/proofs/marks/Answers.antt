-- The bytes up to i are marks, and the flags and the count say what they say; no more are articulations than there are bytes.
use mathlib.Core.Path.{◌≡◌, refl, sym, ◌∙◌}
use mathlib.Core.Bool.{true}
use lib.ListN.{get_or}
use lib.Dec.{ltb}
use Rattle.plain.specs.Usual.{unknown_bytes}
use native.Mathlib.Omega.{arith}
use Rattle.notation.specs.Bytes.{contains}
use Rattle.token.specs.Token.{articulation}
use Rattle.scan.proofs.NumberLaws.{counts}
use Rattle.plain.proofs.ByteLaws.{mark_turn, articulation_mark, said_articulation, unknown_mark, said_unknown}
use Rattle.plain.proofs.PieceLaws.{carried_first, carried_turn}
use Rattle.plain.proofs.marks.Goals as goal
use Rattle.plain.proofs.marks.Goals.{in-76, in-74, in-91, in-93, in-95, in-40, in-41, in_default, in_default-2}

pub loop-i-init : goal.loop-i-init
loop-i-init c = (carried_first c.requires, omega arith, refl)

pub loop-i-preserved : goal.loop-i-preserved
unfolding contains articulation
loop-i-preserved c =
    elim c.match-line-i.branch [
      | in-76 w ↦ rw w.said-is (mark_turn 76 c.loop-i.invariant.0 c.loop-i-test.true w.in-76.is refl refl, omega arith, c.loop-i.invariant.2)
      | in-74 w ↦ rw w.said-is (mark_turn 74 c.loop-i.invariant.0 c.loop-i-test.true w.in-74.is refl refl, omega arith, c.loop-i.invariant.2)
      | in-91 w ↦ rw w.said-is (mark_turn 91 c.loop-i.invariant.0 c.loop-i-test.true w.in-91.is refl refl, omega arith, c.loop-i.invariant.2)
      | in-93 w ↦ rw w.said-is (mark_turn 93 c.loop-i.invariant.0 c.loop-i-test.true w.in-93.is refl refl, omega arith, c.loop-i.invariant.2)
      | in-95 w ↦ rw w.said-is (mark_turn 95 c.loop-i.invariant.0 c.loop-i-test.true w.in-95.is refl refl, omega arith, c.loop-i.invariant.2)
      | in-40 w ↦ rw w.said-is (mark_turn 40 c.loop-i.invariant.0 c.loop-i-test.true w.in-40.is refl refl, omega arith, c.loop-i.invariant.2)
      | in-41 w ↦ rw w.said-is (mark_turn 41 c.loop-i.invariant.0 c.loop-i-test.true w.in-41.is refl refl, omega arith, c.loop-i.invariant.2)
      | in_default w ↦
          let b = get_or c.args.line.now c.loop-i.i 0 in
          let few : ltb (articulation b) 5 ≡ true = sym (counts _ _ w.articulation.ensures) ∙ sym w.is_some.ensures ∙ w.if-is_some.true in
          rw w.said-is (carried_turn c.loop-i.invariant.0 c.loop-i-test.true (articulation_mark b few) (said_articulation _ b few), omega arith, c.loop-i.invariant.2)
      | in_default-2 w ↦
          let b = get_or c.args.line.now c.loop-i.i 0 in
          let unknown : contains b unknown_bytes ≡ true = w.is_unknown.ensures w.if-is_unknown.true in
          rw w.said-is (carried_turn c.loop-i.invariant.0 c.loop-i-test.true (unknown_mark b unknown) (said_unknown _ b unknown), omega arith, c.loop-i.invariant.2)
    ]
