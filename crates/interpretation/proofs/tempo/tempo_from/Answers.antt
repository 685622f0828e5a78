-- A whole part held at 65,536 is out of range as it was before.
use native.Mathlib.Omega.{arith}
use Rattle.interpretation.proofs.Exits.{kept}
use Rattle.interpretation.proofs.TempoLaws.{parts_fit, tempo_by}
use Rattle.interpretation.proofs.tempo.tempo_from.Goals as goal

pub overflow_mul-units : goal.overflow_mul-units
overflow_mul-units c =
    let p = parts_fit _ _ c.number_up_to.ensures (kept _ _ c.ok_or.ensures.value c.in_ok-units.was) c.number_up_to-2.ensures (kept _ _ c.ok_or-2.ensures.value c.in_ok-parts.was) c.if-fraction-gt9.false c.pow-unit.ensures in
    omega arith

pub overflow_add-units : goal.overflow_add-units
overflow_add-units c =
    let p = parts_fit _ _ c.number_up_to.ensures (kept _ _ c.ok_or.ensures.value c.in_ok-units.was) c.number_up_to-2.ensures (kept _ _ c.ok_or-2.ensures.value c.in_ok-parts.was) c.if-fraction-gt9.false c.pow-unit.ensures in
    omega arith

pub round-requires : goal.round-requires
round-requires c = parts_fit _ _ c.number_up_to.ensures (kept _ _ c.ok_or.ensures.value c.in_ok-units.was) c.number_up_to-2.ensures (kept _ _ c.ok_or-2.ensures.value c.in_ok-parts.was) c.if-fraction-gt9.false c.pow-unit.ensures

pub returns : goal.returns
returns c = tempo_by _ _ c.number_up_to.ensures (kept _ _ c.ok_or.ensures.value c.in_ok-units.was) c.number_up_to-2.ensures (kept _ _ c.ok_or-2.ensures.value c.in_ok-parts.was) c.if-fraction-gt9.false c.pow-unit.ensures c.round.ensures
