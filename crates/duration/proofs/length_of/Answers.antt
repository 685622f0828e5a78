-- `length_of`: the product of three factors, which fits 32 bits.
use native.Mathlib.Omega.{arith}
use Rattle.duration.proofs.Lengths.{two_fit, all_fit}
use Rattle.duration.proofs.length_of.Goals as goal

pub overflow_mul-result-3 : goal.overflow_mul-result-3
overflow_mul-result-3 c = let b = two_fit _ _ c.value_length-v.ensures c.dot_factor-d.ensures in omega arith

pub overflow_mul-result-4 : goal.overflow_mul-result-4
overflow_mul-result-4 c = let b = all_fit _ _ c.value_length-v.ensures c.dot_factor-d.ensures _ _ c.tuplet_factor-t.ensures c.ranges.actual.fits c.ranges.normal.fits in omega arith
