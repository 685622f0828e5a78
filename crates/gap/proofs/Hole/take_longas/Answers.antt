-- So many longas less, the hole comes to so many rests fewer.
use mathlib.Core.Path.{sym, ap, ◌∙◌}
use Prim.Native.Nat.{ℕ, ◌-◌, ◌*◌, ◌/◌, ◌<◌}
use native.Mathlib.Nat.{div-mul-le_self, mul-le-mul_right, min-le_right}
use native.Mathlib.Omega.{arith}
use Rattle.gap.proofs.ValueLaws.{ticks_whole}
use Rattle.gap.proofs.LongaLaws.{past_longas}
use Rattle.gap.proofs.Hole.take_longas.Goals as goal

pub nonzero_div-self : goal.nonzero_div-self
nonzero_div-self c = (ticks_whole c.args.self.now.left.divisions 0 (sym c.ticks_of.ensures ∙ c.in-Some.is)).some

pub returns-in-Some-clause-same : goal.returns-in-Some-clause-same
returns-in-Some-clause-same c =
    let h = c.args.self.now in
    let longa = c.in-Some.longa in
    let many = (h.left.ticks - 1) / longa in
    let long : c.min-n.result * longa < h.left.ticks =
    omega (
      arith,
      c.if-longa-self.true,
      ap (λ (n : ℕ). n * longa) c.min-n.ensures,
      mul-le-mul_right longa (min-le_right h.room many),
      div-mul-le_self (h.left.ticks - 1) longa,
    )
    in
    past_longas h.left.divisions longa (sym c.ticks_of.ensures ∙ c.in-Some.is) c.min-n.result 0 c.min-n.result h.room h.left.ticks (omega arith) long
    (omega (arith, c.min-n.ensures))
