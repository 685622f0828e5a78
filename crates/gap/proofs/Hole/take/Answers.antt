-- What comes out of a hole is what the definition takes.
use mathlib.Core.Path.{refl, sym, ◌∙◌}
use native.Mathlib.Omega.{arith}
use Rattle.gap.proofs.FillLaws.{fill_more, takes}
use Rattle.gap.proofs.Hole.take.Goals as goal

pub overflow_sub-self-2 : goal.overflow_sub-self-2
overflow_sub-self-2 c = let h = c.args.self.now in (takes h.left.divisions h.left.ticks c.if-self-eq0.false (sym c.next_rest.ensures ∙ c.in-Some.is)).high

pub returns : goal.returns
returns c = let h = c.args.self.now in
    let is = sym c.next_rest.ensures ∙ c.in-Some.is in
    record {
      fills = fill_more h.left.divisions h.left.ticks c.if-self-eq0.false is h.room c.if-self-eq0-2.false;
      divisions = refl;
      left = omega (arith, (takes h.left.divisions h.left.ticks c.if-self-eq0.false is).high);
      room = omega (arith, c.if-self-eq0-2.false);
    }
