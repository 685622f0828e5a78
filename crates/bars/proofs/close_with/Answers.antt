-- A closing, or a left barline kept.
use Rattle.std.proofs.Common.{refl, sym, ◌∙◌, take, arith}
use Rattle.bars.proofs.CloseLaws.{close_told, same_told, left_told}
use Rattle.state.proofs.PartLaws.{lent_back}
use Rattle.bars.proofs.close_with.Goals as goal

pub returns-then-any_noted : goal.returns-then-any_noted
returns-then-any_noted c = record {
  told = λ cells.
      let a = c.args in
      let g = c.close-at.ensures in
      let back = lent_back a.tally.parts c.close-at.new.parts a.parts.now (omega (arith, c.requires.0, c.told-parts)) c.close-at.auto.parts in
      close_told cells a.parts.now _ a.out.now c.close-at.new.out a.tally a.right a.left c.close-at.result (sym c.if-any_noted.true ∙ c.any_noted.ensures) (back ∙ g.0) g.1.0 g.1.1;
  kept = refl;
}

pub returns-then-left-ne0 : goal.returns-then-left-ne0
returns-then-left-ne0 c = record {
  told = λ cells.
      let a = c.args in
      let back = lent_back a.tally.parts c.keep_left.new.parts a.parts.now (omega (arith, c.requires.0, c.told-parts)) c.keep_left.auto.parts in
      left_told cells a.parts.now _ a.out.now a.out.now a.tally a.right a.left (sym c.if-any_noted.false ∙ c.any_noted.ensures) c.if-left-ne0.true (back ∙ c.keep_left.ensures);
  kept = refl;
}

pub returns-else-left-ne0 : goal.returns-else-left-ne0
returns-else-left-ne0 c = record {
  told = λ cells.
      let a = c.args in
      let back = lent_back a.tally.parts (take a.tally.parts a.parts.now) a.parts.now (omega (arith, c.requires.0, c.told-parts)) refl in
      same_told cells a.parts.now _ a.out.now a.out.now a.tally a.right a.left (sym c.if-any_noted.false ∙ c.any_noted.ensures) c.if-left-ne0.false back;
  kept = refl;
}
