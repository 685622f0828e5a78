-- The longest value that fits, and a tuplet of a longer one.
use mathlib.Core.Path.{sym, ◌∙◌}
use Rattle.gap.proofs.PlainLaws.{plain_none, plain_value, plain_just, plain_other}
use Rattle.gap.proofs.Time.tuplet_or_plain.Goals as goal

pub tuplet-requires-in-Some-2 : goal.tuplet-requires-in-Some-2
tuplet-requires-in-Some-2 c = plain_value c.args.self.divisions c.args.self.ticks (sym c.in-Some.is ∙ c.plain.ensures)

pub returns-in-None : goal.returns-in-None
returns-in-None c = c.tuplet.ensures ∙ plain_none c.args.self.divisions c.args.self.ticks (sym c.in-None.is ∙ c.plain.ensures)

pub returns-in-Some : goal.returns-in-Some
returns-in-Some c = plain_just c.args.self.divisions c.args.self.ticks (sym c.in-Some.is ∙ c.plain.ensures) c.if-rest-self.true

pub returns-in-Some-2 : goal.returns-in-Some-2
returns-in-Some-2 c =
    let d = c.args.self.divisions in
    c.or.ensures
    ∙ rw (c.tuplet-in-Some-2.ensures) (plain_other d c.args.self.ticks (sym c.in-Some.is ∙ c.plain.ensures) c.if-rest-self.false)
