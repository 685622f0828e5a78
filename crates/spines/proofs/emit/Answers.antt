-- A case of the machine for each token; to the right of one that exchanges its partner's spine.
use Rattle.std.proofs.Common.{sym, rules}
use denote.Enum.Bare.{same_true, same_false}
use Rattle.spines.specs.contracts.Left.{the_type}
use Rattle.spines.proofs.WalkLaws.{emitted_by, em_split, em_more, em_join, em_pair, em_lone, em_end, em_add, em_other, em_right}
use Rattle.spines.proofs.emit.Goals as goal

pub returns-then-eq : goal.returns-then-eq
returns-then-eq c = emitted_by c.one.ensures (em_right (same_true the_type (search rules) _ _ (sym c.if-eq.ensures)))

pub returns-in-Split : goal.returns-in-Split
returns-in-Split c = emitted_by c.two.ensures (em_split c.args.left (same_false the_type _ _ (sym c.if-eq.ensures)) c.in-Split.is)

pub returns-in-Join : goal.returns-in-Join
returns-in-Join c = emitted_by c.none.ensures (em_more (same_true the_type (search rules) _ _ (sym c.if-eq-2.ensures)) c.in-Join.is)

pub returns-in-Join-2 : goal.returns-in-Join-2
returns-in-Join-2 c =
    emitted_by c.one-in-Join-2.ensures
    (em_join c.args.left (same_false the_type _ _ (sym c.if-eq.ensures)) (same_false the_type _ _ (sym c.if-eq-2.ensures)) c.in-Join-2.is)

pub returns-in-Exchange : goal.returns-in-Exchange
returns-in-Exchange c = emitted_by c.one-in-Exchange.ensures (em_pair c.args.left (same_false the_type _ _ (sym c.if-eq.ensures)) c.if-pair.true c.in-Exchange.is)

pub returns-in-Exchange-2 : goal.returns-in-Exchange-2
returns-in-Exchange-2 c = emitted_by c.one-in-Exchange-2.ensures (em_lone c.args.left (same_false the_type _ _ (sym c.if-eq.ensures)) c.if-pair.false c.in-Exchange-2.is)

pub returns-in-End : goal.returns-in-End
returns-in-End c = emitted_by c.none-in-End.ensures (em_end c.args.left (same_false the_type _ _ (sym c.if-eq.ensures)) c.in-End.is)

pub returns-in-Add : goal.returns-in-Add
returns-in-Add c = emitted_by c.two-in-Add.ensures (em_add c.args.left (same_false the_type _ _ (sym c.if-eq.ensures)) c.in-Add.is)

pub returns-in-Other : goal.returns-in-Other
returns-in-Other c = emitted_by c.one-in-Other.ensures (em_other c.args.left (same_false the_type _ _ (sym c.if-eq.ensures)) c.in-Other.is)
