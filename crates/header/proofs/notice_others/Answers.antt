-- The notices of the tokens left, laid from here, are all of them, laid from the start.
use Rattle.std.proofs.Common.{sym, subst, ℕ, ◌+◌, length, length-append, rules, tests, arith}
use Rattle.header.proofs.ColumnLaws.{numbered_turn, numbered_end}
use Rattle.header.proofs.NoticeLaws.{Noticing, noticing_first, noticing_room, noticing_turn, noticing_past}
use Rattle.header.proofs.notice_others.Goals as goal

pub loop-i-init : goal.loop-i-init
loop-i-init c = noticing_first c.args.line.bytes.now c.args.line.number c.args.line.offset c.args.tally c.args.out.now

pub overflow_cast-column : goal.overflow_cast-column
overflow_cast-column c = let t = numbered_turn _ _ c.args.line.bytes.now (search (rules, tests)) c.loop-i.yielded _ _ c.loop-i.yielded_by _ c.next.ensures.steps c.in-Some.is in omega (arith, t.0, t.1.0, c.requires)

pub overflow_add-column : goal.overflow_add-column
overflow_add-column c = let t = numbered_turn _ _ c.args.line.bytes.now (search (rules, tests)) c.loop-i.yielded _ _ c.loop-i.yielded_by _ c.next.ensures.steps c.in-Some.is in omega (arith, t.0, t.1.0, c.requires)

pub invariant_of-token : goal.invariant_of-token
invariant_of-token c = let t = numbered_turn _ _ c.args.line.bytes.now (search (rules, tests)) c.loop-i.yielded _ _ c.loop-i.yielded_by _ c.next.ensures.steps c.in-Some.is in
    record { short = omega (arith, noticing_room c.loop-i.invariant t.0 c.in-Some.token.now t.1.1, c.args.line.short) }

pub loop-i-preserved : goal.loop-i-preserved
loop-i-preserved c = let t = numbered_turn _ _ c.args.line.bytes.now (search (rules, tests)) c.loop-i.yielded _ _ c.loop-i.yielded_by _ c.next.ensures.steps c.in-Some.is in
    subst (λ (n : ℕ). Noticing c.args.line.bytes.now c.args.line.number c.args.line.offset c.args.tally c.args.out.now c.notice_other-t.result c.notice_other-t.new.out (c.loop-i.at + (length c.in-Some.token.now + 1)) n)
    (sym (length-append c.loop-i.yielded _))
    (noticing_turn c.loop-i.invariant t.0 c.in-Some.token.now t.1.1 c.notice_other-t.auto.out (rw t.1.0 at c.notice_other-t.ensures))

pub returns : goal.returns
returns c = noticing_past c.loop-i.invariant (numbered_end _ _ c.args.line.bytes.now (search (rules, tests)) c.loop-i.yielded _ _ c.loop-i.yielded_by _ c.next.ensures.steps c.in-None.is)
