-- The spines written, and the columns of the tokens left, make the first row, and each line written has voice 0.
use Rattle.std.proofs.Common.{◌∙◌, Some, refl, sym, subst, ℕ, length-append, rules, tests, arith}
use Rattle.lines.specs.Tokens.{tokens_of}
use Rattle.header.proofs.ColumnLaws.{Filling, numbered_turn, numbered_end, filling_first, filling_kern, filling_other, filling_past, voiced_first, voiced_turn}
use Rattle.header.proofs.table_of.Goals as goal

pub loop-i-init : goal.loop-i-init
loop-i-init c = (filling_first (tokens_of c.args.line.now), voiced_first)

pub overflow_cast-spines : goal.overflow_cast-spines
overflow_cast-spines c = let t = numbered_turn _ _ c.args.line.now (search (rules, tests)) c.loop-i.yielded _ _ c.loop-i.yielded_by _ c.next.ensures.steps c.in-Some.is in omega (arith, t.0, c.requires, c.loop-i.invariant.0.low)

pub invariant_of-spines : goal.invariant_of-spines
invariant_of-spines c = let t = numbered_turn _ _ c.args.line.now (search (rules, tests)) c.loop-i.yielded _ _ c.loop-i.yielded_by _ c.next.ensures.steps c.in-Some.is in
    record { room = omega (arith, t.0, c.requires, c.loop-i.invariant.0.low) }

pub offset_bounds-spines-i : goal.offset_bounds-spines-i
offset_bounds-spines-i c = let t = numbered_turn _ _ c.args.line.now (search (rules, tests)) c.loop-i.yielded _ _ c.loop-i.yielded_by _ c.next.ensures.steps c.in-Some.is in omega (arith, t.0, t.1.0, c.requires)

pub bounds-spines-i : goal.bounds-spines-i
bounds-spines-i c = let t = numbered_turn _ _ c.args.line.now (search (rules, tests)) c.loop-i.yielded _ _ c.loop-i.yielded_by _ c.next.ensures.steps c.in-Some.is in omega (arith, t.0, t.1.0, c.requires)

pub loop-i-preserved-then-is_kern : goal.loop-i-preserved-then-is_kern
loop-i-preserved-then-is_kern c = let t = numbered_turn _ _ c.args.line.now (search (rules, tests)) c.loop-i.yielded _ _ c.loop-i.yielded_by _ c.next.ensures.steps c.in-Some.is in (
  filling_kern c.loop-i.invariant.0 c.requires t.0 c.in-Some.token.now t.1.1 _ t.1.0 (length-append c.loop-i.yielded _) refl refl (sym c.is_kern.ensures ∙ c.if-is_kern.true),
  λ k. voiced_turn c.loop-i.spines _ k (Some _) refl (c.loop-i.invariant.1 k),
)

pub loop-i-preserved : goal.loop-i-preserved
loop-i-preserved c = let t = numbered_turn _ _ c.args.line.now (search (rules, tests)) c.loop-i.yielded _ _ c.loop-i.yielded_by _ c.next.ensures.steps c.in-Some.is in (
  subst (λ (n : ℕ). Filling (tokens_of c.args.line.now) c.loop-i.spines n c.loop-i.parts) (sym (length-append c.loop-i.yielded _))
      (filling_other c.loop-i.invariant.0 c.requires t.0 c.in-Some.token.now t.1.1 (sym c.is_kern.ensures ∙ c.if-is_kern.false)),
  c.loop-i.invariant.1,
)

pub returns : goal.returns
returns c = record { table = filling_past c.loop-i.invariant.0 (numbered_end _ _ c.args.line.now (search (rules, tests)) c.loop-i.yielded _ _ c.loop-i.yielded_by _ c.next.ensures.steps c.in-None.is); voices = c.loop-i.invariant.1 }
