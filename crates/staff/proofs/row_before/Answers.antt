-- The row so far, and what the lines left make of it, are the row before line k.
use Prim.Native.Nat.{ℕ, ◌+◌, ◌-◌}
use mathlib.Core.List.{List, [], ◌∷◌, ◌++◌}
use denote.Ref.{Bor}
use mathlib.Core.Path.{◌≡◌, ap}
use mathlib.Core.Bool.{Bool, ◌||◌}
use Rattle.std.proofs.Common.{rules, arith}
use borrow.Author.Tests.{tests}
use lib.ListN.{length, take, length-append}
use Rattle.std.proofs.lemmas.Iterator.{YieldsList-from_take}
use Rattle.std.proofs.lemmas.Iterator.Consumers.{YieldsList-at}
use Rattle.lines.specs.Lines.{lines_of}
use Rattle.staff.proofs.WalkLaws.{YieldsList-from_lines, item_is, items_end, walking_first, walking_turn, walking_past}
use Rattle.staff.proofs.row_before.Goals as goal

pub loop-line-init : goal.loop-line-init
loop-line-init c = walking_first (take (c.args.k - 1) (lines_of c.args.text.now)) c.args.rows.now.row

pub loop-line-preserved : goal.loop-line-preserved
loop-line-preserved c =
    let t = item_is {v = λ (y : Bor (List ℕ)). y.now} c.loop-line.yielded _ c.loop-line.yielded_by _ _ c.in-Some.line c.in-Some.is c.next.ensures.steps
    (YieldsList-at c.into_iter-line-iterator.ensures.into_iter_gives (YieldsList-from_take (c.args.k - 1)
    (YieldsList-at c.take-line-items.ensures.source (YieldsList-from_lines _ c.args.text.now (cc) (cc) (cc) (λ x b q k. search (rules, tests)))) (cc))) in
    let n : length (c.loop-line.yielded ++ (c.in-Some.line ∷ [])) ≡ length c.loop-line.yielded + 1 = length-append c.loop-line.yielded (c.in-Some.line ∷ []) in
    rw n (walking_turn c.loop-line.invariant t.0 t.1 c.bare-line.ensures c.line_kind.ensures c.row_past-active.ensures (ap (λ (b : Bool). c.loop-line.begun || b) c.is_record-begun.ensures))

pub returns : goal.returns
returns c =
    let n = items_end {v = λ (y : Bor (List ℕ)). y.now} c.loop-line.yielded _ c.loop-line.yielded_by _ _ c.in-None.is c.next.ensures.steps
    (YieldsList-at c.into_iter-line-iterator.ensures.into_iter_gives (YieldsList-from_take (c.args.k - 1)
    (YieldsList-at c.take-line-items.ensures.source (YieldsList-from_lines _ c.args.text.now (cc) (cc) (cc) (λ x b q k. search (rules, tests)))) (cc))) in
    walking_past c.loop-line.invariant (omega (arith, n))
