-- `count`: n bytes b stand in the blocks so far.
use mathlib.Core.Path.{◌≡◌, ap, ◌∙◌}
use native.Mathlib.Omega.{arith}
use Prim.Native.Nat.{ℕ, ◌*◌, ◌/◌}
use lib.ListN.{length, drop}
use lib.Dec.{eqb}
use Rattle.std.specs.List.{count_by}
use Rattle.search.proofs.BlockLaws.{count_turn, count_all}
use Rattle.search.proofs.count.Goals as goal

pub loop-part-preserved : goal.loop-part-preserved
loop-part-preserved c =
    let s = c.args.s.now in
    let j = c.loop-part.part-index in
    let below = rw c.as_chunks.ensures.front_len at c.loop-part-test.true in
    rw (c.from-n.ensures, c.hits.ensures, c.loop-part.invariant) (count_turn c.args.b 255 j s c.as_chunks.result.0.now c.as_chunks.ensures.front below)

pub returns : goal.returns
returns c =
    let s = c.args.s.now in
    let j = c.loop-part.part-index in
    let e : length s / 255 * 255 ≡ 255 * j = omega (arith, c.as_chunks.ensures.front_len, c.loop-part.auto.part-index-end, c.loop-part-test.false) in
    count_all c.args.b (255 * j) c.loop-part.n c.from.result s c.loop-part.invariant
    (c.from.ensures ∙ c.hits-2.ensures ∙ ap (count_by (λ y. eqb y c.args.b)) (c.as_chunks.ensures.back ∙ ap (λ (m : ℕ). drop m s) e))
