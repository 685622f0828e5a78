-- One item more: only a mark counts, for each thing that it says.
use mathlib.Core.Path.{◌≡◌}
use mathlib.Core.Bool.{Bool, true, false, cond, ◌||◌}
use Prim.Native.Nat.{ℕ, ◌+◌}
use mir.Val.{bool_byte}
use lib.Dec.{ltb}
use Rattle.token.specs.Token.{articulation}
use native.Mathlib.Omega.{arith}
use Rattle.std.proofs.lemmas.Bool.Decides.{nat_tests}
use Rattle.slices.specs.Ascii.{ascii}
use Rattle.notation.specs.Bytes.{contains}
use Rattle.scan.proofs.NumberLaws.{counts}
use Rattle.scan.proofs.step_marks.Goals.{then-m, else-m+in-91, else-m+in_default-matches, then-m-2, else-m-2+in-93, else-m-2+in_default-matches-2, then-m-3, else-m-3, then-m-4, else-m-4}
use Rattle.scan.proofs.step_marks.Goals as goal

one_more_lem : (t : Bool) (n : ℕ) → n + bool_byte t ≡ cond t 1 0 + n
one_more_lem true n = omega arith
one_more_lem false n = omega arith

pub returns-after-m-4 : goal.returns-after-m-4
unfolding contains
returns-after-m-4 c =
    let ties : c.if-m.result ≡ (c.args.m.ties || contains c.in-Mark.b (ascii "[_")) =
    elim c.if-m.branch [ then-m w ↦ grind (arith, nat_tests) | else-m+in-91 w ↦ grind (arith, nat_tests) | else-m+in_default-matches w ↦ grind (arith, nat_tests) ] in
    let tied : c.if-m-2.result ≡ (c.args.m.tied || contains c.in-Mark.b (ascii "]_")) =
    elim c.if-m-2.branch [ then-m-2 w ↦ grind (arith, nat_tests) | else-m-2+in-93 w ↦ grind (arith, nat_tests) | else-m-2+in_default-matches-2 w ↦ grind (arith, nat_tests) ] in
    let slurs : c.if-m-3.result ≡ (c.args.m.slurs || contains c.in-Mark.b (ascii "(")) = elim c.if-m-3.branch [ then-m-3 w ↦ grind (arith, nat_tests) | else-m-3 w ↦ grind (arith, nat_tests) ] in
    let slurred : c.if-m-4.result ≡ (c.args.m.slurred || contains c.in-Mark.b (ascii ")")) = elim c.if-m-4.branch [ then-m-4 w ↦ grind (arith, nat_tests) | else-m-4 w ↦ grind (arith, nat_tests) ] in
    let counted : c.args.m.articulations + c.from.result ≡ cond (ltb (articulation c.in-Mark.b) 5) 1 0 + c.args.m.articulations =
    rw (c.from.ensures, c.is_some.ensures, counts _ _ c.articulation.ensures) (one_more_lem (ltb (articulation c.in-Mark.b) 5) c.args.m.articulations) in
    rw (c.in-Mark.is, ties, tied, slurs, slurred, c.grace_by.ensures, counted)
