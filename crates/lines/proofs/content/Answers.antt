-- A line that is empty, or whose last byte is no CR.
use mathlib.Core.Path.{◌≡◌}
use Prim.Native.Nat.{◌-◌}
use lib.ListN.{length, get_or}
use borrow.Author.Rules.{rules}
use borrow.Author.Tests.{tests}
use native.Mathlib.Omega.{arith}
use Rattle.lines.specs.Lines.{without_crs}
use Rattle.lines.proofs.TrimLaws.{whole_kept, content_short}
use Rattle.lines.proofs.content.Goals as goal

pub returns-then-n-eq0 : goal.returns-then-n-eq0
returns-then-n-eq0 c =
    let s = c.args.line.now in
    let none : length s ≡ 0 = search (rules, tests) in
    (omega (arith, none, content_short s), omega arith)

pub returns-then-line-n-ne13 : goal.returns-then-line-n-ne13
returns-then-line-n-ne13 c =
    let s = c.args.line.now in
    let other : get_or s (length s - 1) 0 ≡ 13 → ⊥ = search (rules, tests) in
    let e : length (without_crs s) ≡ length s = search (rules, tests, whole_kept s) in
    (omega (arith, e), omega arith)
