-- The place behind the last byte that is no CR.
use mathlib.Core.Path.{◌≡◌}
use Prim.Native.Nat.{ℕ, ◌<◌}
use lib.ListN.{length, get_or}
use borrow.Author.Rules.{rules}
use borrow.Author.Tests.{tests}
use Rattle.std.specs.Option.{MatchOption}
use native.Mathlib.Omega.{arith}
use Rattle.lines.specs.Lines.{without_crs}
use Rattle.lines.proofs.TrimLaws.{content_is, content_short}
use Rattle.lines.proofs.trimmed.Goals as goal

pub returns : goal.returns
returns c =
    let s = c.args.line.now in
    let e : MatchOption c.rposition.result ((k : ℕ) → k < length s → get_or s k 0 ≡ 13) (λ i. (i < length s) × (get_or s i 0 ≡ 13 → ⊥) × ((k : ℕ) → i < k → k < length s → get_or s k 0 ≡ 13)) = search (rules, tests) in
    let r : c.map_or.result ≡ length (without_crs s) = search (rules, content_is s c.rposition.result e) in
    (r, omega (arith, r, content_short s))
