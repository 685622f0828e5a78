-- `tailed`: the tails one by one.
use mathlib.Core.Path.{refl, ◌∙◌}
use mathlib.Core.List.{[], ◌∷◌}
use lib.ListN.{drop}
use borrow.Author.Rules.{rules}
use borrow.Author.Tests.{tests}
use Prim.Native.Nat.{◌-◌}
use Rattle.std.proofs.lemmas.Iterator.{YieldsList-from_range}
use Rattle.std.proofs.lemmas.Iterator.Search.{all_from_yields_List}
use Rattle.utf8.specs.Utf8.{begins}
use Rattle.utf8.proofs.RowLaws.{all_tails}
use Rattle.utf8.proofs.tailed.Goals as goal

pub returns : goal.returns
returns c =
    let s = c.args.s.now in
    let i = c.args.from in
    let m = c.args.n - i in
    all_from_yields_List (λ k. begins ((0x80, 0xBF) ∷ []) (drop k s)) _ _ _ c.all.ensures.ran (YieldsList-from_range i c.args.n m (cc) refl) (λ x t q k. search (rules, tests)) ∙ all_tails s m i
