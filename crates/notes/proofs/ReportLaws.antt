-- What a token reports, by its scan.
use mathlib.Core.Path.{◌≡◌, sym, ap, ◌∙◌}
use Prim.Native.Nat.{ℕ}
use mathlib.Core.List.{List, []}
use mathlib.Core.Bool.{Bool, true, false, cond}
use lib.ListN.{length}
use Rattle.items.specs.Items.{items}
use Rattle.token.specs.Token.{signifiers_of}
use Rattle.token.specs.Scan.{scan_items, scan_of}
use Rattle.token.specs.Outcome.{reported}
use Rattle.token.specs.declared.scan.Scan.{Scan}

module _ (token : List ℕ) {s : Scan} (scan : s ≡ scan_of token) where
  pub reports_none : s.bad ≡ true → reported token ≡ []
  unfolding scan_items
  reports_none e = ap (λ (t : Bool). cond t [] (signifiers_of (items token))) (sym (ap (λ (x : Scan). x.bad) scan) ∙ e)

  pub reports : s.bad ≡ false → reported token ≡ signifiers_of (items token)
  unfolding scan_items
  reports e = ap (λ (t : Bool). cond t [] (signifiers_of (items token))) (sym (ap (λ (x : Scan). x.bad) scan) ∙ e)

  pub signifiers_are : s.signifiers ≡ length (signifiers_of (items token))
  unfolding scan_items
  signifiers_are = ap (λ (x : Scan). x.signifiers) scan
