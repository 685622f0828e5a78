-- A state carried over the items of a token.
use mathlib.Core.Path.{◌≡◌, sym, ap, ◌∙◌}
use Prim.Native.Nat.{ℕ, ◌≤◌}
use mathlib.Core.List.{List, [], ◌∷◌}
use lib.ListN.{length, drop}
use Rattle.items.specs.Items.{items}
use Rattle.items.specs.declared.Item.{Item}
use Rattle.items.specs.declared.Next.{Next}
use Rattle.items.proofs.RunLaws.{At, no_items}

abbrev pub fold : {S : Type 0} → (S → Item → S) → S → List Item → S
fold step s [] = s
fold step s (i ∷ is) = fold step (step s i) is

-- the whole, from the fresh state, is what is left from i on, from the state there
pub record Folding (S : Type 0) (step : S → Item → S) (fresh : S) (token : List ℕ) (s : S) (i : ℕ) : Type 0 where
  pub same : fold step fresh (items token) ≡ fold step s (items (drop i token))

module _ {S : Type 0} {step : S → Item → S} {fresh : S} {token : List ℕ} {s : S} {i : ℕ} (inv : Folding S step fresh token s i) where
  pub fold_turn : {n : Next} {t : S} → At token i n → t ≡ step s n.item → Folding S step fresh token t n.end
  fold_turn {n} {t} at e =
      record {
        same = inv.same ∙ ap (fold step s) at.same ∙ ap (λ (v : S). fold step v (items (drop n.end token))) (sym e);
      }

  pub fold_past : length token ≤ i → s ≡ fold step fresh (items token)
  fold_past h = sym (inv.same ∙ ap (fold step s) (no_items token h))
