-- A search byte by byte, and by std's `position`, in our words.
use mathlib.Core.Path.{◌≡◌, refl, ap, ◌∙◌}
use mathlib.Core.Bool.{Bool, true, false, cond}
use Prim.Native.Nat.{ℕ, suc, ◌+◌, ◌≤◌, ◌<◌}
use native.Mathlib.Omega.{arith}
use mathlib.Core.List.{List}
use lib.ListN.{length, drop, get_or, drop_of_length-le}
use lib.Dec.{eqb, ltb}
use borrow.Author.Tests.{ltb-false, eq-eqb, ne_eqb}
use Rattle.std.proofs.Common.{Some, None, Option}
use Rattle.std.specs.List.{position}
use Rattle.std.specs.Option.{unwrap_or}
use Rattle.std.proofs.lemmas.List.Recursion.{is_position_or_len}
use Rattle.slices.specs.Split.{index_of}
use Rattle.slices.proofs.SplitLaws.{index_inside, index_more, index_none, at_index}

-- what `position` finds, or the length, is the index of the first
pub position_index : (b : ℕ) (s : List ℕ) (r : Option ℕ) → r ≡ position (λ x. eqb x b) s → unwrap_or r (length s) ≡ index_of b s
unfolding index_of
position_index b s r e =
    rw (e, ← is_position_or_len (index_of b) (λ x. eqb x b) refl (λ x xs. ap (cond (eqb x b) 0) (omega arith)) s)
    (go (ltb (index_of b s) (length s)) refl)
  where
    go : (t : Bool) → ltb (index_of b s) (length s) ≡ t → unwrap_or (cond t (Some (index_of b s)) None) (length s) ≡ index_of b s
    go true h = refl
    go false h = omega (arith, index_inside b s, ltb-false _ _ h)

-- the first byte from i on stands there, or further on, or nowhere
module _ (b : ℕ) (s : List ℕ) (i : ℕ) where
  pub search_here : i < length s → get_or s i 0 ≡ b → index_of b (drop i s) ≡ 0
  search_here h e = ap (index_of b) (at_index s i h) ∙ rw (index_more, eq-eqb _ _ e)

  pub search_on : i < length s → (get_or s i 0 ≡ b → ⊥) → index_of b (drop i s) ≡ suc (index_of b (drop (i + 1) s))
  search_on h e = ap (index_of b) (at_index s i h) ∙ rw (index_more, ne_eqb _ _ e)

  pub search_end : length s ≤ i → index_of b (drop i s) ≡ 0
  search_end h = ap (index_of b) (drop_of_length-le s h) ∙ index_none b

-- how the loop of `find` goes
pub ruleset searching = (search_on, search_here, search_end)
