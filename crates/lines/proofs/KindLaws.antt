-- A line by its first byte.
use mathlib.Core.Path.{◌≡◌, refl, sym, ◌∙◌}
use Prim.Native.Nat.{ℕ, ◌≤◌, ◌<◌}
use native.Mathlib.Nat.{not-suc-le-zero, le_of_suc-le-suc}
use native.Mathlib.Omega.{arith}
use mathlib.Core.List.{List, [], ◌∷◌}
use mathlib.Core.Bool.{Bool, true, false, ◌&&◌, cond, and-true}
use lib.Dec.{eqb}
use lib.ListN.{length, get_or}
use borrow.Author.Tests.{ne_eqb}
use Rattle.slices.specs.Compare.{begins_with, same_bytes}
use Rattle.slices.proofs.CompareLaws.{begins_short}
use Rattle.lines.specs.Lines.{kind_of}
use Rattle.lines.specs.declared.Kind.{Kind}
use Rattle.lines.specs.declared.Kind.TheVariants.{Empty, Reference, Comment, Star, Bar, Data}

pub kind_empty : (s : List ℕ) → length s < 1 → Empty ≡ kind_of s
unfolding kind_of same_bytes begins_with
kind_empty [] e = refl
kind_empty (x ∷ s) e = absurd (omega arith)

-- the kind of a line that begins with the byte x, by whether it begins `!!!`
abbrev kind_by : ℕ → Bool → Kind
kind_by x bangs = cond (eqb x 33) (cond bangs Reference Comment) (cond (eqb x 42) Star (cond (eqb x 61) Bar Data))

by_first : (s : List ℕ) → (length s ≡ 0 → ⊥) → kind_of s ≡ kind_by (get_or s 0 0) (begins_with (33 ∷ 33 ∷ 33 ∷ []) s)
unfolding kind_of same_bytes begins_with
by_first [] some = absurd (some refl)
by_first (x ∷ s) some = rw (and-true (eqb x 42), and-true (eqb x 61)) (go (eqb x 33) (begins_with (33 ∷ 33 ∷ []) s) (cond (eqb x 42) Star (cond (eqb x 61) Bar Data)))
  where
    go : (t b : Bool) (k : Kind) → cond (t && b) Reference (cond (t && true) Comment k) ≡ cond t (cond (t && b) Reference Comment) k
    go true b k = refl
    go false b k = refl

three : (s : List ℕ) → 3 ≤ length s → begins_with (33 ∷ 33 ∷ 33 ∷ []) s ≡ (eqb (get_or s 0 0) 33 && (eqb (get_or s 1 0) 33 && (eqb (get_or s 2 0) 33 && true)))
unfolding begins_with
three [] h = absurd (not-suc-le-zero h)
three (x ∷ []) h = absurd (not-suc-le-zero (le_of_suc-le-suc h))
three (x ∷ y ∷ []) h = absurd (not-suc-le-zero (le_of_suc-le-suc (le_of_suc-le-suc h)))
three (x ∷ y ∷ z ∷ s) h = refl

module _ (s : List ℕ) (some : length s ≡ 0 → ⊥) where
  pub kind_star : get_or s 0 0 ≡ 42 → Star ≡ kind_of s
  kind_star e = sym (by_first s some ∙ rw e)

  pub kind_bar : get_or s 0 0 ≡ 61 → Bar ≡ kind_of s
  kind_bar e = sym (by_first s some ∙ rw e)

  pub kind_data : (get_or s 0 0 ≡ 42 → ⊥) → (get_or s 0 0 ≡ 61 → ⊥) → (get_or s 0 0 ≡ 33 → ⊥) → Data ≡ kind_of s
  kind_data star bar bang = sym (by_first s some ∙ rw (ne_eqb _ _ star, ne_eqb _ _ bar, ne_eqb _ _ bang))

  module _ (bang : get_or s 0 0 ≡ 33) where
    pub kind_reference : begins_with (33 ∷ 33 ∷ 33 ∷ []) s ≡ true → Reference ≡ kind_of s
    kind_reference e = sym (by_first s some ∙ rw (bang, e))

    pub kind_comment : begins_with (33 ∷ 33 ∷ 33 ∷ []) s ≡ false → Comment ≡ kind_of s
    kind_comment e = sym (by_first s some ∙ rw (bang, e))

    -- by the two bytes behind the first
    pub kind_short : length s < 3 → Comment ≡ kind_of s
    kind_short h = kind_comment (begins_short (33 ∷ 33 ∷ 33 ∷ []) s h)

    module _ (long : 3 ≤ length s) where
      pub kind_second : (get_or s 1 0 ≡ 33 → ⊥) → Comment ≡ kind_of s
      kind_second h = kind_comment (three s long ∙ rw (bang, ne_eqb (get_or s 1 0) 33 h))

      pub kind_third : get_or s 1 0 ≡ 33 → (get_or s 2 0 ≡ 33 → ⊥) → Comment ≡ kind_of s
      kind_third e h = kind_comment (three s long ∙ rw (bang, e, ne_eqb (get_or s 2 0) 33 h))

      pub kind_bangs : get_or s 1 0 ≡ 33 → get_or s 2 0 ≡ 33 → Reference ≡ kind_of s
      kind_bangs e h = kind_reference (three s long ∙ rw (bang, e, h))

-- each kind of a line, for `line_kind`
pub ruleset kinds = (kind_empty, kind_bangs, kind_bar, kind_star, kind_short, kind_third, kind_second, kind_data)
