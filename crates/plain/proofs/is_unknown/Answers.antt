-- Each unknown mark, from 33 to 126, is of the word.
use mathlib.Core.Path.{◌≡◌, refl, sym, subst, ◌∙◌}
use Prim.Native.Nat.{ℕ, ◌+◌, ◌-◌, ◌≤◌}
use native.Mathlib.Omega.{arith}
use mathlib.Core.Bool.{Bool, true, false, not, ◌||◌}
use lib.Dec.{T}
use Rattle.slices.specs.Finite.{below}
use Rattle.slices.proofs.TestLaws.{not_both}
use Rattle.notation.specs.Bytes.{contains}
use Rattle.pitch.specs.Pitch.{within}
use Rattle.items.specs.Items.{is_letter}
use Rattle.token.specs.Token.{is_unknown}
use Rattle.plain.specs.Usual.{unknown_bytes}
use Rattle.plain.proofs.is_unknown.Goals as goal
use Rattle.plain.proofs.is_unknown.Goals.{then-matches, else-matches, in-33-to-126, in_default, in_default-2}

spelled : (b : ℕ) → 33 ≤ b → b ≤ 126 → is_unknown b ≡ true → contains b unknown_bytes ≡ true
unfolding is_unknown is_letter within contains
spelled b l h unknown =
    let back : 33 + (b - 33) ≡ b = omega arith in
    one (is_unknown b) (contains b unknown_bytes) unknown
    (subst (λ (x : ℕ). T (not (is_unknown x) || contains x unknown_bytes)) back (below (λ k. not (is_unknown (33 + k)) || contains (33 + k) unknown_bytes) 94 tt (b - 33) (omega arith)))
  where
    one : (x y : Bool) → x ≡ true → T (not x || y) → y ≡ true
    one x true e t = refl
    one true false e t = absurd t
    one false false e t = absurd (not_both e refl)

pub returns-then-before-le-FEW : goal.returns-then-before-le-FEW
returns-then-before-le-FEW c = λ e.
    elim c.if-matches-2.branch [
      | in-33-to-126 w ↦ spelled _ (omega arith) (omega arith) (sym c.is_unknown.ensures ∙ e)
      | in_default w ↦ elim c.if-matches.branch [ then-matches x ↦ cc | else-matches x ↦ cc ]
      | in_default-2 w ↦ elim c.if-matches.branch [ then-matches x ↦ cc | else-matches x ↦ cc ]
    ]
