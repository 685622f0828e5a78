-- The tokens of a repaired record, by its kind.
use Rattle.std.proofs.Common.{Ok}
use mathlib.Core.Path.{◌≡◌, refl, sym, ap, subst, ◌∙◌}
use Prim.Native.Nat.{ℕ, ◌-◌, ◌≤◌}
use native.Mathlib.Omega.{arith}
use mathlib.Core.Bool.{Bool, true, false, cond, ◌&&◌, false≢true}
use mathlib.Core.List.{List, [], ◌∷◌, ◌++◌, append-nil}
use lib.Dec.{eqb, leb, ltb}
use lib.ListN.{length, take, drop, replicate}
use lib.Seq.{take_all}
use borrow.Author.Tests.{eqb-true, ne_eqb}
use Rattle.slices.specs.Ascii.{ascii}
use Rattle.slices.specs.Compare.{begins_with, same_bytes}
use Rattle.slices.proofs.TestLaws.{clash}
use Rattle.lines.specs.Lines.{kind_of}
use Rattle.lines.specs.Tokens.{tokens_of, is_star, is_empty}
use Rattle.lines.specs.declared.Kind.{Kind}
use Rattle.lines.specs.declared.Kind.TheVariants.{Empty, Reference, Comment, Star, Bar, Data}
use Rattle.repair.specs.Repair.{each, first_of, is_ordinary, is_bar, identical_bars, repair_of, repair_by, repaired, repaired_of}
use Rattle.repair.specs.declared.Repair.{Repair}
use Rattle.repair.specs.declared.Repair.TheVariants.{Whole, Cut, Stars, Bars}
use Rattle.repair.proofs.EachLaws.{bar_first, not_ordinary, not_bars}
use Rattle.repair.proofs.WidthLaws.{Applies, applies, even_width}

-- ---- what a line of some kind begins with
abbrev Begins : Kind → Bool → Bool → Type 0
Begins Empty s b = Unit {0}
Begins Reference s b = Unit {0}
Begins Comment s b = Unit {0}
Begins Star s b = s ≡ true
Begins Bar s b = (s ≡ false) × (b ≡ true)
Begins Data s b = (s ≡ false) × (b ≡ false)

begins : (line : List ℕ) → Begins (kind_of line) (is_star line) (is_bar line)
unfolding kind_of is_star is_bar
begins line =
    go (same_bytes (ascii "") line) (begins_with (ascii "!!!") line) (begins_with (ascii "!") line) (begins_with (ascii "*") line) (begins_with (ascii "=") line)
  where
    go : (a b c s e : Bool) → Begins (cond a Empty (cond b Reference (cond c Comment (cond s Star (cond e Bar Data))))) s e
    go true b c s e = tt
    go false true c s e = tt
    go false false true s e = tt
    go false false false true e = refl
    go false false false false true = (refl, refl)
    go false false false false false = (refl, refl)

-- a line begun by `*` isn't begun by `=`
star_not_bar : (line : List ℕ) → is_star line ≡ true → is_bar line ≡ false
unfolding is_star is_bar begins_with
star_not_bar [] e = refl
star_not_bar (x ∷ s) e = go (eqb x 42) refl e
  where
    go : (y : Bool) → eqb x 42 ≡ y → (y && true) ≡ true → (eqb x 61 && true) ≡ false
    go true q h = rw (ne_eqb x 61 (λ z. omega (arith, eqb-true x 42 q)))
    go false q h = clash cc

-- filled with stars only where each token is an ordinary interpretation
stars_ordinary : (n : ℕ) (ts : List (List ℕ)) → repair_of n ts ≡ Stars → each is_ordinary ts ≡ true
unfolding repair_of
stars_ordinary n ts =
    go (ltb n (length ts) && each is_empty (drop n ts)) (ltb (length ts) n) (each is_ordinary ts) (ltb (length ts) n && (leb 2 (length ts) && identical_bars ts))
  where
    go : (a z o w : Bool) → cond a Cut (cond (z && o) Stars (cond w Bars Whole)) ≡ Stars → o ≡ true
    go true z o w e = clash cc
    go false true true w e = refl
    go false true false true e = clash cc
    go false true false false e = clash cc
    go false false o true e = clash cc
    go false false o false e = clash cc

-- ---- the tokens after the repair
-- n of them, filled up with a token
abbrev pub filled_with : List ℕ → ℕ → List (List ℕ) → List (List ℕ)
filled_with t n ts = take n ts ++ replicate (n - length ts) t

none_more : (t : List ℕ) (n : ℕ) (ts : List (List ℕ)) → n ≤ length ts → filled_with t n ts ≡ take n ts
none_more t n ts h =
    let z : n - length ts ≡ 0 = omega arith in
    ap (λ (k : ℕ). take n ts ++ replicate k t) z ∙ append-nil (take n ts)

some_more : (t : List ℕ) (n : ℕ) (ts : List (List ℕ)) → length ts ≤ n → ts ++ replicate (n - length ts) t ≡ filled_with t n ts
some_more t n ts h = ap (λ (l : List (List ℕ)). l ++ replicate (n - length ts) t) (sym (take_all n ts h))

-- by the repair that applies
module _ (n : ℕ) (ts : List (List ℕ)) where
  unstarred : (r : Repair) → repair_of n ts ≡ r → Applies n ts r → each is_ordinary ts ≡ false → length (repair_by r n ts) ≡ n
      → repair_by r n ts ≡ filled_with (first_of ts) n ts
  unfolding repair_by
  unstarred Whole e a o w = sym (take_all n ts (omega arith)) ∙ sym (none_more (first_of ts) n ts (omega arith))
  unstarred Cut e a o w = sym (none_more (first_of ts) n ts (omega arith))
  unstarred Stars e a o w = absurd (false≢true (sym o ∙ stars_ordinary n ts e))
  unstarred Bars e a o w = some_more (first_of ts) n ts (omega (arith, a.0))

  unbarred : (r : Repair) → Applies n ts r → identical_bars ts ≡ false → length (repair_by r n ts) ≡ n → repair_by r n ts ≡ filled_with (ascii "*") n ts
  unfolding repair_by
  unbarred Whole a o w = sym (take_all n ts (omega arith)) ∙ sym (none_more (ascii "*") n ts (omega arith))
  unbarred Cut a o w = sym (none_more (ascii "*") n ts (omega arith))
  unbarred Stars a o w = some_more (ascii "*") n ts (omega arith)
  unbarred Bars a o w = absurd (false≢true (sym o ∙ a.1))

  unfilled : (r : Repair) → repair_of n ts ≡ r → Applies n ts r → each is_ordinary ts ≡ false → identical_bars ts ≡ false → length (repair_by r n ts) ≡ n
      → (repair_by r n ts ≡ take n ts) × (n ≤ length ts)
  unfolding repair_by
  unfilled Whole e a o b w = (sym (take_all n ts (omega arith)), omega arith)
  unfilled Cut e a o b w = (refl, omega arith)
  unfilled Stars e a o b w = absurd (false≢true (sym o ∙ stars_ordinary n ts e))
  unfilled Bars e a o b w = absurd (false≢true (sym b ∙ a.1))

module _ (n : ℕ) (line : List ℕ) (r : Repair) (even : repaired_of n (tokens_of line) ≡ Ok r) where
  pub star_tokens : kind_of line ≡ Star → repaired n (tokens_of line) ≡ filled_with (ascii "*") n (tokens_of line)
  star_tokens k =
      let s : is_star line ≡ true = subst (λ (x : Kind). Begins x (is_star line) (is_bar line)) k (begins line) in
      unbarred n (tokens_of line) (repair_of n (tokens_of line)) (applies n (tokens_of line))
      (not_bars (tokens_of line) (sym (bar_first line) ∙ star_not_bar line s)) (even_width n (tokens_of line) even)

  pub bar_tokens : kind_of line ≡ Bar → repaired n (tokens_of line) ≡ filled_with (first_of (tokens_of line)) n (tokens_of line)
  bar_tokens k =
      let s : (is_star line ≡ false) × (is_bar line ≡ true) = subst (λ (x : Kind). Begins x (is_star line) (is_bar line)) k (begins line) in
      unstarred n (tokens_of line) (repair_of n (tokens_of line)) refl (applies n (tokens_of line)) (not_ordinary line s.0) (even_width n (tokens_of line) even)

  pub data_tokens : kind_of line ≡ Data → (repaired n (tokens_of line) ≡ take n (tokens_of line)) × (n ≤ length (tokens_of line))
  data_tokens k =
      let s : (is_star line ≡ false) × (is_bar line ≡ false) = subst (λ (x : Kind). Begins x (is_star line) (is_bar line)) k (begins line) in
      unfilled n (tokens_of line) (repair_of n (tokens_of line)) refl (applies n (tokens_of line)) (not_ordinary line s.0)
      (not_bars (tokens_of line) (sym (bar_first line) ∙ s.1)) (even_width n (tokens_of line) even)
