-- Cells, one by one and as rows.
use mathlib.Core.Path.{◌≡◌, refl, sym, ap, ◌∙◌}
use Prim.Native.Nat.{ℕ, zero, suc, ◌+◌, ◌-◌, ◌*◌, ◌/◌, ◌%◌, ◌≤◌, ◌<◌}
use native.Mathlib.Omega.{arith}
use mathlib.Core.List.{List, [], ◌∷◌, ◌++◌, map, head_d}
use mathlib.Core.Bool.{Bool, true, false, cond}
use lib.Dec.{eqb, ltb}
use lib.ListN.{length, get_or, take, drop, length-map}
use lib.Seq.{take-suc, drop-cons, get_or-drop}
use native.Mathlib.Numerals.{add-one}
use borrow.Author.Tests.{eq-eqb, ne_eqb, lt-ltb, le-ltb, eqb-false, ltb-true}
use Rattle.slices.proofs.TestLaws.{clash}
use Rattle.paths.specs.Row.{branch_from, spine_at}
use Rattle.paths.specs.declared.Spine.{Spine}
use Rattle.paths.specs.declared.Spine.TheVariants.{Line, Branch, Outside}
use Rattle.spines.specs.Cells.{spine_of, row_of, is_branch}

-- ---- one cell

pub cell_outside : (c : ℕ) → c / 8 ≡ 0 → spine_of c ≡ Outside
unfolding spine_of
cell_outside c z = rw (eq-eqb (c / 8) 0 z)

pub cell_line : (c p : ℕ) → c / 8 ≡ p + 1 → c % 8 < 4 → spine_of c ≡ Line p (c % 8)
unfolding spine_of
cell_line c p q v =
    let n : c / 8 - 1 ≡ p = omega arith in
    rw (ne_eqb (c / 8) 0 (λ e. omega arith), lt-ltb (c % 8) 4 v, n)

pub cell_branch : (c p : ℕ) → c / 8 ≡ p + 1 → 4 ≤ c % 8 → spine_of c ≡ Branch p
unfolding spine_of
cell_branch c p q v =
    let n : c / 8 - 1 ≡ p = omega arith in
    rw (ne_eqb (c / 8) 0 (λ e. omega arith), le-ltb (c % 8) 4 v, n)

-- what the cell of a line, and of a branch, is
pub record OfLine (c p v : ℕ) : Type 0 where
  pub part : c / 8 ≡ p + 1
  pub voice : c % 8 ≡ v
  pub low : v < 4

pub of_line : (c : ℕ) {p v : ℕ} → spine_of c ≡ Line p v → OfLine c p v
unfolding spine_of
of_line c {p} {v} h = go (eqb (c / 8) 0) (ltb (c % 8) 4) refl refl h
  where
    go : (a b : Bool) → eqb (c / 8) 0 ≡ a → ltb (c % 8) 4 ≡ b → cond a Outside (cond b (Line (c / 8 - 1) (c % 8)) (Branch (c / 8 - 1))) ≡ Line p v → OfLine c p v
    go true b x y g = clash cc
    go false true x y g =
        let n : (c / 8 ≡ 0 → ⊥) = eqb-false (c / 8) 0 x in
        let l : c % 8 < 4 = ltb-true (c % 8) 4 y in
        let e : c / 8 - 1 ≡ p = cc in
        let f : c % 8 ≡ v = cc in
        record { part = omega arith; voice = f; low = omega arith }
    go false false x y g = clash cc

pub of_branch : (c : ℕ) {p : ℕ} → spine_of c ≡ Branch p → c / 8 ≡ p + 1
unfolding spine_of
of_branch c {p} h = go (eqb (c / 8) 0) (ltb (c % 8) 4) refl h
  where
    go : (a b : Bool) → eqb (c / 8) 0 ≡ a → cond a Outside (cond b (Line (c / 8 - 1) (c % 8)) (Branch (c / 8 - 1))) ≡ Branch p → c / 8 ≡ p + 1
    go true b x g = clash cc
    go false true x g = clash cc
    go false false x g =
        let n : (c / 8 ≡ 0 → ⊥) = eqb-false (c / 8) 0 x in
        let e : c / 8 - 1 ≡ p = cc in
        omega arith

-- the branch of a spine
pub cell_fork : (c : ℕ) → spine_of (c / 8 * 8 + 4) ≡ branch_from (spine_of c)
unfolding branch_from spine_of
cell_fork c =
    let q : (c / 8 * 8 + 4) / 8 ≡ c / 8 = omega arith in
    let v : (c / 8 * 8 + 4) % 8 ≡ 4 = omega arith in
    rw (q, v) (go (eqb (c / 8) 0) (ltb (c % 8) 4))
  where
    go : (a b : Bool) → cond a Outside (Branch (c / 8 - 1)) ≡ branch_from (cond a Outside (cond b (Line (c / 8 - 1) (c % 8)) (Branch (c / 8 - 1))))
    go true b = refl
    go false true = refl
    go false false = refl

-- ---- rows

pub row_append : (s t : List ℕ) → row_of (s ++ t) ≡ row_of s ++ row_of t
unfolding row_of
row_append [] t = refl
row_append (x ∷ s) t = ap (λ (r : List Spine). spine_of x ∷ r) (row_append s t)

pub row_none : row_of [] ≡ []
unfolding row_of
row_none = refl

pub row_take : (s : List ℕ) (i : ℕ) → i < length s → row_of (take (i + 1) s) ≡ row_of (take i s) ++ (spine_of (get_or s i 0) ∷ [])
unfolding row_of
row_take s i h = ap row_of (ap (λ (k : ℕ). take k s) (add-one i) ∙ take-suc s i 0 h) ∙ row_append (take i s) (get_or s i 0 ∷ [])

pub row_drop : (s : List ℕ) (i : ℕ) → i < length s → row_of (drop i s) ≡ spine_of (get_or s i 0) ∷ row_of (drop (i + 1) s)
unfolding row_of
row_drop s i h = ap row_of (drop-cons s i 0 h) ∙ ap (λ (k : ℕ). spine_of (get_or s i 0) ∷ row_of (drop k s)) (sym (add-one i))

pub row_head : (s : List ℕ) (i c : ℕ) → head_d (row_of (drop i s)) (spine_of c) ≡ spine_of (get_or s i c)
unfolding row_of head_d
row_head s i c = go (drop i s) ∙ ap spine_of (get_or-drop i s 0 c ∙ ap (λ (k : ℕ). get_or s k c) (omega arith))
  where
    go : (l : List ℕ) → head_d (map spine_of l) (spine_of c) ≡ spine_of (get_or l 0 c)
    go [] = refl
    go (x ∷ l) = refl

-- within a list the default does not matter
pub get_d_any : (l : List ℕ) (i d e : ℕ) → i < length l → get_or l i d ≡ get_or l i e
get_d_any [] i d e h = absurd (omega arith)
get_d_any (x ∷ l) zero d e h = refl
get_d_any (x ∷ l) (suc i) d e h = get_d_any l i d e (omega arith)

-- ---- a branch's cell

pub branch_part : (c : ℕ) → is_branch (spine_of c) ≡ true → 0 < c / 8
unfolding spine_of
branch_part c h = go (eqb (c / 8) 0) refl h
  where
    go : (b : Bool) → eqb (c / 8) 0 ≡ b → is_branch (cond b Outside (cond (ltb (c % 8) 4) (Line (c / 8 - 1) (c % 8)) (Branch (c / 8 - 1)))) ≡ true → 0 < c / 8
    go true e g = clash cc
    go false e g = let n : (c / 8 ≡ 0 → ⊥) = eqb-false (c / 8) 0 e in omega arith

pub branch_spine : (c : ℕ) → is_branch (spine_of c) ≡ true → spine_of c ≡ Branch (c / 8 - 1)
unfolding spine_of
branch_spine c h = go (eqb (c / 8) 0) (ltb (c % 8) 4) h
  where
    go : (a b : Bool) → is_branch (cond a Outside (cond b (Line (c / 8 - 1) (c % 8)) (Branch (c / 8 - 1)))) ≡ true →
        cond a Outside (cond b (Line (c / 8 - 1) (c % 8)) (Branch (c / 8 - 1))) ≡ Branch (c / 8 - 1)
    go true b g = cc
    go false true g = cc
    go false false g = refl

-- as many spines as cells
pub row_length : (cells : List ℕ) → length (row_of cells) ≡ length cells
unfolding row_of
row_length cells = length-map cells spine_of

-- a column of the row
pub cell_at : (s : List ℕ) (i : ℕ) → i < length s → spine_at (row_of s) i ≡ spine_of (get_or s i 0)
unfolding row_of
cell_at [] i h = absurd (omega arith)
cell_at (c ∷ s) zero h = refl
cell_at (c ∷ s) (suc i) h = cell_at s i (omega arith)
