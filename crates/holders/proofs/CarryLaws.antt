-- The spines that a record carries on, in their old order, and those that it forks: together they are the next row, order aside.
use mathlib.Core.Path.{◌≡◌, refl, sym, ap, ◌∙◌}
use mathlib.Core.Bool.{Bool, true, false, cond, ◌&&◌}
use mathlib.Core.List.{List, [], ◌∷◌, map}
use Prim.Native.Nat.{ℕ, zero, suc, ◌+◌, ◌≤◌, ◌<◌}
use native.Mathlib.Omega.{arith}
use lib.Dec.{eqb, ltb}
use lib.ListN.{length}
use borrow.Author.Tests.{le-ltb, ne_eqb, ltb-true, ltb-false}
use Rattle.paths.specs.declared.PathToken.{PathToken}
use Rattle.paths.specs.declared.PathToken.TheVariants.{Split, Join, Exchange, End, Add, Other}
use Rattle.paths.specs.Row.{branch_from, advance, next_row, spine_at}
use Rattle.paths.specs.declared.Spine.{Spine}
use Rattle.paths.specs.declared.Spine.TheVariants.{Line, Branch, Outside}
use Rattle.paths.specs.Token.{is_join}
use Rattle.paths.specs.Trace.{Origin, from, branch_of, nowhere, origin, width, count}
use Rattle.paths.proofs.Branches.{rivals_zero}
use Rattle.paths.proofs.Columns.{count_ext, is_rival, rival_count}
use Rattle.paths.proofs.Counts.{bit, same_yes, same_no, total, of_line}
use Rattle.paths.proofs.Origins.{pick}
use Rattle.paths.proofs.StepLaws.{next_at, next_length}
use Rattle.holders.specs.Holders.{is_from}
use Rattle.holders.specs.Walk.{carries, is_split, is_of}

-- the spines of the columns that carry a line on: `f` says whether a `*v` stands to the left
unfoldable pub carried : Bool → List PathToken → List Spine → List Spine
carried f [] row = []
carried f (t ∷ ts) [] = []
carried f (t ∷ ts) (s ∷ row) = cond (carries t f) (s ∷ carried (is_join t) ts row) (carried (is_join t) ts row)

-- those of the columns with a `*^`
unfoldable pub forked : List PathToken → List Spine → List Spine
forked [] row = []
forked (t ∷ ts) [] = []
forked (t ∷ ts) (s ∷ row) = cond (is_split t) (s ∷ forked ts row) (forked ts row)

module _ (f : Spine → ℕ) where
  module _ (fo : f Outside ≡ 0) where
    pub carry_total : (ts : List PathToken) (row : List Spine) → total f (next_row ts row) ≡ total f (carried false ts row) + total f (map branch_from (forked ts row))
    unfolding total advance carried forked
    carry_total [] row = refl
    carry_total (t ∷ ts) [] = refl
    carry_total (Split ∷ ts) (s ∷ row) = omega (arith, carry_total ts row)
    carry_total (End ∷ ts) (s ∷ row) = carry_total ts row
    carry_total (Add ∷ ts) (s ∷ row) = omega (arith, fo, carry_total ts row)
    carry_total (Other ∷ ts) (s ∷ row) = omega (arith, carry_total ts row)
    carry_total (Join ∷ []) (s ∷ row) = omega arith
    carry_total (Join ∷ t ∷ ts) (s ∷ []) = omega arith
    carry_total (Join ∷ Join ∷ ts) (s ∷ r ∷ row) = carry_total (Join ∷ ts) (s ∷ row)
    carry_total (Join ∷ Split ∷ ts) (s ∷ r ∷ row) = omega (arith, carry_total (Split ∷ ts) (r ∷ row))
    carry_total (Join ∷ Exchange ∷ ts) (s ∷ r ∷ row) = omega (arith, carry_total (Exchange ∷ ts) (r ∷ row))
    carry_total (Join ∷ End ∷ ts) (s ∷ r ∷ row) = omega (arith, carry_total (End ∷ ts) (r ∷ row))
    carry_total (Join ∷ Add ∷ ts) (s ∷ r ∷ row) = omega (arith, carry_total (Add ∷ ts) (r ∷ row))
    carry_total (Join ∷ Other ∷ ts) (s ∷ r ∷ row) = omega (arith, carry_total (Other ∷ ts) (r ∷ row))
    carry_total (Exchange ∷ []) (s ∷ row) = omega arith
    carry_total (Exchange ∷ t ∷ ts) (s ∷ []) = omega arith
    carry_total (Exchange ∷ Exchange ∷ ts) (s ∷ r ∷ row) = omega (arith, carry_total ts row)
    carry_total (Exchange ∷ Join ∷ ts) (s ∷ r ∷ row) = omega (arith, carry_total (Join ∷ ts) (r ∷ row))
    carry_total (Exchange ∷ Split ∷ ts) (s ∷ r ∷ row) = omega (arith, carry_total (Split ∷ ts) (r ∷ row))
    carry_total (Exchange ∷ End ∷ ts) (s ∷ r ∷ row) = omega (arith, carry_total (End ∷ ts) (r ∷ row))
    carry_total (Exchange ∷ Add ∷ ts) (s ∷ r ∷ row) = omega (arith, carry_total (Add ∷ ts) (r ∷ row))
    carry_total (Exchange ∷ Other ∷ ts) (s ∷ r ∷ row) = omega (arith, carry_total (Other ∷ ts) (r ∷ row))

  -- no more than there are
  pub carried_less : (b : Bool) (ts : List PathToken) (row : List Spine) → total f (carried b ts row) ≤ total f row
  unfolding total carried
  carried_less b [] row = omega arith
  carried_less b (t ∷ ts) [] = omega arith
  carried_less b (t ∷ ts) (s ∷ row) = go (carries t b) (carried_less (is_join t) ts row)
    where
      go : (x : Bool) → total f (carried (is_join t) ts row) ≤ total f row → total f (cond x (s ∷ carried (is_join t) ts row) (carried (is_join t) ts row)) ≤ f s + total f row
      go true later = omega arith
      go false later = omega arith

-- ---- a column carries its line on exactly where its token does

-- whether the token of a column does
abbrev pub carries_at : Bool → List PathToken → ℕ → Bool
carries_at f [] e = false
carries_at f (t ∷ ts) zero = carries t f
carries_at f (t ∷ ts) (suc e) = carries_at (is_join t) ts e

-- a row of lines each of a part of its own, from part i on
unfoldable pub labels : ℕ → List PathToken → List Spine
labels i [] = []
labels i (t ∷ ts) = Line i 0 ∷ labels (suc i) ts

labels_length : (i : ℕ) (ts : List PathToken) → length ts ≡ length (labels i ts)
unfolding labels
labels_length i [] = refl
labels_length i (t ∷ ts) = ap suc (labels_length (suc i) ts)

labels_at : (i : ℕ) (ts : List PathToken) (k : ℕ) → k < length ts → spine_at (labels i ts) k ≡ Line (i + k) 0
unfolding labels
labels_at i [] k h = absurd (omega arith)
labels_at i (t ∷ ts) zero h = ap (λ (n : ℕ). Line n 0) (omega arith)
labels_at i (t ∷ ts) (suc k) h = let z : suc i + k ≡ i + suc k = omega arith in labels_at (suc i) ts k (omega arith) ∙ ap (λ (n : ℕ). Line n 0) z

labels_past : (i : ℕ) (ts : List PathToken) (k : ℕ) → length ts ≤ k → spine_at (labels i ts) k ≡ Outside
unfolding labels
labels_past i [] k h = refl
labels_past i (t ∷ ts) zero h = absurd (omega arith)
labels_past i (t ∷ ts) (suc k) h = labels_past (suc i) ts k (omega arith)

carried_low : (c i : ℕ) (f : Bool) (ts : List PathToken) → c < i → total (of_line c) (carried f ts (labels i ts)) ≡ 0
unfolding total carried labels
carried_low c i f [] h = refl
carried_low c i f (t ∷ ts) h = go (carries t f) (carried_low c (suc i) (is_join t) ts (omega arith))
  where
    go : (x : Bool) → total (of_line c) (carried (is_join t) ts (labels (suc i) ts)) ≡ 0
        → total (of_line c) (cond x (Line i 0 ∷ carried (is_join t) ts (labels (suc i) ts)) (carried (is_join t) ts (labels (suc i) ts))) ≡ 0
    go true later = omega (arith, same_no c i (λ e. omega arith))
    go false later = later

carried_label : (i : ℕ) (f : Bool) (ts : List PathToken) (e : ℕ) → e < length ts → total (of_line (i + e)) (carried f ts (labels i ts)) ≡ bit (carries_at f ts e)
unfolding total carried labels
carried_label i f [] e h = absurd (omega arith)
carried_label i f (t ∷ ts) zero h = go (carries t f)
  where
    go : (x : Bool) → total (of_line (i + 0)) (cond x (Line i 0 ∷ carried (is_join t) ts (labels (suc i) ts)) (carried (is_join t) ts (labels (suc i) ts))) ≡ bit x
    go true = omega (arith, same_yes (i + 0) i (omega arith), carried_low (i + 0) (suc i) (is_join t) ts (omega arith))
    go false = carried_low (i + 0) (suc i) (is_join t) ts (omega arith)
carried_label i f (t ∷ ts) (suc e) h =
    let z : i + suc e ≡ suc i + e = omega arith in go (carries t f) (rw z (carried_label (suc i) (is_join t) ts e (omega arith)))
  where
    go : (x : Bool) → total (of_line (i + suc e)) (carried (is_join t) ts (labels (suc i) ts)) ≡ bit (carries_at (is_join t) ts e)
        → total (of_line (i + suc e)) (cond x (Line i 0 ∷ carried (is_join t) ts (labels (suc i) ts)) (carried (is_join t) ts (labels (suc i) ts)))
        ≡ bit (carries_at (is_join t) ts e)
    go true later = omega (arith, same_no (i + suc e) i (λ e. omega arith), later)
    go false later = later

-- branches are no lines
forked_none : (c : ℕ) (row : List Spine) → total (of_line c) (map branch_from row) ≡ 0
unfolding total branch_from
forked_none c [] = refl
forked_none c (Line p v ∷ row) = omega (arith, forked_none c row)
forked_none c (Branch p ∷ row) = omega (arith, forked_none c row)
forked_none c (Outside ∷ row) = omega (arith, forked_none c row)

-- the lines of a part are those that have their voice before a branch in column 0
rival_line : (c i : ℕ) (s : Spine) → is_rival c 0 i s ≡ is_of c s
rival_line c i (Line p v) = refl
rival_line c i (Branch p) = rw (le-ltb i 0 (omega arith)) (and-false (eqb c p))
  where
    and-false : (b : Bool) → (b && false) ≡ false
    and-false true = refl
    and-false false = refl
rival_line c i Outside = refl

line_count : (c : ℕ) (row : List Spine) → total (of_line c) row ≡ count (λ j. is_of c (spine_at row j)) (length row)
line_count c row =
    sym (rivals_zero row c) ∙ rival_count c row 0
    ∙ count_ext (λ j. is_rival c 0 j (spine_at row j)) (λ j. is_of c (spine_at row j)) (λ j. rival_line c j (spine_at row j)) (length row)

module _ (ts : List PathToken) (c : ℕ) (inside : c < length ts) where
  pick_label : (o : Origin) → is_of c (pick (labels 0 ts) o) ≡ is_from c o
  unfolding branch_from
  pick_label (from k) = go (ltb k (length ts)) refl
    where
      go : (b : Bool) → ltb k (length ts) ≡ b → is_of c (spine_at (labels 0 ts) k) ≡ eqb c k
      go true e = let z : 0 + k ≡ k = omega arith in ap (is_of c) (labels_at 0 ts k (ltb-true k (length ts) e)) ∙ ap (eqb c) z
      go false e = let l : length ts ≤ k = ltb-false k (length ts) e in ap (is_of c) (labels_past 0 ts k l) ∙ sym (ne_eqb c k (λ x. omega arith))
  pick_label (branch_of k) = go (spine_at (labels 0 ts) k)
    where
      go : (s : Spine) → is_of c (branch_from s) ≡ false
      go (Line p v) = refl
      go (Branch p) = refl
      go Outside = refl
  pick_label nowhere = refl

  -- as many columns of the next row come from it as the same line
  from_count : count (λ j. is_from c (origin ts j)) (width ts) ≡ bit (carries_at false ts c)
  from_count =
      let row : List Spine = labels 0 ts in
      let l : length ts ≡ length row = labels_length 0 ts in
      let z : 0 + c ≡ c = omega arith in
      sym (ap (count (λ j. is_from c (origin ts j))) (next_length ts row l))
      ∙ count_ext (λ j. is_from c (origin ts j)) (λ j. is_of c (spine_at (next_row ts row) j)) (λ j. sym (ap (is_of c) (next_at ts row l j) ∙ pick_label (origin ts j))) (length (next_row ts row))
      ∙ sym (line_count c (next_row ts row))
      ∙ omega (arith, carry_total (of_line c) refl ts row, forked_none c (forked ts row), rw z at (carried_label 0 false ts c inside))

  pub carries_is : ltb 0 (count (λ j. is_from c (origin ts j)) (width ts)) ≡ carries_at false ts c
  carries_is = ap (ltb 0) from_count ∙ go (carries_at false ts c)
    where
      go : (b : Bool) → ltb 0 (bit b) ≡ b
      go true = refl
      go false = refl
