-- Demand 3's statements about rows, one by one.
use mathlib.Core.Path.{◌≡◌, refl, sym, ap, ◌∙◌, subst}
use mathlib.Core.Bool.{Bool, true, false, ◌&&◌, ◌||◌}
use mathlib.Core.List.{List}
use mathlib.Core.Logic.{◌≢◌, inl, inr}
use mathlib.Core.Option.{Option, some, bind}
use Prim.Native.Nat.{ℕ, suc, ◌≤◌, ◌<◌, min}
use native.Mathlib.Omega.{arith}
use native.Mathlib.Decide.{dec_le}
use lib.Dec.{ltb}
use lib.ListN.{length}
use borrow.Author.Tests.{le-leb, lt-ltb}
use Rattle.slices.proofs.TestLaws.{clash}
use Rattle.paths.specs.declared.PathToken.{PathToken}
use Rattle.paths.specs.Record.{Rec, star}
use Rattle.paths.specs.Row.{branch_from, next_row, part_of, spine_at, part_at}
use Rattle.paths.specs.declared.Spine.{Spine}
use Rattle.paths.specs.declared.Spine.TheVariants.{Line, Branch, Outside}
use Rattle.paths.specs.Voices.{holds}
use Rattle.paths.specs.Trace.{Origin, from, branch_of, nowhere, origin, origin_in, column_of, part, columns, width, count, is_part, is_line, lines, precedes, rivals, FirstWithout}
use Rattle.paths.specs.Demand.{At}
use Rattle.paths.proofs.Counts.{same, same_yes, bit, total, total_at, two_at, at, of_branch, of_part, high}
use Rattle.paths.proofs.Origins.{pick}
use Rattle.paths.proofs.VoiceLaws.{Sound, Kept, Lacks}
use Rattle.paths.proofs.Branches.{Had, Gets, branch_gets, sum, FirstLacks, first_lacks, rivals_in, rivals_less}
use Rattle.paths.proofs.StepLaws.{next_at, next_part, next_length, next_fair, Gives, gives_at, gives_four, gives_length}
use Rattle.paths.proofs.TextLaws.{Held, row_held, part_suc, bind_ext}
use Rattle.paths.proofs.Columns.{count_ext, part_count, is_rival, rival_count, pick_rival}

-- ---- a row whose voices are given

module _ (row : List Spine) (s : Sound row) where
  pub sound_voiced : (j p : ℕ) → spine_at row j ≢ Branch p
  sound_voiced j p b =
      let x : of_branch p (spine_at row j) ≡ same p p = ap (of_branch p) b in
      omega (arith, total_at (of_branch p) refl row j, s.settled p, same_yes p p refl)

  pub sound_below : (j p v : ℕ) → spine_at row j ≡ Line p v → v < 4
  sound_below j p v a = go (dec_le 4 v)
    where
      go : Dec (4 ≤ v) → v < 4
      go (yes l) = absurd (let x : high (spine_at row j) ≡ 1 = ap high a ∙ ap bit (le-leb 4 v l) in omega (arith, total_at high refl row j, s.low))
      go (no l) = omega arith

  pub sound_differ : (i j p v w : ℕ) → i ≢ j → spine_at row i ≡ Line p v → spine_at row j ≡ Line p w → v ≢ w
  sound_differ i j p v w d a b q =
      let x : at p v (spine_at row i) ≡ min (same p p) (same v v) = ap (at p v) a in
      let y : at p v (spine_at row j) ≡ min (same p p) (same v w) = ap (at p v) b in
      omega (arith, two_at (at p v) refl row i j d, s.once p v, same_yes p p refl, same_yes v v refl, same_yes v w q)

-- what is kept of a spine that is no branch is the spine
same_kept : (s x : Spine) → ((p : ℕ) → s ≢ Branch p) → Kept s x → x ≡ s
same_kept (Line p v) x n k = k
same_kept (Branch p) x n k = absurd (n p refl)
same_kept Outside x n k = k

branch_is : (s : Spine) (p : ℕ) → part_of (branch_from s) ≡ some p → branch_from s ≡ Branch p
unfolding branch_from
branch_is (Line q v) p e = cc
branch_is (Branch q) p e = cc
branch_is Outside p e = clash cc

-- a branch comes from a `*^`, a line from a line
pick_branch : (row : List Spine) → ((k q : ℕ) → spine_at row k ≢ Branch q) → (o : Origin) (q : ℕ) → pick row o ≡ Branch q → (k : ℕ) × (o ≡ branch_of k)
pick_branch row n (from k) q e = absurd (n k q e)
pick_branch row n (branch_of k) q e = (k, refl)
pick_branch row n nowhere q e = clash cc

no_line : (s : Spine) (p v : ℕ) → branch_from s ≢ Line p v
unfolding branch_from
no_line (Line q w) p v e = clash cc
no_line (Branch q) p v e = clash cc
no_line Outside p v e = clash cc

pick_line : (row : List Spine) (o : Origin) (p v : ℕ) → pick row o ≡ Line p v → is_line o ≡ true
pick_line row (from k) p v e = refl
pick_line row (branch_of k) p v e = absurd (no_line (spine_at row k) p v e)
pick_line row nowhere p v e = refl

module _ (h : List Bool) (recs : ℕ → Rec) where
  -- ---- a star record that meets a row, with a token for each of its spines

  module _ (n : ℕ) (row : List Spine) (e : At h recs n row) (ts : List PathToken) (x : recs n ≡ star ts) (l : length ts ≡ length row) where
    is_held : Held h recs n row
    is_held = row_held h recs n row e

    no_branch : (k q : ℕ) → spine_at row k ≢ Branch q
    no_branch = sound_voiced row is_held.sound

    pub origin_is : (j : ℕ) → origin_in (recs n) j ≡ origin ts j
    unfolding origin_in
    origin_is j = ap (λ (r : Rec). origin_in r j) x

    pub columns_are : columns h recs (suc n) ≡ width ts
    unfolding columns
    columns_are = rw x

    part_is : (j : ℕ) → part_at (next_row ts row) j ≡ part h recs (suc n) j
    part_is j =
        next_part ts row l j ∙ ap (λ (o : Origin). bind (column_of o) (part_at row)) (sym (origin_is j))
        ∙ bind_ext (column_of (origin_in (recs n) j)) (part_at row) (part h recs n) is_held.parts ∙ sym (part_suc h recs n j)

    slot_is : (j : ℕ) → spine_at (next_row ts row) j ≡ pick row (origin_in (recs n) j)
    slot_is j = next_at ts row l j ∙ ap (pick row) (sym (origin_is j))

    -- a kern branch of the text is a branch that needs a voice, and the other way round
    branch_slot : (j k p : ℕ) → origin_in (recs n) j ≡ branch_of k → part h recs (suc n) j ≡ some p → spine_at (next_row ts row) j ≡ Branch p
    unfolding part_at
    branch_slot j k p o a =
        let b : spine_at (next_row ts row) j ≡ branch_from (spine_at row k) = slot_is j ∙ ap (pick row) o in
        b ∙ branch_is (spine_at row k) p (sym (ap part_of b) ∙ part_is j ∙ a)

    pub lines_are : (p : ℕ) → total (of_part p) (next_row ts row) ≡ lines h recs (suc n) p
    unfolding lines part_at
    lines_are p =
        part_count p (next_row ts row) ∙ count_ext (λ j. is_part p (part_of (spine_at (next_row ts row) j))) (λ j. is_part p (part h recs (suc n) j))
        (λ j. ap (is_part p) (part_is j)) (length (next_row ts row))
        ∙ ap (count (λ j. is_part p (part h recs (suc n) j))) (next_length ts row l ∙ sym columns_are)

    rivals_are : (p j : ℕ) → rivals_in (next_row ts row) p j ≡ rivals h recs n p j
    unfolding rivals precedes part_at
    rivals_are p j =
        rival_count p (next_row ts row) j ∙ count_ext (λ i. is_rival p j i (spine_at (next_row ts row) i))
        (λ i. is_part p (part h recs (suc n) i) && (is_line (origin_in (recs n) i) || ltb i j)) one (length (next_row ts row))
        ∙ ap (count (λ i. is_part p (part h recs (suc n) i) && (is_line (origin_in (recs n) i) || ltb i j))) (next_length ts row l ∙ sym columns_are)
      where
        one : (i : ℕ) → is_rival p j i (spine_at (next_row ts row) i) ≡ (is_part p (part h recs (suc n) i) && (is_line (origin_in (recs n) i) || ltb i j))
        one i =
            ap (is_rival p j i) (slot_is i) ∙ pick_rival p j i row no_branch (origin_in (recs n) i)
            ∙ ap (λ (y : Option ℕ). is_part p y && (is_line (origin_in (recs n) i) || ltb i j)) (ap part_of (sym (slot_is i)) ∙ part_is i)

    -- the first branch that finds none
    pub lacks_first : (q : ℕ) → Lacks (holds (next_row ts row)) (next_row ts row) q → FirstWithout h recs n q
    unfolding part_at
    lacks_first q k = record {
      column = f.column;
      parent = b.0;
      is_branch = b.1;
      in_part = sym (part_is f.column) ∙ ap part_of f.here;
      taken = omega (arith, f.taken, rivals_are q f.column);
      first = λ j i p lt o a. omega (arith, f.first j p lt (branch_slot j i p o a), rivals_are p j);
    }
      where
        f : FirstLacks (sum (λ p v. 0)) (next_row ts row) q
        f = first_lacks (holds (next_row ts row)) (λ p v. 0) (next_row ts row) q (next_fair ts row is_held.sound) k

        b : (i : ℕ) × (origin_in (recs n) f.column ≡ branch_of i)
        b = pick_branch row no_branch (origin_in (recs n) f.column) q (sym (slot_is f.column) ∙ f.here)

    -- its part would hold over four lines
    pub lacks_over : (q : ℕ) → Lacks (holds (next_row ts row)) (next_row ts row) q → 4 < lines h recs (suc n) q
    lacks_over q k =
        let f : FirstLacks (sum (λ p v. 0)) (next_row ts row) q = first_lacks (holds (next_row ts row)) (λ p v. 0)
        (next_row ts row) q (next_fair ts row is_held.sound) k in
        omega (arith, f.taken, rivals_less (next_row ts row) q f.column f.here, lines_are q)

    module _ (r : List Spine) (g : Gives ts row r) where
      pub given_four : (p : ℕ) → lines h recs (suc n) p ≤ 4
      given_four p = omega (arith, gives_four ts row r is_held.sound g p, lines_are p)

      pub given_size : length r ≡ columns h recs (suc n)
      given_size = gives_length ts row r is_held.sound g l ∙ sym columns_are

      pub given_keeps : (i j : ℕ) → origin_in (recs n) j ≡ from i → spine_at r j ≡ spine_at row i
      given_keeps i j o = same_kept (spine_at row i) (spine_at r j) (no_branch i) (subst (λ (s : Spine). Kept s (spine_at r j)) (slot_is j ∙ ap (pick row) o)
          (gives_at ts row r is_held.sound g j))

      pub given_lowest : (j k p : ℕ) → origin_in (recs n) j ≡ branch_of k → part h recs (suc n) j ≡ some p →
          (v : ℕ) × (spine_at r j ≡ Line p v) × ((u : ℕ) → u < v → (i : ℕ) × (spine_at r i ≡ Line p u) × (precedes recs n j i ≡ true))
      unfolding precedes
      given_lowest j k p o a = (b.0, b.1, λ u lt. go u (b.2 u lt))
        where
          b : Gets (λ p v. 0) (next_row ts row) r j p
          b = branch_gets (holds (next_row ts row)) (λ p v. 0) (next_row ts row) r (next_fair ts row is_held.sound) g j p (branch_slot j k p o a)

          left : (b : Bool) (i : ℕ) → i < j → (b || ltb i j) ≡ true
          left true i lt = refl
          left false i lt = lt-ltb i j lt

          go : (u : ℕ) → Had (λ p v. 0) (next_row ts row) r j p u → (i : ℕ) × (spine_at r i ≡ Line p u) × ((is_line (origin_in (recs n) i) || ltb i j) ≡ true)
          go u (inl d) = absurd (omega arith)
          go u (inr (i, y, inl lt)) = (i, y, left (is_line (origin_in (recs n) i)) i lt)
          go u (inr (i, y, inr m)) = (i, y, ap (λ (c : Bool). c || ltb i j) (pick_line row (origin_in (recs n) i) p u (sym (slot_is i) ∙ m)))
