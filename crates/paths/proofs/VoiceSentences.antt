-- THE SENTENCES: what the text says of voices (`voice` of TracedVoice), read back as document 01 has it, for every header and every sequence of records.
use mathlib.Core.Path.{◌≡◌, refl, sym, ap, ◌∙◌}
use mathlib.Core.Bool.{Bool, true, false, ◌&&◌, ◌||◌, cond}
use mathlib.Core.List.{List}
use mathlib.Core.Logic.{◌⊎◌, inl, inr}
use mathlib.Core.Option.{none, some, bind}
use Prim.Native.Nat.{ℕ, zero, suc, ◌<◌}
use native.Mathlib.Omega.{arith}
use native.Mathlib.Decide.{ℕ_discrete}
use lib.Dec.{eqb, ltb}
use lib.ListN.{length}
use borrow.Author.Tests.{ltb-true, lt-ltb, eqb-true, eq-eqb}
use Rattle.slices.proofs.TestLaws.{clash, and_left, and_right}
use Rattle.paths.specs.Record.{Rec, star, plain}
use Rattle.paths.specs.Trace.{Origin, from, branch_of, nowhere, width, look_back, origin, origin_in, column_of, part, width_in, columns, is_part, is_line, precedes}
use Rattle.paths.specs.TracedVoice.{some_below, lowest_free, is_branch, continues, kept, given, voice_from, voice}
use Rattle.paths.proofs.TextLaws.{part_suc}
use Rattle.paths.proofs.TracedVoices.{or_cases, or_left, or_right, below_found, below_holds, is_part_lem, part_is}

-- "`**kern` columns with voice 0"
pub header_zero : (h : List Bool) (recs : ℕ → Rec) (j : ℕ) → voice h recs 0 j ≡ 0
unfolding voice
header_zero h recs j = refl

-- "A line, or the leftmost of a join, keeps its voice"
pub line_same : (h : List Bool) (recs : ℕ → Rec) (n i j : ℕ) → origin_in (recs n) j ≡ from i → voice h recs (suc n) j ≡ voice h recs n i
unfolding voice
line_same h recs n i j x = ap (voice_from (voice h recs n) (origin_in (recs n)) (part h recs (suc n)) (columns h recs (suc n)) j) x

lowest_same : (f g : ℕ → Bool) → ((u : ℕ) → f u ≡ g u) → lowest_free f ≡ lowest_free g
unfolding lowest_free
lowest_same f g e = rw (e 0, e 1, e 2, e 3)

same_test : (a b : Bool) → (a ≡ true → b ≡ true) → (b ≡ true → a ≡ true) → a ≡ b
same_test true b f g = sym (f refl)
same_test false true f g = g refl
same_test false false f g = refl

-- a branch stands in the row
branch_inside : (r : Rec) (j k w : ℕ) → origin_in r j ≡ branch_of k → j < width_in r w
unfolding origin_in origin
branch_inside (star ts) j k w = go (ltb j (width ts)) refl
  where
    go : (b : Bool) → ltb j (width ts) ≡ b → cond b (look_back ts (length ts) j) nowhere ≡ branch_of k → j < width ts
    go true l e = ltb-true j (width ts) l
    go false l e = clash cc
branch_inside (plain m) j k w = λ e. clash cc

module _ (h : List Bool) (recs : ℕ → Rec) (n : ℕ) where
  abbrev comes : ℕ → Origin
  comes = origin_in (recs n)

  abbrev kept_here : ℕ → ℕ → Bool
  kept_here = kept (voice h recs n) comes (part h recs (suc n)) (columns h recs (suc n))

  abbrev given_here : ℕ → ℕ → ℕ → Bool
  given_here = given (voice h recs n) comes (part h recs (suc n)) (columns h recs (suc n))

  abbrev free_at : ℕ → ℕ → ℕ
  free_at j p = lowest_free (λ u. kept_here p u || given_here j p u)

  branch_free : (j k p : ℕ) → comes j ≡ branch_of k → part h recs (suc n) j ≡ some p → voice h recs (suc n) j ≡ free_at j p
  unfolding voice
  branch_free j k p x a = rw (x, a)

  abbrev continues_here : ℕ → Origin → Bool
  continues_here = continues (voice h recs n) comes (part h recs (suc n)) (columns h recs (suc n))

  -- column i of the new row is of part p, has its voice before column j gets one, and it is u
  abbrev takes : ℕ → ℕ → ℕ → ℕ → Bool
  takes j p u i = is_part p (part h recs (suc n) i) && precedes recs n j i && eqb u (voice h recs (suc n) i)

  takes_parts : (j p u i : ℕ) → is_part p (part h recs (suc n) i) ≡ true → precedes recs n j i ≡ true → u ≡ voice h recs (suc n) i → takes j p u i ≡ true
  takes_parts j p u i a b c = rw (a, b) (eq-eqb u (voice h recs (suc n) i) c)

  -- a branch left of column j
  given_found : (j p u : ℕ) → given_here j p u ≡ true → (i k : ℕ) × (i < j) × (comes i ≡ branch_of k) × (part h recs (suc n) i ≡ some p) × (u ≡ voice h recs (suc n) i)
  unfolding given
  given_found zero p u t = clash cc
  given_found (suc j) p u t = go (or_cases (is_branch (comes j) && is_part p (part h recs (suc n) j) && eqb u (free_at j p)) (given_here j p u) t) (given_found j p u)
    where
      here : part h recs (suc n) j ≡ some p → u ≡ free_at j p → (o : Origin) → comes j ≡ o → is_branch o ≡ true
          → (i k : ℕ) × (i < suc j) × (comes i ≡ branch_of k) × (part h recs (suc n) i ≡ some p) × (u ≡ voice h recs (suc n) i)
      here a z (from k) x c = clash cc
      here a z (branch_of k) x c = (j, k, omega arith, x, a, z ∙ sym (branch_free j k p x a))
      here a z nowhere x c = clash cc

      left : (i k : ℕ) × (i < j) × (comes i ≡ branch_of k) × (part h recs (suc n) i ≡ some p) × (u ≡ voice h recs (suc n) i)
          → (i k : ℕ) × (i < suc j) × (comes i ≡ branch_of k) × (part h recs (suc n) i ≡ some p) × (u ≡ voice h recs (suc n) i)
      left (i, k, l, x, a, z) = (i, k, omega arith, x, a, z)

      go : ((is_branch (comes j) && is_part p (part h recs (suc n) j) && eqb u (free_at j p)) ≡ true) ⊎ (given_here j p u ≡ true)
          → (given_here j p u ≡ true → (i k : ℕ) × (i < j) × (comes i ≡ branch_of k) × (part h recs (suc n) i ≡ some p) × (u ≡ voice h recs (suc n) i))
          → (i k : ℕ) × (i < suc j) × (comes i ≡ branch_of k) × (part h recs (suc n) i ≡ some p) × (u ≡ voice h recs (suc n) i)
      go (inl a) rec =
          let b : (is_branch (comes j) && is_part p (part h recs (suc n) j)) ≡ true = and_left (is_branch (comes j) && is_part p (part h recs (suc n) j)) (eqb u (free_at j p)) a in
          here (is_part_lem p (part h recs (suc n) j) (and_right (is_branch (comes j)) (is_part p (part h recs (suc n) j)) b))
          (eqb-true u (free_at j p) (and_right (is_branch (comes j) && is_part p (part h recs (suc n) j)) (eqb u (free_at j p)) a)) (comes j) refl
          (and_left (is_branch (comes j)) (is_part p (part h recs (suc n) j)) b)
      go (inr b) rec = left (rec b)

  given_holds : (j p u i k : ℕ) → i < j → comes i ≡ branch_of k → part h recs (suc n) i ≡ some p → u ≡ voice h recs (suc n) i → given_here j p u ≡ true
  unfolding given
  given_holds zero p u i k l x a z = absurd (omega arith)
  given_holds (suc j) p u i k l x a z = go (ℕ_discrete i j) (λ y. given_holds j p u i k y x a z)
    where
      go : Dec (i ≡ j) → (i < j → given_here j p u ≡ true) → ((is_branch (comes j) && is_part p (part h recs (suc n) j) && eqb u (free_at j p)) || given_here j p u) ≡ true
      go (yes e) rec =
          let x' : comes j ≡ branch_of k = ap comes (sym e) ∙ x in
          let a' : part h recs (suc n) j ≡ some p = ap (part h recs (suc n)) (sym e) ∙ a in
          let z' : u ≡ free_at j p = z ∙ ap (voice h recs (suc n)) e ∙ branch_free j k p x' a' in
          or_left (is_branch (comes j) && is_part p (part h recs (suc n) j) && eqb u (free_at j p)) (given_here j p u)
          (rw (x', part_is p (part h recs (suc n) j) a') (eq-eqb u (free_at j p) z'))
      go (no e) rec = or_right (is_branch (comes j) && is_part p (part h recs (suc n) j) && eqb u (free_at j p)) (given_here j p u) (rec (omega arith))

  module _ (j p : ℕ) (inside : j < columns h recs (suc n)) where
    to : (u : ℕ) → (kept_here p u || given_here j p u) ≡ true → some_below (takes j p u) (columns h recs (suc n)) ≡ true
    unfolding kept precedes
    to u t = go (or_cases (kept_here p u) (given_here j p u) t)
      where
        goes_on_lem : ℕ → Bool
        goes_on_lem i = is_part p (part h recs (suc n) i) && continues_here u (comes i)

        by_origin : (i : ℕ) → i < columns h recs (suc n) → is_part p (part h recs (suc n) i) ≡ true → (o : Origin) → comes i ≡ o → continues_here u o ≡ true
            → some_below (takes j p u) (columns h recs (suc n)) ≡ true
        by_origin i l a (from m) x c = below_holds (takes j p u) (columns h recs (suc n)) i l
            (takes_parts j p u i a (or_left (is_line (comes i)) (ltb i j) (ap is_line x)) (eqb-true u (voice h recs n m) c ∙ sym (line_same h recs n m i x)))
        by_origin i l a (branch_of m) x c = clash cc
        by_origin i l a nowhere x c = clash cc

        going : (i : ℕ) × (i < columns h recs (suc n)) × (goes_on_lem i ≡ true) → some_below (takes j p u) (columns h recs (suc n)) ≡ true
        going (i, l, c) = by_origin i l (and_left (is_part p (part h recs (suc n) i)) (continues_here u (comes i)) c) (comes i) refl
            (and_right (is_part p (part h recs (suc n) i)) (continues_here u (comes i)) c)

        further : (i k : ℕ) × (i < j) × (comes i ≡ branch_of k) × (part h recs (suc n) i ≡ some p) × (u ≡ voice h recs (suc n) i)
            → some_below (takes j p u) (columns h recs (suc n)) ≡ true
        further (i, k, l, x, a, z) = below_holds (takes j p u) (columns h recs (suc n)) i (omega arith)
            (takes_parts j p u i (part_is p (part h recs (suc n) i) a) (or_right (is_line (comes i)) (ltb i j) (lt-ltb i j l)) z)

        go : (kept_here p u ≡ true) ⊎ (given_here j p u ≡ true) → some_below (takes j p u) (columns h recs (suc n)) ≡ true
        go (inl a) = going (below_found goes_on_lem (columns h recs (suc n)) a)
        go (inr b) = further (given_found j p u b)

    back : (u : ℕ) → some_below (takes j p u) (columns h recs (suc n)) ≡ true → (kept_here p u || given_here j p u) ≡ true
    unfolding kept precedes bind
    back u t = go (below_found (takes j p u) (columns h recs (suc n)) t)
      where
        goes_on_lem : ℕ → Bool
        goes_on_lem i = is_part p (part h recs (suc n) i) && continues_here u (comes i)

        by_origin : (i : ℕ) → i < columns h recs (suc n) → part h recs (suc n) i ≡ some p → u ≡ voice h recs (suc n) i → (o : Origin) → comes i ≡ o
            → (is_line o || ltb i j) ≡ true → (kept_here p u || given_here j p u) ≡ true
        by_origin i l a z (from m) x c = or_left (kept_here p u) (given_here j p u) (below_holds goes_on_lem (columns h recs (suc n)) i l
            (rw (part_is p (part h recs (suc n) i) a, x) (eq-eqb u (voice h recs n m) (z ∙ line_same h recs n m i x))))
        by_origin i l a z (branch_of m) x c = or_right (kept_here p u) (given_here j p u) (given_holds j p u i m (ltb-true i j c) x a z)
        by_origin i l a z nowhere x c =
            let y : none ≡ some p = ap (λ (o : Origin). bind (column_of o) (part h recs n)) (sym x) ∙ sym (part_suc h recs n i) ∙ a in clash cc

        go : (i : ℕ) × (i < columns h recs (suc n)) × (takes j p u i ≡ true) → (kept_here p u || given_here j p u) ≡ true
        go (i, l, c) =
            let b : (is_part p (part h recs (suc n) i) && precedes recs n j i) ≡ true = and_left (is_part p (part h recs (suc n) i) && precedes recs n j i) (eqb u (voice h recs (suc n) i)) c in
            by_origin i l (is_part_lem p (part h recs (suc n) i) (and_left (is_part p (part h recs (suc n) i)) (precedes recs n j i) b))
            (eqb-true u (voice h recs (suc n) i) (and_right (is_part p (part h recs (suc n) i) && precedes recs n j i) (eqb u (voice h recs (suc n) i)) c)) (comes i) refl
            (and_right (is_part p (part h recs (suc n) i)) (precedes recs n j i) b)

  -- "branches, left to right, take the lowest free after the record": the lowest voice that no column of its part in the new row has which is a line, or
  -- a branch further left
  pub branch_lowest : (j k p : ℕ) → comes j ≡ branch_of k → part h recs (suc n) j ≡ some p
      → voice h recs (suc n) j ≡ lowest_free (λ u. some_below (takes j p u) (columns h recs (suc n)))
  unfolding columns
  branch_lowest j k p x a = branch_free j k p x a ∙ lowest_same (λ u. kept_here p u || given_here j p u) (λ u. some_below (takes j p u) (columns h recs (suc n)))
      (λ u. same_test (kept_here p u || given_here j p u) (some_below (takes j p u) (columns h recs (suc n))) (to j p inside u) (back j p inside u))
    where
      inside : j < width_in (recs n) (columns h recs n)
      inside = branch_inside (recs n) j k (columns h recs n) x
