-- THE VOICES: in every row that the reading reaches, a line has the voice that the text says (`voice` of TracedVoice), from what `Demand` says of rows.
use mathlib.Core.Path.{◌≡◌, refl, sym, ap, ◌∙◌, subst}
use mathlib.Core.Bool.{Bool, true, false, ◌&&◌, ◌||◌, or-true}
use mathlib.Core.List.{List, [], ◌∷◌}
use mathlib.Core.Logic.{◌≢◌, ◌⊎◌, inl, inr}
use mathlib.Core.Option.{Option, none, some, bind}
use Prim.Native.Nat.{ℕ, zero, suc, ◌<◌}
use native.Mathlib.Omega.{arith}
use native.Mathlib.Decide.{ℕ_discrete}
use lib.Dec.{eqb, ltb}
use lib.ListN.{length}
use borrow.Author.Tests.{ltb-true, eqb-true, eq-eqb}
use Rattle.slices.proofs.TestLaws.{clash, and_left, and_right}
use Rattle.paths.specs.Record.{Rec}
use Rattle.paths.specs.Row.{part_of, spine_at}
use Rattle.paths.specs.declared.Spine.{Spine}
use Rattle.paths.specs.declared.Spine.TheVariants.{Line, Branch, Outside}
use Rattle.paths.specs.Trace.{Origin, from, branch_of, nowhere, origin_in, column_of, part, columns, is_part, is_line, precedes}
use Rattle.paths.specs.Text.{header_row, take_record, read_to}
use Rattle.paths.specs.TracedVoice.{some_below, lowest_free, is_branch, continues, kept, given, voice_from, voice}
use Rattle.paths.specs.Demand.{At}
use Rattle.paths.proofs.TextLaws.{header_voice, part_suc}
use Rattle.paths.proofs.MixLaws.{before}
use Rattle.paths.proofs.Demand.{demand}

-- ---- tests

pub or_cases : (a b : Bool) → (a || b) ≡ true → (a ≡ true) ⊎ (b ≡ true)
or_cases true b e = inl refl
or_cases false b e = inr e

pub or_left : (a b : Bool) → a ≡ true → (a || b) ≡ true
or_left a b e = rw e

pub or_right : (a b : Bool) → b ≡ true → (a || b) ≡ true
or_right a b e = rw e (or-true a)

pub below_found : (test : ℕ → Bool) (n : ℕ) → some_below test n ≡ true → (i : ℕ) × (i < n) × (test i ≡ true)
unfolding some_below
below_found test zero e = clash cc
below_found test (suc n) e = go (or_cases (test n) (some_below test n) e) (below_found test n)
  where
    go : (test n ≡ true) ⊎ (some_below test n ≡ true) → (some_below test n ≡ true → (i : ℕ) × (i < n) × (test i ≡ true)) → (i : ℕ) × (i < suc n) × (test i ≡ true)
    go (inl a) rec = (n, omega arith, a)
    go (inr b) rec = let x : (i : ℕ) × (i < n) × (test i ≡ true) = rec b in (x.0, omega (arith, x.1), x.2)

pub below_holds : (test : ℕ → Bool) (n i : ℕ) → i < n → test i ≡ true → some_below test n ≡ true
unfolding some_below
below_holds test zero i l e = absurd (omega arith)
below_holds test (suc n) i l e = go (ℕ_discrete i n) (λ k. below_holds test n i k e)
  where
    go : Dec (i ≡ n) → (i < n → some_below test n ≡ true) → (test n || some_below test n) ≡ true
    go (yes x) rec = or_left (test n) (some_below test n) (ap test (sym x) ∙ e)
    go (no x) rec = or_right (test n) (some_below test n) (rec (omega arith))

lowest_is : (taken : ℕ → Bool) (v : ℕ) → v < 4 → ((u : ℕ) → u < v → taken u ≡ true) → taken v ≡ false → lowest_free taken ≡ v
unfolding lowest_free
lowest_is taken zero l t f = rw f
lowest_is taken (suc zero) l t f = rw (t 0 (omega arith), f)
lowest_is taken (suc (suc zero)) l t f = rw (t 0 (omega arith), t 1 (omega arith), f)
lowest_is taken (suc (suc (suc zero))) l t f = rw (t 0 (omega arith), t 1 (omega arith), t 2 (omega arith), f)
lowest_is taken (suc (suc (suc (suc v)))) l t f = absurd (omega arith)

-- ---- spines

pub is_part_lem : (p : ℕ) (o : Option ℕ) → is_part p o ≡ true → o ≡ some p
is_part_lem p none e = clash cc
is_part_lem p (some q) e = ap (λ (x : ℕ). some x) (sym (eqb-true p q e))

pub part_is : (p : ℕ) (o : Option ℕ) → o ≡ some p → is_part p o ≡ true
part_is p o e = ap (is_part p) e ∙ eq-eqb p p refl

is_line_lem : (s : Spine) (p : ℕ) → part_of s ≡ some p → ((q : ℕ) → s ≢ Branch q) → (v : ℕ) × (s ≡ Line p v)
is_line_lem (Line q v) p e b = let z : q ≡ p = cc in (v, ap (λ (x : ℕ). Line x v) z)
is_line_lem (Branch q) p e b = absurd (b q refl)
is_line_lem Outside p e b = clash cc

same_voice : (p q v w : ℕ) → Line p v ≡ Line q w → v ≡ w
same_voice p q v w e = cc

in_row : (row : List Spine) (i p v : ℕ) → spine_at row i ≡ Line p v → i < length row
in_row [] i p v e = clash cc
in_row (s ∷ row) zero p v e = omega arith
in_row (s ∷ row) (suc i) p v e = omega (arith, in_row row i p v e)

-- ---- one record

-- the row before has the voices that the text says
abbrev Voices : List Bool → (ℕ → Rec) → ℕ → List Spine → Type 0
Voices h recs n row = (j p v : ℕ) → spine_at row j ≡ Line p v → voice h recs n j ≡ v

module _ (h : List Bool) (recs : ℕ → Rec) (n : ℕ) (row next : List Spine) (e : At h recs n row) (f : At h recs (suc n) next) (ih : Voices h recs n row) where
  abbrev comes : ℕ → Origin
  comes = origin_in (recs n)

  abbrev kept_here : ℕ → ℕ → Bool
  kept_here = kept (voice h recs n) comes (part h recs (suc n)) (columns h recs (suc n))

  abbrev continues_here : ℕ → Origin → Bool
  continues_here = continues (voice h recs n) comes (part h recs (suc n)) (columns h recs (suc n))

  -- column i is of part p and continues a line with the voice v
  abbrev goes_on_lem : ℕ → ℕ → ℕ → Bool
  goes_on_lem p v i = is_part p (part h recs (suc n) i) && continues_here v (comes i)

  abbrev given_here : ℕ → ℕ → ℕ → Bool
  given_here = given (voice h recs n) comes (part h recs (suc n)) (columns h recs (suc n))

  -- column j is a branch of part p and gets the voice v
  abbrev free_at : ℕ → ℕ → ℕ
  free_at j p = lowest_free (λ u. kept_here p u || given_here j p u)

  abbrev gets_one : ℕ → ℕ → ℕ → Bool
  gets_one j p v = is_branch (comes j) && is_part p (part h recs (suc n) j) && eqb v (free_at j p)

  line_part : (i p v : ℕ) → spine_at next i ≡ Line p v → part h recs (suc n) i ≡ some p
  line_part i p v x = sym ((demand h recs).in_part (suc n) next f i) ∙ ap part_of x

  line_at : (i p : ℕ) → part h recs (suc n) i ≡ some p → (v : ℕ) × (spine_at next i ≡ Line p v)
  line_at i p x = is_line_lem (spine_at next i) p ((demand h recs).in_part (suc n) next f i ∙ x) ((demand h recs).voiced (suc n) next f i)

  no_part : (i p : ℕ) → comes i ≡ nowhere → part h recs (suc n) i ≢ some p
  unfolding bind
  no_part i p x y = let z : none ≡ some p = ap (λ (o : Origin). bind (column_of o) (part h recs n)) (sym x) ∙ sym (part_suc h recs n i) ∙ y in clash cc

  -- "A line, or the leftmost of a join, keeps its voice"
  line_voice : (i j p v : ℕ) → comes j ≡ from i → spine_at next j ≡ Line p v → voice h recs n i ≡ v
  line_voice i j p v x y = ih i p v (sym ((demand h recs).keeps n row next e f i j x) ∙ y)

  kept_found : (p v : ℕ) → kept_here p v ≡ true → (i k : ℕ) × (comes i ≡ from k) × (spine_at next i ≡ Line p v)
  unfolding kept
  kept_found p v t = go (below_found (goes_on_lem p v) (columns h recs (suc n)) t)
    where
      by_origin : (i : ℕ) → part h recs (suc n) i ≡ some p → (o : Origin) → comes i ≡ o
          → continues_here v o ≡ true
          → (i k : ℕ) × (comes i ≡ from k) × (spine_at next i ≡ Line p v)
      by_origin i a (from k) x c =
          let s : (w : ℕ) × (spine_at next i ≡ Line p w) = line_at i p a in
          let z : s.0 ≡ v = sym (line_voice k i p s.0 x s.1) ∙ sym (eqb-true v (voice h recs n k) c) in
          (i, k, x, s.1 ∙ ap (Line p) z)
      by_origin i a (branch_of k) x c = clash cc
      by_origin i a nowhere x c = clash cc

      go : (i : ℕ) × (i < columns h recs (suc n)) × (goes_on_lem p v i ≡ true)
          → (i k : ℕ) × (comes i ≡ from k) × (spine_at next i ≡ Line p v)
      go (i, l, c) = by_origin i (is_part_lem p (part h recs (suc n) i) (and_left (is_part p (part h recs (suc n) i)) (continues_here v (comes i)) c)) (comes i) refl
          (and_right (is_part p (part h recs (suc n) i)) (continues_here v (comes i)) c)

  kept_holds : (p v i k : ℕ) → comes i ≡ from k → spine_at next i ≡ Line p v → kept_here p v ≡ true
  unfolding kept
  kept_holds p v i k x y =
      below_holds (goes_on_lem p v) (columns h recs (suc n)) i
      (subst (λ (w : ℕ). i < w) ((demand h recs).size (suc n) next f) (in_row next i p v y))
      (rw (part_is p (part h recs (suc n) i) (line_part i p v y), x) (eq-eqb v (voice h recs n k) (sym (line_voice k i p v x y))))

  -- the branches left of column j
  abbrev Found : ℕ → Type 0
  Found j = (p v : ℕ) → given_here j p v ≡ true → (i k : ℕ) × (i < j) × (comes i ≡ branch_of k) × (spine_at next i ≡ Line p v)

  abbrev Holds : ℕ → Type 0
  Holds j = (p v i k : ℕ) → i < j → comes i ≡ branch_of k → spine_at next i ≡ Line p v → given_here j p v ≡ true

  -- "branches, left to right, take the lowest free after the record"
  branch_voice : (j : ℕ) → Found j → Holds j → (k p v : ℕ) → comes j ≡ branch_of k → spine_at next j ≡ Line p v → free_at j p ≡ v
  unfolding precedes
  branch_voice j found holds k p v x y =
      lowest_is (λ u. kept_here p u || given_here j p u) v ((demand h recs).below_4 (suc n) next f j p v y) lower (free (kept_here p v || given_here j p v) refl)
    where
      taken : (u i : ℕ) → spine_at next i ≡ Line p u → (o : Origin) → comes i ≡ o → (is_line o || ltb i j) ≡ true → (kept_here p u || given_here j p u) ≡ true
      taken u i z (from m) o c = or_left (kept_here p u) (given_here j p u) (kept_holds p u i m o z)
      taken u i z (branch_of m) o c = or_right (kept_here p u) (given_here j p u) (holds p u i m (ltb-true i j c) o z)
      taken u i z nowhere o c = absurd (no_part i p o (line_part i p u z))

      lower : (u : ℕ) → u < v → (kept_here p u || given_here j p u) ≡ true
      lower u l = go ((demand h recs).lowest n row next e f j k p x (line_part j p v y))
        where
          go : (w : ℕ) × (spine_at next j ≡ Line p w) × ((u : ℕ) → u < w → (i : ℕ) × (spine_at next i ≡ Line p u) × (precedes recs n j i ≡ true))
              → (kept_here p u || given_here j p u) ≡ true
          go (w, z, low) =
              let s : v ≡ w = same_voice p p v w (sym y ∙ z) in
              let t : (i : ℕ) × (spine_at next i ≡ Line p u) × (precedes recs n j i ≡ true) = low u (omega arith) in
              taken u t.0 t.1 (comes t.0) refl t.2

      other : (i : ℕ) → i ≢ j → spine_at next i ≢ Line p v
      other i d z = (demand h recs).differ (suc n) next f i j p v v d z y refl

      free : (b : Bool) → (kept_here p v || given_here j p v) ≡ b → (kept_here p v || given_here j p v) ≡ false
      free false t = t
      free true t = absurd (go (or_cases (kept_here p v) (given_here j p v) t))
        where
          goes_on : (i k : ℕ) × (comes i ≡ from k) × (spine_at next i ≡ Line p v) → ⊥
          goes_on (i, m, o, z) = other i (λ s. let c : from m ≡ branch_of k = sym o ∙ ap comes s ∙ x in clash cc) z

          further_left : (i k : ℕ) × (i < j) × (comes i ≡ branch_of k) × (spine_at next i ≡ Line p v) → ⊥
          further_left (i, m, l, o, z) = other i (λ s. omega arith) z

          go : (kept_here p v ≡ true) ⊎ (given_here j p v ≡ true) → ⊥
          go (inl a) = goes_on (kept_found p v a)
          go (inr b) = further_left (found p v b)

  found_next : (j : ℕ) → Found j → Holds j → Found (suc j)
  unfolding given
  found_next j found holds p v t = go (or_cases (gets_one j p v) (given_here j p v) t)
    where
      here : part h recs (suc n) j ≡ some p → v ≡ free_at j p → (o : Origin) → comes j ≡ o → is_branch o ≡ true
          → (i k : ℕ) × (i < suc j) × (comes i ≡ branch_of k) × (spine_at next i ≡ Line p v)
      here a z (from k) x c = clash cc
      here a z (branch_of k) x c =
          let s : (w : ℕ) × (spine_at next j ≡ Line p w) = line_at j p a in
          (j, k, omega arith, x, s.1 ∙ ap (Line p) (sym (z ∙ branch_voice j found holds k p s.0 x s.1)))
      here a z nowhere x c = clash cc

      left : (i k : ℕ) × (i < j) × (comes i ≡ branch_of k) × (spine_at next i ≡ Line p v) → (i k : ℕ) × (i < suc j) × (comes i ≡ branch_of k) × (spine_at next i ≡ Line p v)
      left (i, k, l, x, y) = (i, k, omega arith, x, y)

      go : (gets_one j p v ≡ true) ⊎ (given_here j p v ≡ true)
          → (i k : ℕ) × (i < suc j) × (comes i ≡ branch_of k) × (spine_at next i ≡ Line p v)
      go (inl a) =
          let b : (is_branch (comes j) && is_part p (part h recs (suc n) j)) ≡ true = and_left (is_branch (comes j) && is_part p (part h recs (suc n) j)) (eqb v (free_at j p)) a in
          here (is_part_lem p (part h recs (suc n) j) (and_right (is_branch (comes j)) (is_part p (part h recs (suc n) j)) b))
          (eqb-true v (free_at j p) (and_right (is_branch (comes j) && is_part p (part h recs (suc n) j)) (eqb v (free_at j p)) a)) (comes j) refl
          (and_left (is_branch (comes j)) (is_part p (part h recs (suc n) j)) b)
      go (inr b) = left (found p v b)

  holds_next : (j : ℕ) → Found j → Holds j → Holds (suc j)
  unfolding given
  holds_next j found holds p v i k l x y = go (ℕ_discrete i j)
    where
      go : Dec (i ≡ j) → (gets_one j p v || given_here j p v) ≡ true
      go (yes z) =
          let x' : comes j ≡ branch_of k = ap comes (sym z) ∙ x in
          let y' : spine_at next j ≡ Line p v = ap (spine_at next) (sym z) ∙ y in
          or_left (gets_one j p v) (given_here j p v) (rw (x', part_is p (part h recs (suc n) j) (line_part j p v y')) (eq-eqb v (free_at j p) (sym (branch_voice j found holds k p v x' y'))))
      go (no z) = or_right (gets_one j p v) (given_here j p v) (holds p v i k (omega arith) x y)

  branches : (j : ℕ) → Found j × Holds j
  unfolding given
  branches zero = (λ p v t. clash cc, λ p v i k l. absurd (omega arith))
  branches (suc j) = let b : Found j × Holds j = branches j in (found_next j b.0 b.1, holds_next j b.0 b.1)

  next_voices : Voices h recs (suc n) next
  unfolding voice
  next_voices j p v y = go (comes j) refl
    where
      go : (o : Origin) → comes j ≡ o → voice_from (voice h recs n) comes (part h recs (suc n)) (columns h recs (suc n)) j o ≡ v
      go (from i) x = line_voice i j p v x y
      go (branch_of k) x = rw (line_part j p v y) (branch_voice j (branches j).0 (branches j).1 k p v x y)
      go nowhere x = absurd (no_part j p x (line_part j p v y))

-- ---- every text

pub traced_voice : (h : List Bool) (recs : ℕ → Rec) (n : ℕ) (row : List Spine) → At h recs n row → (j p v : ℕ) → spine_at row j ≡ Line p v → voice h recs n j ≡ v
unfolding read_to voice
traced_voice h recs zero row e =
    λ j p v x. let z : header_row h ≡ row = cc in sym (header_voice h 0 j p v (ap (λ (r : List Spine). spine_at r j) z ∙ x))
traced_voice h recs (suc n) next f =
    let b : (row : List Spine) × At h recs n row = before (read_to h recs n) (λ row. take_record row (recs n)) next f in
    next_voices h recs n b.0 next b.1 f (traced_voice h recs n b.0 b.1)
