-- Question 17 over a sequence of records: a record that is taken, or stopped by a later question, mixes no origins, so every trace ends in one part.
use mathlib.Core.Path.{◌≡◌, refl, sym, ap, ◌∙◌, subst}
use mathlib.Core.Bool.{Bool, true, false, cond}
use mathlib.Core.List.{List, [], ◌∷◌}
use mathlib.Core.Logic.{◌≢◌}
use mathlib.Core.Option.{Option, none, some, bind}
use Prim.Native.Nat.{ℕ, zero, suc, ◌+◌, ◌≤◌, ◌<◌}
use native.Mathlib.Omega.{arith}
use lib.ListN.{length}
use borrow.Author.Tests.{eq-eqb}
use Rattle.slices.proofs.TestLaws.{clash}
use Rattle.paths.specs.declared.PathToken.{PathToken}
use Rattle.paths.specs.Record.{Rec, star, plain, tokens}
use Rattle.paths.specs.Row.{part_at}
use Rattle.paths.specs.declared.Spine.{Spine}
use Rattle.paths.specs.Joins.{mixed_run}
use Rattle.paths.specs.Voices.{mixed, step_row}
use Rattle.paths.specs.Trace.{origin_in, column_of, trace, Ending, ending, opens, parts_to, opened_part, part_at_end, end_part, part, InRun, Joined, MayEnd, at_header, at_later, from_none, from_one, from_join, Unmixed, FirstMixed}
use Rattle.paths.specs.Text.{Reading, reached, ended, refused, reading, take_record, and_then, read_to}
use Rattle.paths.specs.Demand.{At}
use Rattle.paths.proofs.JoinLaws.{Begins, MixedIs, run_is}
use Rattle.paths.proofs.StepLaws.{RecordIs}
use Rattle.paths.proofs.TextLaws.{row_held, one_more, record_read, part_zero, part_step, part_on, part_suc}

step_mixed : (row : List Spine) (ts : List PathToken) (c : ℕ) → mixed_run (part_at row) ts ≡ some c → step_row row ts ≡ mixed (c + 1)
unfolding step_row
step_mixed row ts c e = rw e

-- the row before a row that is reached
pub before : (o : Reading) (f : List Spine → Reading) (r : List Spine) → and_then o f ≡ reached r → (row : List Spine) × (o ≡ reached row)
before (reached row) f r e = (row, refl)
before ended f r e = clash cc
before (refused q g) f r e = clash cc

module _ (h : List Bool) (recs : ℕ → Rec) where
  -- there is one first run that mixes origins
  same_first : (n f g : ℕ) → FirstMixed h recs n f → FirstMixed h recs n g → f < g → ⊥
  same_first n f g a b l =
      a.mixes (b.first a.column a.other (omega (arith, a.figure, b.figure)) a.joined)

  pub one_first : (n f g : ℕ) → FirstMixed h recs n f → FirstMixed h recs n g → f ≡ g
  one_first n f g a b = omega (arith, same_first n f g a b, same_first n g f b a)

  module _ (n : ℕ) (row : List Spine) (e : At h recs n row) (ts : List PathToken) (x : recs n ≡ star ts) where
    parts : (j : ℕ) → part_at row j ≡ part h recs n j
    parts = (row_held h recs n row e).parts

    run : (i k : ℕ) → Joined (recs n) i k → InRun ts i k
    run i k = subst (λ (r : Rec). Joined r i k) x

    zeroth : (i : ℕ) → part_at row (0 + i) ≡ part h recs n i
    zeroth i = let z : 0 + i ≡ i = omega arith in ap (part_at row) z ∙ parts i

    pub none_mixed : mixed_run (part_at row) ts ≡ none → Unmixed h recs n
    none_mixed m = λ i k j. sym (zeroth i) ∙ subst (MixedIs (part_at row) ts _ 0) m (run_is (part_at row) ts) i k (run i k j) ∙ zeroth k

    pub first_mixed : (c : ℕ) → mixed_run (part_at row) ts ≡ some c → FirstMixed h recs n (c + 1)
    first_mixed c m =
        let b : Begins (part_at row) ts _ 0 c = subst (MixedIs (part_at row) ts _ 0) m (run_is (part_at row) ts) in
        record {
          column = b.column;
          other = b.other;
          joined = subst (λ (r : Rec). Joined r b.column b.other) (sym x) b.run;
          mixes = λ f. b.mixes (zeroth b.column ∙ f ∙ sym (zeroth b.other));
          begins = λ i l j. b.begins i l (run i b.column j);
          first = λ i k l j. sym (zeroth i) ∙ b.first i k l (run i k j) ∙ zeroth k;
          figure = omega (arith, b.place);
        }

    -- a record of the row's width in which a run mixes origins is refused with 17
    module _ (some_spine : 1 ≤ length row) (even : length ts ≡ length row) where
      reads_step : read_to h recs (suc n) ≡ reading (step_row row ts)
      unfolding take_record
      reads_step = one_more h recs n row e ∙ ap (take_record row) x ∙ go row some_spine even
        where
          go : (row : List Spine) → 1 ≤ length row → length ts ≡ length row → take_record row (star ts) ≡ reading (step_row row ts)
          go [] l k = absurd (omega arith)
          go (s ∷ row) l k = rw (eq-eqb (length ts) (suc (length row)) k)

      pub mixed_refused : (c : ℕ) → mixed_run (part_at row) ts ≡ some c → read_to h recs (suc n) ≡ refused 17 (c + 1)
      mixed_refused c m = reads_step ∙ ap reading (step_mixed row ts c m)

      pub else_unmixed : ((f : ℕ) → read_to h recs (suc n) ≢ refused 17 f) → Unmixed h recs n
      else_unmixed other = go (mixed_run (part_at row) ts) refl
        where
          go : (m : Option ℕ) → mixed_run (part_at row) ts ≡ m → Unmixed h recs n
          go none m = none_mixed m
          go (some c) m = absurd (other (c + 1) (mixed_refused c m))

      pub first_refused : (f : ℕ) → FirstMixed h recs n f → read_to h recs (suc n) ≡ refused 17 f
      first_refused f a = go (mixed_run (part_at row) ts) refl
        where
          go : (m : Option ℕ) → mixed_run (part_at row) ts ≡ m → read_to h recs (suc n) ≡ refused 17 f
          go none m = absurd (a.mixes (none_mixed m a.column a.other a.joined))
          go (some c) m = mixed_refused c m ∙ ap (refused 17) (one_first n (c + 1) f (first_mixed c m) a)

  -- ---- a record that is taken

  pub taken_unmixed : (n : ℕ) (row r : List Spine) → At h recs n row → At h recs (suc n) r → Unmixed h recs n
  taken_unmixed n row r e f = go (recs n) refl k.0 k.1
    where
      k : RecordIs (recs n) row (reached r)
      k = subst (RecordIs (recs n) row) f (record_read h recs n row e)

      go : (x : Rec) → recs n ≡ x → 1 ≤ length row → tokens x ≡ length row → Unmixed h recs n
      go (star ts) x l t = else_unmixed n row e ts x l t (λ g y. let z : reached r ≡ refused 17 g = sym f ∙ y in clash cc)
      go (plain m) x l t = λ i k j. absurd (subst (λ (y : Rec). Joined y i k) x j)

  -- ---- the traces

  came_from : (n j i : ℕ) → column_of (origin_in (recs n) j) ≡ some i → part h recs n i ≡ part h recs (suc n) j
  unfolding bind
  came_from n j i p = sym (part_suc h recs n j ∙ ap (λ (o : Option ℕ). bind o (part h recs n)) p)

  earlier : (n : ℕ) (r : List Spine) → At h recs (suc n) r → (row : List Spine) × At h recs n row
  unfolding read_to
  earlier n r e = before (read_to h recs n) (λ row. take_record row (recs n)) r e

  pub ends_in : {n j : ℕ} {e : Option Ending} → MayEnd recs n j e → (row : List Spine) → At h recs n row → bind e (end_part h recs) ≡ part h recs n j
  unfolding bind part_at_end
  ends_in (at_header {j = j}) row at = sym (part_zero h recs j)
  ends_in (at_later {n = n} {j = j} o) row at =
      sym (part_step h recs n j ∙ ap (λ (b : Bool). cond b (opened_part (parts_to h recs n) (recs n) j) (bind (column_of (origin_in (recs n) j)) (part h recs n))) o)
  ends_in (from_none {n = n} {j = j} o p) row at = sym (part_on h recs n j o ∙ ap (λ (o : Option ℕ). bind o (part h recs n)) p)
  ends_in (from_one {n = n} {j = j} {i = i} p m) row at =
      let b : (row : List Spine) × At h recs n row = earlier n row at in
      ends_in m b.0 b.1 ∙ came_from n j i p
  ends_in (from_join {n = n} {j = j} {i = i} {k = k} p r m) row at =
      let b : (row : List Spine) × At h recs n row = earlier n row at in
      ends_in m b.0 b.1 ∙ sym (taken_unmixed n b.0 row b.1 at i k r) ∙ came_from n j i p

-- the leftmost trace is one of them
pub leftmost_ends : (recs : ℕ → Rec) (n j : ℕ) → MayEnd recs n j (trace recs n j)
unfolding trace bind
leftmost_ends recs zero j = at_header
leftmost_ends recs (suc n) j = go (opens (recs n) j) refl (column_of (origin_in (recs n) j)) refl (leftmost_ends recs n)
  where
    go : (b : Bool) → opens (recs n) j ≡ b → (o : Option ℕ) → column_of (origin_in (recs n) j) ≡ o → ((i : ℕ) → MayEnd recs n i (trace recs n i))
        → MayEnd recs (suc n) j (cond b (some (ending (suc n) j)) (bind o (trace recs n)))
    go true x o p rest = at_later x
    go false x none p rest = from_none x p
    go false x (some i) p rest = from_one p (rest i)
