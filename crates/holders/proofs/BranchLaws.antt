-- A branch of the list has the voice that the text says of its column in the next row, 4 where that column finds none.
use mathlib.Core.Path.{◌≡◌, refl, sym, ap, ap₂, ◌∙◌}
use mathlib.Core.Bool.{Bool, true, false, cond, ◌&&◌, ◌||◌}
use mathlib.Core.List.{List, [], ◌∷◌, ◌++◌, map, append_assoc, append-nil}
use mathlib.Core.Logic.{◌⊎◌, inl, inr}
use mathlib.Core.Option.{Option, none, some, bind}
use Prim.Native.Nat.{ℕ, zero, suc, ◌+◌, ◌≤◌, ◌<◌}
use native.Mathlib.Omega.{arith}
use native.Mathlib.Decide.{ℕ_discrete}
use lib.Dec.{eqb, ltb}
use lib.ListN.{length}
use borrow.Author.Tests.{eqb-true, eq-eqb, lt-ltb, ltb-true}
use Rattle.slices.proofs.TestLaws.{clash, and_left, and_right}
use Rattle.paths.specs.Demand.{At}
use Rattle.paths.specs.Record.{Rec}
use Rattle.paths.specs.Row.{part_of, part_at, spine_at}
use Rattle.paths.specs.declared.Spine.{Spine}
use Rattle.paths.specs.Trace.{Origin, from, branch_of, nowhere, origin_in, column_of, part, columns, count, is_part}
use Rattle.paths.specs.TracedVoice.{lowest_free, is_branch, continues, kept, given, branch_voice, voice_from, voice}
use Rattle.paths.proofs.TextLaws.{Held, row_held, part_suc}
use Rattle.paths.proofs.TracedVoices.{or_cases, or_left, or_right, below_found, below_holds}
use Rattle.holders.specs.Voice.{has, free_voice}
use Rattle.holders.specs.Holders.{those_from, those, is_from, is_branch_of, parent_of, with_branches, carries_on, line_columns, branch_columns, holder, holders}
use Rattle.holders.specs.declared.list.Holder.{Holder}

-- the columns up to the first that finds no voice, and that one
unfoldable pub voiced_to : (ℕ → ℕ) → List ℕ → List ℕ
voiced_to voice [] = []
voiced_to voice (j ∷ js) = j ∷ cond (eqb (voice j) 4) [] (voiced_to voice js)

-- ---- tests
same_tests : (a b : Bool) → (a ≡ true → b ≡ true) → (b ≡ true → a ≡ true) → a ≡ b
same_tests true b f g = sym (f refl)
same_tests false true f g = g refl
same_tests false false f g = refl

lowest_ext : (f g : ℕ → Bool) → ((u : ℕ) → f u ≡ g u) → lowest_free f ≡ lowest_free g
unfolding lowest_free
lowest_ext f g e = rw (e 0, e 1, e 2, e 3)

count_found : (test : ℕ → Bool) (n : ℕ) → 0 < count test n → (i : ℕ) × (i < n) × (test i ≡ true)
unfolding count
count_found test zero l = absurd (omega arith)
count_found test (suc n) l = go (test n) refl l (count_found test n)
  where
    go : (b : Bool) → test n ≡ b → 0 < cond b (suc (count test n)) (count test n) → (0 < count test n → (i : ℕ) × (i < n) × (test i ≡ true)) → (i : ℕ) × (i < suc n) × (test i ≡ true)
    go true e l rec = (n, omega arith, e)
    go false e l rec = let x : (i : ℕ) × (i < n) × (test i ≡ true) = rec l in (x.0, omega (arith, x.1), x.2)

count_holds : (test : ℕ → Bool) (n i : ℕ) → i < n → test i ≡ true → 0 < count test n
unfolding count
count_holds test zero i l e = absurd (omega arith)
count_holds test (suc n) i l e = go (ℕ_discrete i n) (λ k. count_holds test n i k e)
  where
    more : (b : Bool) → 0 < count test n → 0 < cond b (suc (count test n)) (count test n)
    more true k = omega arith
    more false k = k

    go : Dec (i ≡ n) → (i < n → 0 < count test n) → 0 < cond (test n) (suc (count test n)) (count test n)
    go (yes z) rec = rw (ap test (sym z) ∙ e) (omega arith)
    go (no z) rec = more (test n) (rec (omega arith))

has_more : (u : ℕ) (hs : List Holder) (x : Holder) → has u (hs ++ (x ∷ [])) ≡ (has u hs || eqb u x.voice)
unfolding has
has_more u [] x = go (eqb u x.voice)
  where
    go : (b : Bool) → (b || false) ≡ b
    go true = refl
    go false = refl
has_more u (y ∷ hs) x = go (eqb u y.voice) (has_more u hs x)
  where
    go : (a : Bool) → has u (hs ++ (x ∷ [])) ≡ (has u hs || eqb u x.voice) → (a || has u (hs ++ (x ∷ []))) ≡ ((a || has u hs) || eqb u x.voice)
    go true e = refl
    go false e = e

same_branch : (o : Origin) → is_branch o ≡ is_branch_of o
same_branch (from i) = refl
same_branch (branch_of i) = refl
same_branch nowhere = refl

shuffle : (a b c t : Bool) → t ≡ true → ((a || b) || c) ≡ (a || ((t && c) || b))
shuffle true b c t e = refl
shuffle false true true true e = refl
shuffle false true false true e = refl
shuffle false false true true e = refl
shuffle false false false true e = refl
shuffle false b c false e = clash cc

unchanged : (t c b : Bool) → t ≡ false → b ≡ ((t && c) || b)
unchanged true c b e = clash cc
unchanged false c b e = refl

-- ---- record n, part q
module _ (h : List Bool) (recs : ℕ → Rec) (n q : ℕ) where
  abbrev comes : ℕ → Origin
  comes = origin_in (recs n)

  -- a column of the next row is a branch of the part
  abbrev branch_here : ℕ → Bool
  branch_here j = is_branch_of (comes j) && is_part q (part h recs (suc n) j)

  abbrev kept_here : ℕ → Bool
  kept_here = kept (voice h recs n) comes (part h recs (suc n)) (columns h recs (suc n)) q

  abbrev given_here : ℕ → ℕ → Bool
  given_here j = given (voice h recs n) comes (part h recs (suc n)) (columns h recs (suc n)) j q

  abbrev free_at : ℕ → ℕ
  free_at j = lowest_free (λ u. kept_here u || given_here j u)

  abbrev line_entry : ℕ → Holder
  line_entry i = holder h recs n q i (voice h recs n i)

  -- a branch's entry: its column is its `*^`'s, its voice that of its own column in the next row
  abbrev pub branch_entry : ℕ → Holder
  branch_entry j = holder h recs n q (parent_of (comes j)) (voice h recs (suc n) j)

  -- the branches of the part in the next row, by their columns there
  abbrev pub branches_there : List ℕ
  branches_there = those (λ j. is_branch_of (comes j) && is_part q (part h recs (suc n) j)) (columns h recs (suc n))

  voice_at : (j : ℕ) → branch_here j ≡ true → voice h recs (suc n) j ≡ free_at j
  unfolding voice
  voice_at j e = go (comes j) (part h recs (suc n) j) refl e
    where
      go : (o : Origin) (p : Option ℕ) → part h recs (suc n) j ≡ p → (is_branch_of o && is_part q p) ≡ true
          → voice_from (voice h recs n) comes (part h recs (suc n)) (columns h recs (suc n)) j o ≡ free_at j
      go (from i) p b e = clash cc
      go (branch_of i) none b e = clash cc
      go (branch_of i) (some p) b e =
          let z : q ≡ p = eqb-true q p e in
          ap (λ (x : Option ℕ). branch_voice (voice h recs n) comes (part h recs (suc n)) (columns h recs (suc n)) j x) (b ∙ ap (λ (x : ℕ). some x) (sym z))
      go nowhere p b e = clash cc

  -- the entries so far have the voices that are taken left of column k
  abbrev Matches : List Holder → ℕ → Type 0
  Matches hs k = (u : ℕ) → has u hs ≡ (kept_here u || given_here k u)

  next_free : (hs : List Holder) (k : ℕ) → Matches hs k → free_voice hs ≡ free_at k
  unfolding free_voice
  next_free hs k m = lowest_ext (λ u. has u hs) (λ u. kept_here u || given_here k u) m

  match_more : (hs : List Holder) (k : ℕ) (x : Holder) → Matches hs k → branch_here k ≡ true → x.voice ≡ free_at k → Matches (hs ++ (x ∷ [])) (suc k)
  unfolding given
  match_more hs k x m t v u =
      has_more u hs x
      ∙ (ap₂ (λ (a b : Bool). a || b) (m u) (ap (eqb u) v)
      ∙ shuffle (kept_here u) (given_here k u) (eqb u (free_at k)) (is_branch (comes k) && is_part q (part h recs (suc n) k))
      (ap (λ (b : Bool). b && is_part q (part h recs (suc n) k)) (same_branch (comes k)) ∙ t))

  match_same : (hs : List Holder) (k : ℕ) → Matches hs k → branch_here k ≡ false → Matches hs (suc k)
  unfolding given
  match_same hs k m t u =
      m u
      ∙ ap (λ (b : Bool). kept_here u || b)
      (unchanged (is_branch (comes k) && is_part q (part h recs (suc n) k)) (eqb u (free_at k)) (given_here k u)
      (ap (λ (b : Bool). b && is_part q (part h recs (suc n) k)) (same_branch (comes k)) ∙ t))

  abbrev Says : List Holder → List ℕ → Type 0
  Says hs js = with_branches (holder h recs n q) hs (map (λ j. parent_of (comes j)) js) ≡ hs ++ map branch_entry (voiced_to (voice h recs (suc n)) js)

  with_voices : (hs : List Holder) (k m : ℕ) → Matches hs k → Says hs (those_from branch_here k m)
  unfolding with_branches those_from voiced_to
  with_voices hs k zero w = sym (append-nil hs)
  with_voices hs k (suc m) w = go (branch_here k) refl (λ hs. with_voices hs (suc k) m)
    where
      rest : List ℕ
      rest = those_from branch_here (suc k) m

      x : Holder
      x = branch_entry k

      stop : (b : Bool) → Says (hs ++ (x ∷ [])) rest
          → cond b (hs ++ (x ∷ [])) (with_branches (holder h recs n q) (hs ++ (x ∷ [])) (map (λ j. parent_of (comes j)) rest))
          ≡ hs ++ (x ∷ map branch_entry (cond b [] (voiced_to (voice h recs (suc n)) rest)))
      stop true e = refl
      stop false e = e ∙ append_assoc hs (x ∷ []) (map branch_entry (voiced_to (voice h recs (suc n)) rest))

      go : (b : Bool) → branch_here k ≡ b → ((hs : List Holder) → Matches hs (suc k) → Says hs rest) → Says hs (cond b (k ∷ rest) rest)
      go false e later = later hs (match_same hs k w e)
      go true e later =
          let f : free_voice hs ≡ voice h recs (suc n) k = next_free hs k w ∙ sym (voice_at k e) in
          rw f (stop (eqb (voice h recs (suc n) k) 4) (later (hs ++ (x ∷ [])) (match_more hs k x w e (voice_at k e))))

  -- ---- the lines have the voices that are kept
  abbrev Among : ℕ → (ℕ → Bool) → ℕ → Type 0
  Among u test m = (i : ℕ) × (i < m) × (test i ≡ true) × (eqb u (voice h recs n i) ≡ true)

  has_found : (u : ℕ) (test : ℕ → Bool) (k m : ℕ) → has u (map line_entry (those_from test k m)) ≡ true → Among u test (k + m)
  unfolding has those_from
  has_found u test k zero e = clash cc
  has_found u test k (suc m) e = go (test k) refl e (has_found u test (suc k) m)
    where
      rest : List ℕ
      rest = those_from test (suc k) m

      further : Among u test (suc k + m) → Among u test (k + suc m)
      further (i, l, t, v) = (i, omega arith, t, v)

      either : test k ≡ true → (eqb u (voice h recs n k) ≡ true) ⊎ (has u (map line_entry rest) ≡ true) → (has u (map line_entry rest) ≡ true → Among u test (suc k + m)) → Among u test (k + suc m)
      either t (inl a) rec = (k, omega arith, t, a)
      either t (inr b) rec = further (rec b)

      go : (b : Bool) → test k ≡ b → has u (map line_entry (cond b (k ∷ rest) rest)) ≡ true → (has u (map line_entry rest) ≡ true → Among u test (suc k + m)) → Among u test (k + suc m)
      go true t e rec = either t (or_cases (eqb u (voice h recs n k)) (has u (map line_entry rest)) e) rec
      go false t e rec = further (rec e)

  has_holds : (u : ℕ) (test : ℕ → Bool) (k m i : ℕ) → k ≤ i → i < k + m → test i ≡ true → eqb u (voice h recs n i) ≡ true → has u (map line_entry (those_from test k m)) ≡ true
  unfolding has those_from
  has_holds u test k zero i g l t v = absurd (omega arith)
  has_holds u test k (suc m) i g l t v = go (ℕ_discrete i k) (λ o. has_holds u test (suc k) m i o (omega arith) t v)
    where
      rest : List ℕ
      rest = those_from test (suc k) m

      more : (b : Bool) → has u (map line_entry rest) ≡ true → has u (map line_entry (cond b (k ∷ rest) rest)) ≡ true
      more true e = or_right (eqb u (voice h recs n k)) (has u (map line_entry rest)) e
      more false e = e

      go : Dec (i ≡ k) → (suc k ≤ i → has u (map line_entry rest) ≡ true) → has u (map line_entry (cond (test k) (k ∷ rest) rest)) ≡ true
      go (yes z) rec = rw (ap test (sym z) ∙ t) (or_left (eqb u (voice h recs n k)) (has u (map line_entry rest)) (ap (λ (j : ℕ). eqb u (voice h recs n j)) (sym z) ∙ v))
      go (no z) rec = more (test k) (rec (omega arith))

  -- a column that continues a line of the part
  abbrev goes_on : ℕ → ℕ → Bool
  goes_on u j = is_part q (part h recs (suc n) j) && continues (voice h recs n) comes (part h recs (suc n)) (columns h recs (suc n)) u (comes j)

  abbrev on_line : ℕ → Bool
  on_line i = is_part q (part h recs n i) && carries_on h recs n q i

  part_from_line : (j i : ℕ) → comes j ≡ from i → part h recs (suc n) j ≡ part h recs n i
  unfolding bind
  part_from_line j i e = part_suc h recs n j ∙ ap (λ (o : Origin). bind (column_of o) (part h recs n)) e

  to_kept : (u : ℕ) → Among u on_line (columns h recs n) → kept_here u ≡ true
  unfolding kept carries_on
  to_kept u (i, l, t, v) =
      found (count_found (λ j. is_from i (comes j)) (columns h recs (suc n)) (ltb-true 0 _ (and_right (is_part q (part h recs n i)) (ltb 0 (count (λ j. is_from i (comes j)) (columns h recs (suc n)))) t)))
    where
      is_it : (o : Origin) → is_from i o ≡ true → o ≡ from i
      is_it (from k) e = ap (λ (x : ℕ). from x) (sym (eqb-true i k e))
      is_it (branch_of k) e = clash cc
      is_it nowhere e = clash cc

      found : (j : ℕ) × (j < columns h recs (suc n)) × (is_from i (comes j) ≡ true) → kept_here u ≡ true
      found (j, m, e) =
          let o : comes j ≡ from i = is_it (comes j) e in
          below_holds (goes_on u) (columns h recs (suc n)) j m (rw (part_from_line j i o, o, and_left (is_part q (part h recs n i)) (ltb 0 (count (λ j. is_from i (comes j)) (columns h recs (suc n)))) t) v)

  module _ (row : List Spine) (there : At h recs n row) where
    inside : (i : ℕ) → is_part q (part h recs n i) ≡ true → i < columns h recs n
    unfolding part_at
    inside i e = rw held.size at (within row i (ap (is_part q) (held.parts i) ∙ e))
      where
        held : Held h recs n row
        held = row_held h recs n row there

        within : (r : List Spine) (k : ℕ) → is_part q (part_of (spine_at r k)) ≡ true → k < length r
        within [] k e = clash cc
        within (s ∷ r) zero e = omega arith
        within (s ∷ r) (suc k) e = omega (arith, within r k e)

    of_kept : (u : ℕ) → kept_here u ≡ true → Among u on_line (columns h recs n)
    unfolding kept carries_on
    of_kept u e = found (below_found (goes_on u) (columns h recs (suc n)) e)
      where
        by_origin : (j : ℕ) → j < columns h recs (suc n) → is_part q (part h recs (suc n) j) ≡ true → (o : Origin) → comes j ≡ o
            → continues (voice h recs n) comes (part h recs (suc n)) (columns h recs (suc n)) u o ≡ true → Among u on_line (columns h recs n)
        by_origin j l p (from i) x c =
            let s : is_part q (part h recs n i) ≡ true = ap (is_part q) (sym (part_from_line j i x)) ∙ p in
            let y : is_from i (comes j) ≡ true = ap (is_from i) x ∙ eq-eqb i i refl in
            (i, inside i s, rw s (lt-ltb 0 _ (count_holds (λ j. is_from i (comes j)) (columns h recs (suc n)) j l y)), c)
        by_origin j l p (branch_of i) x c = clash cc
        by_origin j l p nowhere x c = clash cc

        found : (j : ℕ) × (j < columns h recs (suc n)) × (goes_on u j ≡ true) → Among u on_line (columns h recs n)
        found (j, l, t) =
            let c : Bool = continues (voice h recs n) comes (part h recs (suc n)) (columns h recs (suc n)) u (comes j) in
            by_origin j l (and_left (is_part q (part h recs (suc n) j)) c t) (comes j) refl (and_right (is_part q (part h recs (suc n) j)) c t)

    first_matches : Matches (map line_entry (line_columns h recs n q)) 0
    unfolding given line_columns
    first_matches u =
        same_tests (has u (map line_entry (those_from on_line 0 (columns h recs n)))) (kept_here u || false)
        (λ e. or_left (kept_here u) false (to_kept u (forth (has_found u on_line 0 (columns h recs n) e))))
        (λ e. back (or_cases (kept_here u) false e))
      where
        forth : Among u on_line (0 + columns h recs n) → Among u on_line (columns h recs n)
        forth (i, l, t, v) = (i, omega arith, t, v)

        held_by : Among u on_line (columns h recs n) → has u (map line_entry (those_from on_line 0 (columns h recs n))) ≡ true
        held_by (i, l, t, v) = has_holds u on_line 0 (columns h recs n) i (omega arith) (omega arith) t v

        back : (kept_here u ≡ true) ⊎ (false ≡ true) → has u (map line_entry (those_from on_line 0 (columns h recs n))) ≡ true
        back (inl a) = held_by (of_kept u a)
        back (inr b) = clash cc

    -- the list is the lines, and behind them the branches up to the first that finds no voice, each with the voice that the text says of its column
    pub branch_voices : holders h recs n q
        ≡ map (λ i. holder h recs n q i (voice h recs n i)) (line_columns h recs n q) ++ map branch_entry (voiced_to (voice h recs (suc n)) branches_there)
    unfolding holders branch_columns
    branch_voices = with_voices (map line_entry (line_columns h recs n q)) 0 (columns h recs (suc n)) first_matches
