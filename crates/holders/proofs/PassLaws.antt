-- The passes over a record's tokens and the lines of the row's cells, turn by turn.
use mathlib.Core.Path.{◌≡◌, refl, sym, ap, ap₂, ◌∙◌}
use Prim.Native.Nat.{ℕ, zero, suc, ◌+◌, ◌-◌, ◌≤◌, ◌<◌}
use native.Mathlib.Numerals.{add-one}
use native.Mathlib.Omega.{arith}
use mathlib.Core.Bool.{Bool, true, false, cond, ◌&&◌, ◌||◌}
use mathlib.Core.List.{List, [], ◌∷◌, map}
use lib.Dec.{eqb}
use lib.ListN.{length, get_or, take, drop, set}
use lib.Seq.{length-take-le, take-suc-set}
use borrow.Author.Tests.{lt-ltb, le-ltb, ne_eqb}
use Rattle.slices.specs.Split.{pieces}
use Rattle.slices.proofs.SplitLaws.{all_pieces}
use Rattle.slices.proofs.TestLaws.{clash}
use Rattle.lines.specs.Tokens.{is_kern}
use Rattle.paths.specs.declared.PathToken.{PathToken}
use Rattle.paths.specs.declared.Spine.{Spine}
use Rattle.paths.specs.Token.{is_join}
use Rattle.spines.specs.Cells.{spine_of, row_of}
use Rattle.spines.specs.Table.{line_of}
use Rattle.spines.specs.Tokens.{path_tokens, record_tokens, at_hand, Ahead}
use Rattle.spines.proofs.CellLaws.{row_drop}
use Rattle.holders.specs.Voice.{has, free_voice}
use Rattle.holders.proofs.FiveLaws.{or_four, free_same}
use Rattle.std.proofs.Common.{Option, Some, None, is_some, unwrap_or}
use Rattle.std.specs.List.{list_any, slice_get, filter, enumerate_from}
use Rattle.std.specs.Option.{option_map}
use Rattle.paths.specs.Voices.{lowest}
use Rattle.paths.specs.declared.Spine.TheVariants.{Line, Branch, Outside}
use Rattle.voices.specs.Mask.{voice_of as found_voice}
use Rattle.voices.proofs.MaskLaws.{lowest_low}
use Rattle.holders.specs.Walk.{voice_of, listed, put, is_of, carries, is_split, line_voice, entry, line_step, lines_from, branches_from, or_zero, kern_column}
use Rattle.holders.specs.declared.list.Holder.{Holder}
use Rattle.holders.specs.declared.list.Holders.{Holders}

-- ---- one more
module _ (hs : Holders) where
  pub long : length (listed hs) ≡ hs.count
  long = length-take-le hs.count hs.list (omega (arith, hs.few, hs.room))

  pub put_full : (x : Holder) → 5 ≤ hs.count → listed hs ≡ put (listed hs) x
  unfolding put
  put_full x h = rw (le-ltb (length (listed hs)) 5 (omega (arith, long)))

  pub put_more : (x : Holder) → hs.count < 5 → take (hs.count + 1) (set hs.list hs.count x) ≡ put (listed hs) x
  unfolding put
  put_more x h = rw (lt-ltb (length (listed hs)) 5 (omega (arith, long)), add-one hs.count) (take-suc-set hs.list hs.count x (omega (arith, hs.room)))

-- ---- a spine of the part
pub of_some : (p v : ℕ) (s : Spine) → Some v ≡ line_voice p s → (is_of p s ≡ true) × (voice_of s ≡ v)
of_some p v (Line q w) e = go (eqb p q) e
  where
    go : (b : Bool) → Some v ≡ cond b (Some w) None → (b ≡ true) × (w ≡ v)
    go true e = (refl, cc)
    go false e = clash cc
of_some p v (Branch q) e = clash cc
of_some p v Outside e = clash cc

pub of_none : (p : ℕ) (s : Spine) → ((v : ℕ) → line_voice p s ≡ Some v → ⊥) → is_of p s ≡ false
of_none p (Line q w) n = go (eqb p q) n
  where
    go : (b : Bool) → ((v : ℕ) → cond b (Some w) None ≡ Some v → ⊥) → b ≡ false
    go true n = absurd (n w refl)
    go false n = refl
of_none p (Branch q) n = refl
of_none p Outside n = refl

pub is_of_some : (p : ℕ) (s : Spine) → is_some (line_voice p s) ≡ is_of p s
is_of_some p (Line q w) = go (eqb p q)
  where
    go : (b : Bool) → is_some (cond b (Some w) None) ≡ b
    go true = refl
    go false = refl
is_of_some p (Branch q) = refl
is_of_some p Outside = refl

-- ---- the tokens left, the first of which is at hand
tokens_here : (row : List ℕ) {line : List ℕ} {from i next : ℕ} {t : PathToken} → i < length row → Ahead line from (length row - i) t next
    → path_tokens (length row - i) (pieces 9 from line) ≡ t ∷ path_tokens (length row - (i + 1)) (pieces 9 next line)
unfolding at_hand
tokens_here row {line} {from} {i} {next} {t} h a =
    let z : length row - i ≡ suc (length row - (i + 1)) = omega arith in a.same ∙ ap (λ (n : ℕ). at_hand n t (pieces 9 next line)) z

tokens_first : (line : List ℕ) (row : List ℕ) → path_tokens (length row - 0) (pieces 9 0 line) ≡ record_tokens (length row) line
tokens_first line row = let z : length row - 0 ≡ length row = omega arith in rw (z, all_pieces 9 line)

-- ---- the lines
pub record Lining (p c : ℕ) (line : List ℕ) (row : List ℕ) (held : List Holder) (follows : Bool) (from i : ℕ) : Type 0 where
  pub high : i ≤ length row
  pub same : lines_from p c held i follows (path_tokens (length row - i) (pieces 9 from line)) (map line_of (row_of (drop i row)))
      ≡ lines_from p c [] 0 false (record_tokens (length row) line) (map line_of (row_of row))

pub lining_first : (p c : ℕ) (line : List ℕ) (row : List ℕ) {held : List Holder} → held ≡ [] → Lining p c line row held false 0 0
lining_first p c line row {held} e = record { high = omega arith; same = rw (e, tokens_first line row) }

module _ {p c : ℕ} {line : List ℕ} {row : List ℕ} {held : List Holder} {follows : Bool} {from i : ℕ} (inv : Lining p c line row held follows from i) where
  pub lining_turn : {next : ℕ} {t : PathToken} {s : Spine} {held' : List Holder} {f : Bool} → i < length row → Ahead line from (length row - i) t next
      → s ≡ line_of (spine_of (get_or row i 0)) → held' ≡ line_step p c held (i + 1) follows t s → f ≡ is_join t → Lining p c line row held' f next (i + 1)
  unfolding lines_from
  lining_turn {next} {t} {s} {held'} {f} h a at e j = record {
    high = omega arith;
    same = ap₂ (λ (hs : List Holder) (g : Bool). lines_from p c hs (i + 1) g (path_tokens (length row - (i + 1)) (pieces 9 next line)) (map line_of (row_of (drop (i + 1) row)))) (rw at at e) j
        ∙ ap (λ (k : ℕ). lines_from p c (line_step p c held (i + 1) follows t (line_of (spine_of (get_or row i 0)))) k (is_join t) (path_tokens (length row - (i + 1)) (pieces 9 next line)) (map line_of (row_of (drop (i + 1) row)))) (add-one i)
        ∙ sym (ap₂ (λ (ts : List PathToken) (ss : List Spine). lines_from p c held i follows ts ss) (tokens_here row h a) (ap (map line_of) (row_drop row i h))) ∙ inv.same;
  }

  pub lining_past : length row ≤ i → held ≡ lines_from p c [] 0 false (record_tokens (length row) line) (map line_of (row_of row))
  unfolding lines_from path_tokens
  lining_past h =
      let z : length row - i ≡ 0 = omega arith in
      sym (ap (λ (n : ℕ). lines_from p c held i follows (path_tokens n (pieces 9 from line)) (map line_of (row_of (drop i row)))) z) ∙ inv.same

-- a step by the tests on the spine and its token
module _ (p c i : ℕ) (held : List Holder) (follows : Bool) (t : PathToken) (s : Spine) where
  pub step_carried : {v : ℕ} → Some v ≡ line_voice p s → carries t follows ≡ true → put held (entry p c (i + 1) v) ≡ line_step p c held (i + 1) follows t s
  step_carried {v} e y = let o = of_some p v s e in rw (o.0, y, o.1)

  pub step_ended : carries t follows ≡ false → held ≡ line_step p c held (i + 1) follows t s
  step_ended n = go (is_of p s)
    where
      go : (b : Bool) → held ≡ cond (b && carries t follows) (put held (entry p c (i + 1) (voice_of s))) held
      go true = rw n
      go false = refl

  pub step_other : ((v : ℕ) → line_voice p s ≡ Some v → ⊥) → held ≡ line_step p c held (i + 1) follows t s
  step_other n = rw (of_none p s n)

-- ---- the branches
pub record Branching (p c : ℕ) (line : List ℕ) (row : List ℕ) (hs held : List Holder) (from i : ℕ) : Type 0 where
  pub high : i ≤ length row
  pub same : branches_from p c held i (path_tokens (length row - i) (pieces 9 from line)) (map line_of (row_of (drop i row)))
      ≡ branches_from p c hs 0 (record_tokens (length row) line) (map line_of (row_of row))

pub branching_first : (p c : ℕ) (line : List ℕ) (row : List ℕ) {held : List Holder} → Branching p c line row held held 0 0
branching_first p c line row {held} = record { high = omega arith; same = rw (tokens_first line row) }

module _ {p c : ℕ} {line : List ℕ} {row : List ℕ} {hs held : List Holder} {from i : ℕ} (inv : Branching p c line row hs held from i) where
  module _ {next : ℕ} {t : PathToken} {b : Bool} (h : i < length row) (a : Ahead line from (length row - i) t next)
      {s : Spine} (at : s ≡ line_of (spine_of (get_or row i 0))) (is : b ≡ (is_of p s && is_split t)) where
    -- the rest from the column of number k on
    abbrev rest : ℕ → List Holder
    rest k =
        let more = put held (entry p c (i + 1) (free_voice held)) in
        let ts = path_tokens (length row - (i + 1)) (pieces 9 next line) in
        cond b (cond (eqb (free_voice held) 4) more (branches_from p c more k ts (map line_of (row_of (drop (i + 1) row))))) (branches_from p c held k ts (map line_of (row_of (drop (i + 1) row))))

    here_next : rest (suc i) ≡ branches_from p c hs 0 (record_tokens (length row) line) (map line_of (row_of row))
    unfolding branches_from
    here_next = rw (is, at) (sym (ap₂ (λ (ts : List PathToken) (ss : List Spine). branches_from p c held i ts ss) (tokens_here row h a) (ap (map line_of) (row_drop row i h))) ∙ inv.same)

    here : rest (i + 1) ≡ branches_from p c hs 0 (record_tokens (length row) line) (map line_of (row_of row))
    here = ap rest (add-one i) ∙ here_next

    pub branching_on : b ≡ false → Branching p c line row hs held next (i + 1)
    branching_on f = record { high = omega arith; same = rw f at here }

    -- the voice that is found, 4 for none
    module _ (found : Option ℕ) {held' : List Holder} (f : b ≡ true) (free : found_voice found ≡ lowest (λ v. has v held))
        (more : held' ≡ put held (entry p c (i + 1) (unwrap_or found 4))) where
      value : unwrap_or found 4 ≡ free_voice held
      value = go found ∙ (ap or_four free ∙ sym (free_same held))
        where
          go : (o : Option ℕ) → unwrap_or o 4 ≡ or_four (found_voice o)
          go None = refl
          go (Some v) = refl

      taken : cond (eqb (unwrap_or found 4) 4) held' (branches_from p c held' (i + 1) (path_tokens (length row - (i + 1)) (pieces 9 next line)) (map line_of (row_of (drop (i + 1) row))))
          ≡ branches_from p c hs 0 (record_tokens (length row) line) (map line_of (row_of row))
      taken = rw (more, value) (rw f at here)

      low : is_some found ≡ true → unwrap_or found 4 < 4
      low y = go found y free
        where
          go : (o : Option ℕ) → is_some o ≡ true → found_voice o ≡ lowest (λ v. has v held) → unwrap_or o 4 < 4
          go None y e = clash cc
          go (Some v) y e = lowest_low (λ v. has v held) v e

      pub branching_turn : is_some found ≡ true → Branching p c line row hs held' next (i + 1)
      branching_turn y = record { high = omega arith; same = rw (ne_eqb (unwrap_or found 4) 4 (λ e. omega (arith, low y))) at taken }

      pub branching_done : is_some found ≡ false → held' ≡ branches_from p c hs 0 (record_tokens (length row) line) (map line_of (row_of row))
      branching_done n = go found n taken
        where
          go : (o : Option ℕ) → is_some o ≡ false → {r : List Holder} → cond (eqb (unwrap_or o 4) 4) held' (branches_from p c held' (i + 1) (path_tokens (length row - (i + 1)) (pieces 9 next line)) (map line_of (row_of (drop (i + 1) row)))) ≡ r → held' ≡ r
          go None n e = e
          go (Some v) n e = clash cc

  pub branching_past : length row ≤ i → held ≡ branches_from p c hs 0 (record_tokens (length row) line) (map line_of (row_of row))
  unfolding branches_from path_tokens
  branching_past h =
      let z : length row - i ≡ 0 = omega arith in
      sym (ap (λ (n : ℕ). branches_from p c held i (path_tokens n (pieces 9 from line)) (map line_of (row_of (drop i row)))) z) ∙ inv.same

-- ---- the voices that are held
pub has_any : (v : ℕ) (hs : List Holder) → list_any (λ x. eqb v x.voice) hs ≡ has v hs
unfolding has
has_any v [] = refl
has_any v (x ∷ hs) = ap (λ (b : Bool). eqb v x.voice || b) (has_any v hs)

-- ---- the header column
kern_here : (t : List ℕ) (b : Bool) (n q : ℕ) (ts : List (List ℕ)) (rest : List (ℕ × List ℕ)) → ((q : ℕ) → or_zero (option_map (λ (p : ℕ × List ℕ). p.0 + 1) (slice_get rest q)) ≡ kern_column (n + 1) q (map is_kern ts))
    → or_zero (option_map (λ (p : ℕ × List ℕ). p.0 + 1) (slice_get (cond b ((n, t) ∷ rest) rest) q)) ≡ kern_column n q (b ∷ map is_kern ts)
unfolding kern_column
kern_here t true n zero ts rest h = refl
kern_here t true n (suc q) ts rest h = h q ∙ ap (λ (k : ℕ). kern_column k q (map is_kern ts)) (add-one n)
kern_here t false n zero ts rest h = h zero ∙ ap (λ (k : ℕ). kern_column k zero (map is_kern ts)) (add-one n)
kern_here t false n (suc q) ts rest h = h (suc q) ∙ ap (λ (k : ℕ). kern_column k (suc q) (map is_kern ts)) (add-one n)

-- of the tokens with their numbers, from n on, that are `**kern`, the one with q before it
pub kern_among : (n q : ℕ) (ts : List (List ℕ)) → or_zero (option_map (λ (p : ℕ × List ℕ). p.0 + 1) (slice_get (filter (λ (p : ℕ × List ℕ). is_kern p.1) (enumerate_from n ts)) q)) ≡ kern_column n q (map is_kern ts)
unfolding kern_column
kern_among n zero [] = refl
kern_among n (suc q) [] = refl
kern_among n q (t ∷ ts) = kern_here t (is_kern t) n q ts _ (λ k. kern_among (n + 1) k ts)

-- what the search among them finds, whose items read v
pub kern_found : {A : Type 0} (v : A → ℕ × List ℕ) (q : ℕ) (ts : List (List ℕ)) {r : Option A} (o : Option A) → r ≡ o
    → option_map v r ≡ slice_get (filter (λ (p : ℕ × List ℕ). is_kern p.1) (enumerate_from 0 ts)) q → or_zero (option_map (λ x. (v x).0 + 1) o) ≡ kern_column 0 q (map is_kern ts)
kern_found {A} v q ts o is e = go o ∙ ap (λ (m : Option (ℕ × List ℕ)). or_zero (option_map (λ (p : ℕ × List ℕ). p.0 + 1) m)) (ap (option_map v) (sym is) ∙ e) ∙ kern_among 0 q ts
  where
    go : (o : Option A) → or_zero (option_map (λ x. (v x).0 + 1) o) ≡ or_zero (option_map (λ (p : ℕ × List ℕ). p.0 + 1) (option_map v o))
    go None = refl
    go (Some x) = refl
