-- What the passes over a record find is what the backward trace gives.
use mathlib.Core.Path.{◌≡◌, refl, sym, ap, ap₂, ◌∙◌}
use mathlib.Core.Bool.{Bool, true, false, cond, ◌&&◌}
use mathlib.Core.List.{List, [], ◌∷◌, ◌++◌, map, append_assoc, append-nil}
use mathlib.Core.Logic.{◌≢◌}
use mathlib.Core.Option.{Option, none, some, bind}
use Prim.Native.Nat.{ℕ, zero, suc, ◌+◌, ◌≤◌, ◌<◌}
use native.Mathlib.Omega.{arith}
use lib.Dec.{eqb, ltb}
use lib.ListN.{length, get_or, length-append}
use borrow.Author.Tests.{lt-ltb, eqb-true, eqb-false}
use Rattle.slices.proofs.TestLaws.{clash}
use Rattle.paths.specs.declared.PathToken.{PathToken}
use Rattle.paths.specs.Demand.{At}
use Rattle.paths.specs.Record.{Rec, star, plain}
use Rattle.paths.specs.Row.{branch_from, part_of, spine_at, part_at}
use Rattle.paths.specs.declared.Spine.{Spine}
use Rattle.paths.specs.declared.Spine.TheVariants.{Line, Branch, Outside}
use Rattle.paths.specs.Token.{is_join}
use Rattle.paths.specs.Trace.{Origin, column_of, origin, origin_in, width, count, is_part, kerns_before, Ending, opens, parts_to, opened_part, part_from, part_at_end, end_part, trace, part, lines}
use Rattle.paths.specs.Walk.{alone}
use Rattle.paths.proofs.Claims.{origin_is, columns_are, lines_are, sound_voiced}
use Rattle.paths.proofs.Columns.{count_ext}
use Rattle.paths.proofs.Counts.{bit, same, same_yes, same_no, same_le, total, at, of_line, of_branch, of_part, high, four_total, total_four, part_total}
use Rattle.paths.proofs.Origins.{origins}
use Rattle.paths.proofs.TextLaws.{Held, row_held, part_on}
use Rattle.paths.proofs.TraceLaws.{origins_length, origins_at}
use Rattle.paths.proofs.VoiceLaws.{Sound}
use Rattle.paths.specs.TracedVoice.{voice}
use Rattle.paths.proofs.TracedVoices.{traced_voice}
use Rattle.holders.specs.Voice.{free_voice}
use Rattle.holders.specs.Holders.{those_from, is_from, is_branch_of, parent_of, from_one, with_branches, carries_on, line_columns, branch_columns, holder, holders, times, Five}
use Rattle.holders.specs.Walk.{voice_of, put, carries, is_split, is_of, entry, lines_from, branches_from, walked, kern_column}
use Rattle.holders.specs.declared.list.Holder.{Holder}
use Rattle.holders.proofs.CarryLaws.{carried, forked, carry_total, carried_less, carries_at, carries_is}
use Rattle.holders.proofs.FiveLaws.{Good, good_few, good_more, free_is, five}
use Rattle.holders.proofs.ForkLaws.{forks, those_gathered, gathered_forks}

-- ---- the lines
module _ (q c : ℕ) where
  unfoldable pub line_list : ℕ → Bool → List PathToken → List Spine → List Holder
  line_list i f [] row = []
  line_list i f (t ∷ ts) [] = []
  line_list i f (t ∷ ts) (s ∷ row) =
      cond (is_of q s && carries t f) (entry q c (i + 1) (voice_of s) ∷ line_list (suc i) (is_join t) ts row) (line_list (suc i) (is_join t) ts row)

  -- as long as there is room
  lines_room : (hs : List Holder) (i : ℕ) (f : Bool) (ts : List PathToken) (row : List Spine) → length hs + length (line_list i f ts row) ≤ 5
      → lines_from q c hs i f ts row ≡ hs ++ line_list i f ts row
  unfolding lines_from line_list put
  lines_room hs i f [] row l = sym (append-nil hs)
  lines_room hs i f (t ∷ ts) [] l = sym (append-nil hs)
  lines_room hs i f (t ∷ ts) (s ∷ row) l = go (is_of q s && carries t f) l (λ hs. lines_room hs (suc i) (is_join t) ts row)
    where
      x : Holder
      x = entry q c (i + 1) (voice_of s)

      rest : List Holder
      rest = line_list (suc i) (is_join t) ts row

      go : (b : Bool) → length hs + length (cond b (x ∷ rest) rest) ≤ 5 → ((hs : List Holder) → length hs + length rest ≤ 5 → lines_from q c hs (suc i) (is_join t) ts row ≡ hs ++ rest)
          → lines_from q c (cond b (cond (ltb (length hs) 5) (hs ++ (x ∷ [])) hs) hs) (suc i) (is_join t) ts row ≡ hs ++ cond b (x ∷ rest) rest
      go true l later = rw (lt-ltb (length hs) 5 (omega arith)) (later (hs ++ (x ∷ [])) (omega (arith, length-append hs (x ∷ []))) ∙ append_assoc hs (x ∷ []) rest)
      go false l later = later hs l

  -- the columns that pass a test, and then what each of them is
  those_lines : (test : ℕ → Bool) (g : ℕ → Holder) (i : ℕ) (f : Bool) (ts : List PathToken) (row : List Spine) → length ts ≡ length row
      → ((e : ℕ) → e < length row → test (i + e) ≡ (is_of q (spine_at row e) && carries_at f ts e))
      → ((e : ℕ) → is_of q (spine_at row e) ≡ true → g (i + e) ≡ entry q c (i + e + 1) (voice_of (spine_at row e)))
      → map g (those_from test i (length row)) ≡ line_list i f ts row
  unfolding those_from line_list
  those_lines test g i f [] [] l a b = refl
  those_lines test g i f [] (s ∷ row) l a b = absurd (omega arith)
  those_lines test g i f (t ∷ ts) [] l a b = absurd (omega arith)
  those_lines test g i f (t ∷ ts) (s ∷ row) l a b =
      let z : i + 0 ≡ i = omega arith in
      rw (rw z at (a 0 (omega arith)))
      (go (is_of q s) (carries t f) (rw z at (b 0))
      (those_lines test g (suc i) (is_join t) ts row (omega arith) (λ e h. let y : suc i + e ≡ i + suc e = omega arith in rw y (a (suc e) (omega arith)))
      (λ e o. let y : suc i + e ≡ i + suc e = omega arith in rw y (b (suc e) o))))
    where
      rest : List Holder
      rest = line_list (suc i) (is_join t) ts row

      go : (x y : Bool) → (x ≡ true → g i ≡ entry q c (i + 1) (voice_of s)) → map g (those_from test (suc i) (length row)) ≡ rest
          → map g (cond (x && y) (i ∷ those_from test (suc i) (length row)) (those_from test (suc i) (length row))) ≡ cond (x && y) (entry q c (i + 1) (voice_of s) ∷ rest) rest
      go true true o e = ap₂ (λ (h : Holder) (hs : List Holder). h ∷ hs) (o refl) e
      go true false o e = e
      go false y o e = e

  -- ---- their voices are those of the spines that are carried on
  times_cons : (v : ℕ) (x : Holder) (hs : List Holder) → times v (x ∷ hs) ≡ same v x.voice + times v hs
  unfolding times same
  times_cons v x hs = go (eqb v x.voice)
    where
      go : (b : Bool) → cond b (suc (times v hs)) (times v hs) ≡ bit b + times v hs
      go true = omega arith
      go false = omega arith

  times_step : (v column : ℕ) (s : Spine) (y : Bool) (rest : List Holder) (more : List Spine) → times v rest ≡ total (at q v) more
      → times v (cond (is_of q s && y) (entry q c column (voice_of s) ∷ rest) rest) ≡ total (at q v) (cond y (s ∷ more) more)
  unfolding total
  times_step v column (Line p w) y rest more e = go (eqb q p) y refl
    where
      go : (a y : Bool) → eqb q p ≡ a → times v (cond (a && y) (entry q c column w ∷ rest) rest) ≡ total (at q v) (cond y (Line p w ∷ more) more)
      go true true a = omega (arith, times_cons v (entry q c column w) rest, same_yes q p (eqb-true q p a), same_le v w)
      go true false a = e
      go false true a = omega (arith, same_no q p (eqb-false q p a))
      go false false a = e
  times_step v column (Branch p) true rest more e = omega arith
  times_step v column (Branch p) false rest more e = e
  times_step v column Outside true rest more e = omega arith
  times_step v column Outside false rest more e = e

  times_lines : (v i : ℕ) (f : Bool) (ts : List PathToken) (row : List Spine) → times v (line_list i f ts row) ≡ total (at q v) (carried f ts row)
  unfolding line_list carried times total
  times_lines v i f [] row = refl
  times_lines v i f (t ∷ ts) [] = refl
  times_lines v i f (t ∷ ts) (s ∷ row) = times_step v (i + 1) s (carries t f) (line_list (suc i) (is_join t) ts row) (carried (is_join t) ts row) (times_lines v (suc i) (is_join t) ts row)

  length_step : (x : Holder) (s : Spine) (y : Bool) (rest : List Holder) (more : List Spine) → length rest ≡ total (of_line q) more
      → length (cond (is_of q s && y) (x ∷ rest) rest) ≡ total (of_line q) (cond y (s ∷ more) more)
  unfolding total
  length_step x (Line p w) y rest more e = go (eqb q p) y refl
    where
      go : (a y : Bool) → eqb q p ≡ a → length (cond (a && y) (x ∷ rest) rest) ≡ total (of_line q) (cond y (Line p w ∷ more) more)
      go true true a = omega (arith, same_yes q p (eqb-true q p a))
      go true false a = e
      go false true a = omega (arith, same_no q p (eqb-false q p a))
      go false false a = e
  length_step x (Branch p) true rest more e = omega arith
  length_step x (Branch p) false rest more e = e
  length_step x Outside true rest more e = omega arith
  length_step x Outside false rest more e = e

  length_lines : (i : ℕ) (f : Bool) (ts : List PathToken) (row : List Spine) → length (line_list i f ts row) ≡ total (of_line q) (carried f ts row)
  unfolding line_list carried total
  length_lines i f [] row = refl
  length_lines i f (t ∷ ts) [] = refl
  length_lines i f (t ∷ ts) (s ∷ row) =
      length_step (entry q c (i + 1) (voice_of s)) s (carries t f) (line_list (suc i) (is_join t) ts row) (carried (is_join t) ts row) (length_lines (suc i) (is_join t) ts row)

  good_lines : (ts : List PathToken) (row : List Spine) → Sound row → Good (line_list 0 false ts row)
  good_lines ts row s = record {
    once = λ v. omega (arith, times_lines v 0 false ts row, carried_less (at q v) false ts row, s.once q v);
    all = omega (
      arith,
      times_lines 0 0 false ts row,
      times_lines 1 0 false ts row,
      times_lines 2 0 false ts row,
      times_lines 3 0 false ts row,
      length_lines 0 false ts row,
      four_total q (carried false ts row),
      total_four q (carried false ts row),
      carried_less high false ts row,
      s.low,
    );
  }

  -- ---- the branches
  branches_are : (g : ℕ → ℕ → Holder) (hs : List Holder) (i : ℕ) (ts : List PathToken) (row : List Spine) → Good hs
      → ((e v : ℕ) → is_of q (spine_at row e) ≡ true → g (i + e) v ≡ entry q c (i + e + 1) v) → branches_from q c hs i ts row ≡ with_branches g hs (forks q i ts row)
  unfolding branches_from with_branches forks put
  branches_are g hs i [] row k a = refl
  branches_are g hs i (t ∷ ts) [] k a = refl
  branches_are g hs i (t ∷ ts) (s ∷ row) k a =
      go (is_of q s) (is_split t) refl (λ hs k. branches_are g hs (suc i) ts row k (λ e v o. let y : suc i + e ≡ i + suc e = omega arith in rw y (a (suc e) v o)))
    where
      x : Holder
      x = entry q c (i + 1) (free_voice hs)

      same_here : is_of q s ≡ true → g i (free_voice hs) ≡ x
      same_here o = let z : i + 0 ≡ i = omega arith in rw z at (a 0 (free_voice hs) o)

      Later : Type 0
      Later = (hs : List Holder) → Good hs → branches_from q c hs (suc i) ts row ≡ with_branches g hs (forks q (suc i) ts row)

      by_voice : (b : Bool) → eqb (free_voice hs) 4 ≡ b → Later
          → cond b (hs ++ (x ∷ [])) (branches_from q c (hs ++ (x ∷ [])) (suc i) ts row) ≡ cond b (hs ++ (x ∷ [])) (with_branches g (hs ++ (x ∷ [])) (forks q (suc i) ts row))
      by_voice true e later = refl
      by_voice false e later = later (hs ++ (x ∷ [])) (good_more k x (free_is hs (free_voice hs) refl (eqb-false (free_voice hs) 4 e)))

      go : (o y : Bool) → is_of q s ≡ o → Later
          → cond (o && y) (cond (eqb (free_voice hs) 4) (cond (ltb (length hs) 5) (hs ++ (x ∷ [])) hs) (branches_from q c (cond (ltb (length hs) 5) (hs ++ (x ∷ [])) hs) (suc i) ts row)) (branches_from q c hs (suc i) ts row)
          ≡ with_branches g hs (cond (o && y) (i ∷ forks q (suc i) ts row) (forks q (suc i) ts row))
      go true true o later = rw (lt-ltb (length hs) 5 (omega (arith, good_few k)), same_here o) (by_voice (eqb (free_voice hs) 4) refl later)
      go true false o later = later hs k
      go false y o later = later hs k

-- ---- how many branches
forks_length : (q i : ℕ) (ts : List PathToken) (row : List Spine) → total (of_branch q) row ≡ 0 → length (forks q i ts row) ≡ total (of_part q) (map branch_from (forked ts row))
unfolding forks forked total branch_from
forks_length q i [] row z = refl
forks_length q i (t ∷ ts) [] z = refl
forks_length q i (t ∷ ts) (Line p v ∷ row) z = go (eqb q p) (is_split t) refl (forks_length q (suc i) ts row (omega arith))
  where
    go : (a y : Bool) → eqb q p ≡ a → length (forks q (suc i) ts row) ≡ total (of_part q) (map branch_from (forked ts row))
        → length (cond (a && y) (i ∷ forks q (suc i) ts row) (forks q (suc i) ts row)) ≡ total (of_part q) (map branch_from (cond y (Line p v ∷ forked ts row) (forked ts row)))
    go true true a e = omega (arith, same_yes q p (eqb-true q p a))
    go true false a e = e
    go false true a e = omega (arith, same_no q p (eqb-false q p a))
    go false false a e = e
forks_length q i (t ∷ ts) (Branch p ∷ row) z = go (is_split t) (forks_length q (suc i) ts row (omega arith))
  where
    go : (y : Bool) → length (forks q (suc i) ts row) ≡ total (of_part q) (map branch_from (forked ts row))
        → length (forks q (suc i) ts row) ≡ total (of_part q) (map branch_from (cond y (Branch p ∷ forked ts row) (forked ts row)))
    go true e = omega arith
    go false e = e
forks_length q i (t ∷ ts) (Outside ∷ row) z = go (is_split t) (forks_length q (suc i) ts row (omega arith))
  where
    go : (y : Bool) → length (forks q (suc i) ts row) ≡ total (of_part q) (map branch_from (forked ts row))
        → length (forks q (suc i) ts row) ≡ total (of_part q) (map branch_from (cond y (Outside ∷ forked ts row) (forked ts row)))
    go true e = omega arith
    go false e = e

-- ---- the header column
kern_found : (h : List Bool) (k q i : ℕ) → get_or h k false ≡ true → kerns_before h k ≡ q → kern_column i q h ≡ i + k + 1
unfolding kerns_before kern_column
kern_found [] k q i e z = clash cc
kern_found (true ∷ h) zero zero i e z = omega arith
kern_found (true ∷ h) zero (suc q) i e z = absurd (omega arith)
kern_found (true ∷ h) (suc k) zero i e z = absurd (omega arith)
kern_found (true ∷ h) (suc k) (suc q) i e z = omega (arith, kern_found h k q (suc i) e (omega arith))
kern_found (false ∷ h) zero q i e z = clash cc
kern_found (false ∷ h) (suc k) zero i e z = omega (arith, kern_found h k zero (suc i) e z)
kern_found (false ∷ h) (suc k) (suc q) i e z = omega (arith, kern_found h k (suc q) (suc i) e z)

header_is : (h : List Bool) (recs : ℕ → Rec) (n q j : ℕ) → is_part q (part h recs n j) ≡ true → from_one (trace recs n j) ≡ kern_column 0 q h
unfolding part bind part_from part_at_end
header_is h recs n q j = go (trace recs n j)
  where
    kern : (k : ℕ) (b : Bool) → get_or h k false ≡ b → is_part q (cond b (some (0 + kerns_before h k)) none) ≡ true → k + 1 ≡ kern_column 0 q h
    kern k true e o = let f : q ≡ 0 + kerns_before h k = eqb-true q (0 + kerns_before h k) o in omega (arith, kern_found h k q 0 e (omega arith))
    kern k false e o = clash cc

    opened : (p : ℕ) (x : Rec) (k : ℕ) → is_part q (opened_part p x k) ≡ true → k + 1 ≡ kern_column 0 q h
    opened p (star ts) k o = clash cc
    opened p (plain m) k o = clash cc

    ended : (m k : ℕ) → is_part q (part_at_end h recs m k) ≡ true → k + 1 ≡ kern_column 0 q h
    ended zero k o = kern k (get_or h k false) refl o
    ended (suc m) k o = opened (parts_to h recs m) (recs m) k o

    go : (t : Option Ending) → is_part q (bind t (end_part h recs)) ≡ true → from_one t ≡ kern_column 0 q h
    go none o = clash cc
    go (some e) o = ended e.row e.column o

-- ---- record n
module _ (h : List Bool) (recs : ℕ → Rec) (n q : ℕ) (row : List Spine) (ts : List PathToken) (there : At h recs n row) (is : recs n ≡ star ts) (even : length ts ≡ length row) where
  abbrev column : ℕ
  column = kern_column 0 q h

  held : Held h recs n row
  held = row_held h recs n row there

  is_of_lem : (j : ℕ) → is_part q (part h recs n j) ≡ is_of q (spine_at row j)
  unfolding part_at
  is_of_lem j = ap (is_part q) (sym (held.parts j)) ∙ go (spine_at row j) (sound_voiced row held.sound j)
    where
      go : (s : Spine) → ((p : ℕ) → s ≢ Branch p) → is_part q (part_of s) ≡ is_of q s
      go (Line p v) b = refl
      go (Branch p) b = absurd (b p refl)
      go Outside b = refl

  holder_is : (j v : ℕ) → is_of q (spine_at row j) ≡ true → holder h recs n q j v ≡ entry q column (j + 1) v
  holder_is j v o = ap (λ (c : ℕ). record { column = j + 1; voice = v; header = c }) (header_is h recs n q j (is_of_lem j ∙ o))

  carries_on_lem : (i : ℕ) → i < length row → carries_on h recs n q i ≡ carries_at false ts i
  unfolding carries_on
  carries_on_lem i l =
      ap (ltb 0)
      (ap (count (λ j. is_from i (origin_in (recs n) j))) (columns_are h recs n row there ts is even)
      ∙ count_ext (λ j. is_from i (origin_in (recs n) j)) (λ j. is_from i (origin ts j)) (λ j. ap (is_from i) (origin_is h recs n row there ts is even j)) (width ts))
      ∙ carries_is ts i (omega arith)

  -- the voice of a line of the part is the one that the text says
  voice_is : (j : ℕ) → is_of q (spine_at row j) ≡ true → voice h recs n j ≡ voice_of (spine_at row j)
  voice_is j o = go (spine_at row j) refl o
    where
      go : (s : Spine) → spine_at row j ≡ s → is_of q s ≡ true → voice h recs n j ≡ voice_of s
      go (Line p v) e o = traced_voice h recs n row there j p v e
      go (Branch p) e o = clash cc
      go Outside e o = clash cc

  line_is : (j : ℕ) → is_of q (spine_at row j) ≡ true → holder h recs n q j (voice h recs n j) ≡ entry q column (j + 1) (voice_of (spine_at row j))
  line_is j o = ap (λ (v : ℕ). holder h recs n q j v) (voice_is j o) ∙ holder_is j (voice_of (spine_at row j)) o

  lines_found : map (λ i. holder h recs n q i (voice h recs n i)) (line_columns h recs n q) ≡ line_list q column 0 false ts row
  unfolding line_columns
  lines_found =
      rw (← held.size)
      (those_lines q column (λ i. is_part q (part h recs n i) && carries_on h recs n q i) (λ i. holder h recs n q i (voice h recs n i)) 0 false ts row even
      (λ e l. let z : 0 + e ≡ e = omega arith in rw z (ap₂ (λ (a b : Bool). a && b) (is_of_lem e) (carries_on_lem e l)))
      (λ e o. let z : 0 + e ≡ e = omega arith in rw z (line_is e o)))

  branches_found : branch_columns h recs n q ≡ forks q 0 ts row
  unfolding branch_columns
  branches_found =
      rw (columns_are h recs n row there ts is even, ← origins_length ts)
      (those_gathered q (part h recs n) (λ j. is_branch_of (origin_in (recs n) j) && is_part q (part h recs (suc n) j)) (λ j. parent_of (origin_in (recs n) j)) 0 (origins alone 0 ts)
      (λ e. let z : 0 + e ≡ e = omega arith in
      rw z (ap (λ (p : Option ℕ). is_branch_of (origin_in (recs n) e) && is_part q p) (part_on h recs n e (ap (λ (r : Rec). opens r e) is))
      ∙ ap (λ (o : Origin). is_branch_of o && is_part q (bind (column_of o) (part h recs n))) (origin_is h recs n row there ts is even e ∙ sym (origins_at ts e))))
      (λ e. let z : 0 + e ≡ e = omega arith in rw z (ap parent_of (origin_is h recs n row there ts is even e ∙ sym (origins_at ts e))))
      ∙ gathered_forks q (part h recs n) alone 0 ts row even (λ e. let z : 0 + e ≡ e = omega arith in rw z (is_of_lem e)) (λ e. clash cc))

  -- the passes give the list of the trace
  pub walked_is : walked q column ts row ≡ holders h recs n q
  unfolding walked holders
  walked_is =
      rw (lines_found, branches_found)
      (ap (λ (hs : List Holder). branches_from q column hs 0 ts row) (lines_room q column [] 0 false ts row (omega (arith, good_few good)))
      ∙ branches_are q column (holder h recs n q) (line_list q column 0 false ts row) 0 ts row good (λ e v o. let z : 0 + e ≡ e = omega arith in rw z (holder_is e v o)))
    where
      good : Good (line_list q column 0 false ts row)
      good = good_lines q column ts row held.sound

  -- "five entries", where the part would hold over four lines
  pub five_there : 4 < lines h recs (suc n) q → Five (holders h recs n q)
  unfolding holders
  five_there over =
      rw (lines_found, branches_found)
      (five (holder h recs n q) (λ i v. refl) (line_list q column 0 false ts row) (forks q 0 ts row) (good_lines q column ts row held.sound)
      (omega (
        arith,
        lines_are h recs n row there ts is even q,
        carry_total (of_part q) refl ts row,
        part_total q (carried false ts row),
        carried_less (of_branch q) false ts row,
        held.sound.settled q,
        length_lines q column 0 false ts row,
        forks_length q 0 ts row (held.sound.settled q),
      )))
