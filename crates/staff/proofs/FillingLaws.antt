-- Where a text is refused with 8, the lines before the record are read to the row that the text says, and what fills the staff there is what the backward
-- trace gives.
use mathlib.Core.Path.{◌≡◌, refl, sym, ap, subst, ◌∙◌}
use Prim.Native.Nat.{ℕ, suc, ◌+◌, ◌-◌, ◌<◌}
use native.Mathlib.Omega.{arith}
use mathlib.Core.Bool.{Bool, true, false, cond, not, false≢true}
use mathlib.Core.List.{List, [], ◌∷◌, ◌++◌, map}
use mathlib.Core.Option.{some}
use lib.Dec.{eqb, ltb}
use lib.ListN.{length, get_or, take, length-map}
use lib.Seq.{take_at, get_or_at}
use borrow.Author.Tests.{eqb-true}
use Rattle.slices.proofs.TestLaws.{clash}
use Rattle.lines.specs.Lines.{lines_of, without_crs, kind_of}
use Rattle.lines.specs.Tokens.{tokens_of, is_kern, is_exclusive}
use Rattle.lines.specs.declared.Kind.{Kind}
use Rattle.lines.specs.declared.Kind.TheVariants.{Empty, Reference, Comment, Star, Bar, Data}
use Rattle.paths.specs.declared.PathToken.{PathToken}
use Rattle.paths.specs.Record.{Rec, star}
use Rattle.paths.specs.declared.Spine.{Spine}
use Rattle.paths.specs.Text.{reached, reading}
use Rattle.paths.specs.Token.{path_token}
use Rattle.paths.specs.Trace.{FirstWithout}
use Rattle.paths.specs.Voices.{Outcome, next, mixed, voiceless, wide, step_row}
use Rattle.repair.specs.Repair.{each, repaired, Repaired, repaired_of}
use Rattle.repair.specs.declared.Repair.{Repair}
use Rattle.std.proofs.Common.{Ok, Err}
use Rattle.repair.specs.declared.Unrepaired.TheVariants.{Uneven, Mixed}
use Rattle.repair.proofs.WidthLaws.{even_width}
use Rattle.spines.specs.Tokens.{record_tokens}
use Rattle.spines.proofs.RecordLaws.{repaired_tokens, star_record}
use Rattle.holders.specs.Holders.{holders, Five}
use Rattle.holders.specs.Walk.{listed}
use Rattle.holders.specs.declared.list.Holders.{Holders}
use Rattle.holders.proofs.AgreeLaws.{walked_is, five_there}
use Rattle.holders.proofs.OverLaws.{over_four}
use Rattle.reading.specs.Header.{any_kern, read_header}
use Rattle.reading.specs.Records.{read_line, by_repair, on_row, on_record, is_record as is_record_read}
use Rattle.reading.specs.Notices.{placed}
use Rattle.reading.specs.State.{State, Result, Step, refused, goes, ends, start}
use Rattle.reading.specs.Text.{Answer, refusal, accepted, read_text, answered, answer_of}
use Rattle.account.specs.Reached.{Place, where_goes, place_after, ReachedStar, later_among}
use Rattle.account.specs.Rows.{Numbered, is_record, records_from, records_of, header_in, header_of, paths_of}
use Rattle.account.proofs.LineLaws.{record_at, records_some, other_line, record_line, same_record, Passed, passed, paths_in, Begins, begins}
use Rattle.account.proofs.PlaceLaws.{place_line, place_start}
use mathlib.Core.Logic.{inl}
use Rattle.account.proofs.Question.{from_answer, refused_with_8}
use Rattle.account.proofs.RecordLaws.{Stands}
use Rattle.account.proofs.ResultLaws.{Adds}
use Rattle.account.proofs.RowLaws.{Follows, follows_first, row_after, reads_on, kind_star}
use Rattle.reader.specs.Answer.{numbers_of}
use Rattle.std.specs.Prelude.{Result as Answered, Ok, Err}
use Rattle.refusal.specs.Numbers.{number_of}
use Rattle.refusal.specs.declared.Refusal.{Refusal}
use Rattle.refusal.specs.declared.Refusal.TheVariants.{TooLong, NotUtf8, NotExclusive, ManyColumns, NoKern, Uneven as UnevenText, Mixed as MixedText, StaffFull, ManySpines, ManyNotes, NoHeader, NoNote, ShortBuffer, MixedJoin}
use Rattle.staff.specs.Row.{row_by, moved_by, headed_by, row_past, row_through, walked_at}
use Rattle.staff.specs.Filling.{filling_by, filling_of}

-- ---- one line that the reading goes past

-- a record behind the header is even
onrow_even : (row : List Spine) (k offset : ℕ) (bytes : List ℕ) (st : State) (r : Result) → on_row row k offset bytes st ≡ goes r
    → (0 < length row) × ((p : Repair) × (repaired_of (length row) (tokens_of bytes) ≡ Ok p))
onrow_even [] k offset bytes st r e = clash cc
onrow_even (s ∷ row) k offset bytes st r e = go (repaired_of (length (s ∷ row)) (tokens_of bytes)) refl e
  where
    go : (o : Repaired) → repaired_of (length (s ∷ row)) (tokens_of bytes) ≡ o
        → by_repair o k offset bytes (placed offset (repaired (length (s ∷ row)) (tokens_of bytes))) st ≡ goes r
        → (0 < length (s ∷ row)) × ((p : Repair) × (repaired_of (length (s ∷ row)) (tokens_of bytes) ≡ Ok p))
    go (Err (Uneven n)) i e = clash cc
    go (Err Mixed) i e = clash cc
    go (Ok p) i e = (omega arith, (p, i))

-- the header has at most 256 tokens
header_few : (k offset : ℕ) (bytes : List ℕ) (st : State) (r : Result) → read_header k offset bytes st ≡ goes r → ltb 256 (length (tokens_of bytes)) ≡ false
unfolding read_header
header_few k offset bytes st r = go (not (each is_exclusive (tokens_of bytes))) (ltb 256 (length (tokens_of bytes))) (not (any_kern (map is_kern (tokens_of bytes)))) _
  where
    go : (a b c : Bool) (u : Result) → cond a (refused 3 k 0) (cond b (refused 4 k (length (tokens_of bytes))) (cond c (refused 5 k 0) (goes u))) ≡ goes r → b ≡ false
    go true b c u e = clash cc
    go false true c u e = clash cc
    go false false c u e = refl

-- the row that a record is read to
reading_row : (o : Outcome) (row : List Spine) → reading o ≡ reached row → row_by o ≡ row
reading_row (next r) row e = cc
reading_row (mixed c) row e = clash cc
reading_row (voiceless p) row e = clash cc
reading_row (wide n) row e = clash cc

module _ (row row' : List Spine) (bytes : List ℕ) {p : Repair} (even : repaired_of (length row) (tokens_of bytes) ≡ Ok p) where
  moved : (kind : Kind) → reading (row_after kind (repaired (length row) (tokens_of bytes)) row) ≡ reached row' → moved_by kind bytes row ≡ row'
  moved Empty e = reading_row (next row) row' e
  moved Reference e = reading_row (next row) row' e
  moved Comment e = reading_row (next row) row' e
  moved Star e = rw (repaired_tokens (length row) bytes even) (reading_row (step_row row (map path_token (repaired (length row) (tokens_of bytes)))) row' e)
  moved Bar e = reading_row (next row) row' e
  moved Data e = reading_row (next row) row' e

other_row : (begun : Bool) (bytes : List ℕ) (row : List Spine) → is_record (kind_of bytes) ≡ false → row_past begun bytes row ≡ row
other_row true bytes row i = go (kind_of bytes) i
  where
    go : (kind : Kind) → is_record kind ≡ false → moved_by kind bytes row ≡ row
    go Empty i = refl
    go Reference i = refl
    go Comment i = refl
    go Star i = clash cc
    go Bar i = refl
    go Data i = refl
other_row false bytes row i = rw (same_record (kind_of bytes) ∙ i)

-- ---- the lines behind the header
module _ (h : List Bool) (recs : ℕ → Rec) (tail : List (List ℕ)) (there : State) where
  abbrev RowTrue : ℕ → ℕ → List (List ℕ) → Type 0
  RowTrue k offset ls = (n : ℕ) (st : State) (b : Bool) → Stands h recs n st (records_from k (ls ++ tail))
      → place_after true k offset st ls ≡ some (record { begun = b; state = there }) → row_through true st.row ls ≡ there.row

  row_one : (k offset : ℕ) (l : List ℕ) (ls : List (List ℕ)) → RowTrue (k + 1) (offset + length l + 1) ls → RowTrue k offset (l ∷ ls)
  unfolding row_through
  row_one k offset l ls later n st b here e = go (read_line true (k + 1) offset (without_crs l) st) refl (sym (place_line true k offset st l ls) ∙ e)
    where
      past : (r : Result) → read_line true (k + 1) offset (without_crs l) st ≡ goes r → Passed h recs n k st l (ls ++ tail) r → moved_by (kind_of (without_crs l)) (without_crs l) st.row ≡ r.state.row
      past r i p = by (is_record (kind_of (without_crs l))) refl
        where
          by : (t : Bool) → is_record (kind_of (without_crs l)) ≡ t → moved_by (kind_of (without_crs l)) (without_crs l) st.row ≡ r.state.row
          by true t =
              let v = onrow_even st.row (k + 1) offset (without_crs l) st r (sym (record_line true (k + 1) offset (without_crs l) st t) ∙ i) in
              let f : Follows recs n (length st.row) (record_at k l (ls ++ tail) ∷ records_from (k + 1) (ls ++ tail)) = rw (records_some k l (ls ++ tail) t) at here.follows in
              moved st.row r.state.row (without_crs l) v.1.1 (kind_of (without_crs l))
              (sym (reads_on h recs n st.row here.at (without_crs l) v.0 t v.1.1 (follows_first f)) ∙ (rw t at p.stands.at))
          by false t =
              let o : (r : Result) × (read_line true (k + 1) offset (without_crs l) st ≡ goes r) × Adds st r [] = other_line true (k + 1) offset (without_crs l) st t in
              let same : o.0 ≡ r = cc in
              other_row true (without_crs l) st.row t ∙ sym o.2.row ∙ ap (λ (u : Result). u.state.row) same

      go : (s : Step) → read_line true (k + 1) offset (without_crs l) st ≡ s
          → where_goes s (λ (s : State). place_after true (k + 1) (offset + length l + 1) s ls) ≡ some (record { begun = b; state = there })
          → row_through true (moved_by (kind_of (without_crs l)) (without_crs l) st.row) ls ≡ there.row
      go (refused q m f) i e = clash cc
      go (goes r) i e =
          let p : Passed h recs n k st l (ls ++ tail) r = passed h recs n k offset st l (ls ++ tail) r here i in
          rw (past r i p) (later (cond (is_record (kind_of (without_crs l))) (suc n) n) r.state b p.stands e)
      go (ends r) i e = clash cc

  row_true : (k offset : ℕ) (ls : List (List ℕ)) → RowTrue k offset ls
  unfolding row_through place_after
  row_true k offset [] = λ n st b here e. ap (λ (p : Place). p.state.row) (same_place e)
    where
      same_place : {a b : Place} → some a ≡ some b → a ≡ b
      same_place e = cc
  row_true k offset (l ∷ ls) = row_one k offset l ls (row_true (k + 1) (offset + length l + 1) ls)

-- ---- from the start of the text
module _ (tail : List (List ℕ)) (there : State) where
  abbrev RowFalse : ℕ → ℕ → List (List ℕ) → Type 0
  RowFalse k offset ls = (st : State) → place_after false k offset st ls ≡ some (record { begun = true; state = there }) → row_through false st.row ls ≡ there.row

  row_first : (k offset : ℕ) (l : List ℕ) (ls : List (List ℕ)) → RowFalse (k + 1) (offset + length l + 1) ls → RowFalse k offset (l ∷ ls)
  unfolding row_through
  row_first k offset l ls later st e = by (is_record (kind_of (without_crs l))) refl (sym (place_line false k offset st l ls) ∙ e)
    where
      header : is_record (kind_of (without_crs l)) ≡ true → (s : Step) → on_record false (k + 1) offset (without_crs l) st ≡ s
          → where_goes s (λ (s : State). place_after true (k + 1) (offset + length l + 1) s ls) ≡ some (record { begun = true; state = there })
          → row_through true (headed_by (without_crs l)) ls ≡ there.row
      header t (refused q m f) i e = clash cc
      header t (goes r) i e =
          let x : Numbered = record_at k l ls in
          let g : Begins x (records_from (k + 1) (ls ++ tail)) st r = begins x (records_from (k + 1) (ls ++ tail)) offset st r i in
          rw (header_few (k + 1) offset (without_crs l) st r i, ← g.row)
          (row_true (header_in (x ∷ records_from (k + 1) (ls ++ tail))) (paths_in (x ∷ records_from (k + 1) (ls ++ tail))) tail there (k + 1) (offset + length l + 1) ls 0 r.state true g.stands e)
      header t (ends r) i e = clash cc

      by : (t : Bool) → is_record (kind_of (without_crs l)) ≡ t
          → where_goes (read_line false (k + 1) offset (without_crs l) st) (λ (s : State). place_after (is_record (kind_of (without_crs l))) (k + 1) (offset + length l + 1) s ls)
          ≡ some (record { begun = true; state = there })
          → row_through (is_record_read (kind_of (without_crs l))) (row_past false (without_crs l) st.row) ls ≡ there.row
      by true t e = rw (same_record (kind_of (without_crs l)) ∙ t) (header t (on_record false (k + 1) offset (without_crs l) st) refl (rw (t, record_line false (k + 1) offset (without_crs l) st t) at e))
      by false t e =
          let o : (r : Result) × (read_line false (k + 1) offset (without_crs l) st ≡ goes r) × Adds st r [] = other_line false (k + 1) offset (without_crs l) st t in
          rw (same_record (kind_of (without_crs l)) ∙ t, ← o.2.row) (later o.0.state (rw (t, o.1) at e))

  row_false : (k offset : ℕ) (ls : List (List ℕ)) → RowFalse k offset ls
  unfolding place_after
  row_false k offset [] = λ st e. let never : false ≡ true = ap (λ (p : Place). p.begun) (same_place e) in clash cc
    where
      same_place : {a b : Place} → some a ≡ some b → a ≡ b
      same_place e = cc
  row_false k offset (l ∷ ls) = row_first k offset l ls (row_false (k + 1) (offset + length l + 1) ls)

-- ---- the record that is refused with 8
module _ (text : List ℕ) (before : List (List ℕ)) (here : List ℕ) (rest : List (List ℕ)) (there : ReachedStar text before here rest) (q : ℕ)
    (first : FirstWithout (header_of text) (paths_of text) (later_among before) q) where
  abbrev row : List Spine
  row = there.state.row

  abbrev tokens : List PathToken
  tokens = record_tokens (length row) (without_crs here)

  stands : Stands (header_of text) (paths_of text) (later_among before) there.state (records_from (0 + length before) (here ∷ rest))
  unfolding records_of paths_of
  stands =
      subst (λ (ls : List (List ℕ)). Stands (header_in (records_from 0 ls)) (paths_in (records_from 0 ls)) (later_among before) there.state (records_from (0 + length before) (here ∷ rest))) (sym there.cut)
      (place_start (here ∷ rest) there.state 0 0 before [] start there.reached).stands

  is_record_lem : is_record (kind_of (without_crs here)) ≡ true
  is_record_lem = rw there.is_star_lem

  is_star_lem : paths_of text (later_among before) ≡ star tokens
  is_star_lem =
      follows_first (subst (λ (rs : List Numbered). Follows (paths_of text) (later_among before) (length row) rs) (records_some (0 + length before) here rest is_record_lem) stands.follows)
      ∙ star_record (length row) (without_crs here) there.even (kind_star (without_crs here) is_record_lem ∙ rw there.is_star_lem)

  even : length tokens ≡ length row
  even = ap length (repaired_tokens (length row) (without_crs here) there.even) ∙ length-map (repaired (length row) (tokens_of (without_crs here))) path_token ∙ even_width (length row) (tokens_of (without_crs here)) there.even

  filled_there : (walked_at text (length before + 1) q ≡ holders (header_of text) (paths_of text) (later_among before) q) × Five (holders (header_of text) (paths_of text) (later_among before) q)
  unfolding walked_at
  filled_there =
      let z : length before + 1 - 1 ≡ length before = omega arith in
      let cut : take (length before) (lines_of text) ≡ before = ap (take (length before)) there.cut ∙ take_at before (here ∷ rest) (length before) refl in
      let line : get_or (lines_of text) (length before) [] ≡ here = ap (λ (ls : List (List ℕ)). get_or ls (length before) []) there.cut ∙ get_or_at before here rest [] (length before) refl in
      let through : row_through false [] before ≡ row = row_false (here ∷ rest) there.state 0 0 before start there.reached in (
        rw (z, cut, line, through) (walked_is (header_of text) (paths_of text) (later_among before) q row tokens stands.at is_star_lem even),
        five_there (header_of text) (paths_of text) (later_among before) q row tokens stands.at is_star_lem even (over_four (header_of text) (paths_of text) (later_among before) q tokens is_star_lem first),
      )

-- "five entries returned with the refusal"
pub record Filled (text : List ℕ) (k q : ℕ) : Type 0 where
  pub same : walked_at text k q ≡ filling_of text
  pub five : Five (filling_of text)

pub filled : (text : List ℕ) (k q : ℕ) → read_text text ≡ refusal 8 k q → Filled text k q
unfolding filling_of
filled text k q e =
    let o = refused_with_8 text k q e in
    let before : List (List ℕ) = o.0 in
    let there : ReachedStar text before o.1 o.2 = o.3 in
    let at : k ≡ length before + 1 = o.4 in
    let f = filled_there text before o.1 o.2 there q o.6 in
    let z : length before + 1 - 1 ≡ length before = omega arith in
    let cut : take (length before) (lines_of text) ≡ before = ap (take (length before)) there.cut ∙ take_at before (o.1 ∷ o.2) (length before) refl in
    record {
      same = rw (e, at, z, cut) f.0;
      five = rw (e, at, z, cut) f.1;
    }

-- any other answer
pub filling_none : (text : List ℕ) → ((k q : ℕ) → read_text text ≡ refusal 8 k q → ⊥) → filling_of text ≡ []
unfolding filling_of
filling_none text n = go (read_text text) n
  where
    by : (b : Bool) (m k q : ℕ) → eqb m 8 ≡ b → ((k' q' : ℕ) → refusal m k q ≡ refusal 8 k' q' → ⊥) → cond b (holders (header_of text) (paths_of text) (later_among (take (k - 1) (lines_of text))) q) [] ≡ []
    by true m k q e n = absurd (n k q (ap (λ (m : ℕ). refusal m k q) (eqb-true m 8 e)))
    by false m k q e n = refl

    go : (a : Answer) → ((k q : ℕ) → a ≡ refusal 8 k q → ⊥) → filling_by text a ≡ []
    go (refusal m k q) n = by (eqb m 8) m k q refl n
    go (accepted parts notes rs) n = refl

-- ---- the list beside the answer
abbrev Explains : List ℕ → Answered ℕ Refusal → Holders → Type 0
Explains text r held = (listed held ≡ filling_of text) × ((k q : ℕ) → r ≡ Err (StaffFull k q) → Five (listed held))

-- question 8 is that of a full staff alone
pub eight : (r : Refusal) → number_of r ≡ 8 → (k : ℕ) × ((q : ℕ) × (r ≡ StaffFull k q))
eight (TooLong n) e = absurd (omega arith)
eight (NotUtf8 n) e = absurd (omega arith)
eight (NotExclusive k) e = absurd (omega arith)
eight (ManyColumns k n) e = absurd (omega arith)
eight (NoKern k) e = absurd (omega arith)
eight (UnevenText k n) e = absurd (omega arith)
eight (MixedText k) e = absurd (omega arith)
eight (StaffFull k q) e = (k, (q, refl))
eight (ManySpines k n) e = absurd (omega arith)
eight (ManyNotes k) e = absurd (omega arith)
eight NoHeader e = absurd (omega arith)
eight NoNote e = absurd (omega arith)
eight (ShortBuffer n) e = absurd (omega arith)
eight (MixedJoin k c) e = absurd (omega arith)

-- no refusal with 8
text_other : (text old : List ℕ) (a : ℕ × ℕ × ℕ) → a ≡ answer_of text old → (a.0 ≡ 8 → ⊥) → (k q : ℕ) → read_text text ≡ refusal 8 k q → ⊥
unfolding answer_of
text_other text old a e n k q is = n (ap (λ (x : ℕ × ℕ × ℕ). x.0) (e ∙ ap (λ (x : Answer). answered x (length old)) is))

module _ (text old : List ℕ) {r : Answered ℕ Refusal} (p : numbers_of r ≡ answer_of text old) where
  full : {k q : ℕ} → r ≡ Err (StaffFull k q) → Filled text k q
  full {k} {q} is = filled text k q (from_answer text old 8 k q (inl refl) (sym p ∙ ap numbers_of is))

  -- a text that isn't refused with 8
  other : ((k q : ℕ) → r ≡ Err (StaffFull k q) → ⊥) → (a : Answered ℕ Refusal) → r ≡ a → (numbers_of a).0 ≡ 8 → ⊥
  other n (Ok m) is e = omega arith
  other n (Err f) is e = let x = eight f e in n x.0 x.1.0 (is ∙ ap Err x.1.1)

  explains_none : (held : Holders) → ((k q : ℕ) → r ≡ Err (StaffFull k q) → ⊥) → listed held ≡ [] → Explains text r held
  explains_none held n w = (w ∙ sym (filling_none text (text_other text old (numbers_of r) p (other n r refl))), λ k q x. absurd (n k q x))

  pub explains_accepted : {n : ℕ} (held : Holders) → r ≡ Ok n → listed held ≡ [] → Explains text r held
  explains_accepted {n} held is e = explains_none held (λ k q x. clash (let y : Ok n ≡ Err (StaffFull k q) = sym is ∙ x in cc)) e

  pub explains_refused : {f : Refusal} (held : Holders) → r ≡ Err f → ((k q : ℕ) → f ≡ StaffFull k q → listed held ≡ walked_at text k q)
      → (((k q : ℕ) → f ≡ StaffFull k q → ⊥) → listed held ≡ []) → Explains text (Err f) held
  explains_refused {f} held is w n = subst (λ (a : Answered ℕ Refusal). Explains text a held) is (go (eqb (number_of f) 8) refl)
    where
      go : (b : Bool) → eqb (number_of f) 8 ≡ b → Explains text r held
      go true e =
          let x = eight f (eqb-true (number_of f) 8 e) in
          let t : Filled text x.0 x.1.0 = full (is ∙ ap Err x.1.1) in
          let same : listed held ≡ filling_of text = w x.0 x.1.0 x.1.1 ∙ t.same in
          (same, λ k q y. rw same t.five)
      go false e =
          let no : (k q : ℕ) → f ≡ StaffFull k q → ⊥ = λ k q y. false≢true (sym e ∙ ap (λ (g : Refusal). eqb (number_of g) 8) y) in
          explains_none held (λ k q y. no k q (let z : Err f ≡ Err (StaffFull k q) = sym is ∙ y in cc)) (n no)
