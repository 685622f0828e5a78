-- Questions 17 and 8, over the whole text: a star record reached behind the header is refused with 17 exactly where a run of `*v` mixes origins, and
-- else with 8 exactly where a part would hold over four lines.
use Rattle.std.proofs.Common.{Ok}
use Prim.Native.Nat.{ℕ, suc, ◌+◌, ◌<◌, ◌≤◌}
use native.Mathlib.Omega.{arith}
use mathlib.Core.Bool.{Bool, true, false, cond, ◌||◌}
use mathlib.Core.List.{List, [], ◌∷◌, ◌++◌, map}
use mathlib.Core.Logic.{◌↔◌, inl, inr}
use mathlib.Core.Option.{Option, some}
use mathlib.Core.Path.{◌≡◌, refl, sym, ap, ap₂, subst, ◌∙◌}
use lib.Dec.{eqb, leb}
use lib.ListN.{length}
use borrow.Author.Tests.{le-leb, eq-eqb, leb-true, eqb-true}
use Rattle.slices.proofs.TestLaws.{clash}
use Rattle.lines.specs.Lines.{lines_of, without_crs, kind_of}
use Rattle.lines.specs.Tokens.{tokens_of}
use Rattle.lines.specs.declared.Kind.TheVariants.{Star}
use Rattle.utf8.specs.Utf8.{utf8_length}
use Rattle.repair.specs.Record.{record_of}
use Rattle.repair.specs.Repair.{repaired, repaired_of}
use Rattle.repair.specs.declared.Repair.{Repair}
use Rattle.repair.proofs.WidthLaws.{even_width, record_tokens_lem}
use Rattle.paths.specs.Demand.{At, Fits}
use Rattle.paths.specs.Record.{Rec, star, tokens}
use Rattle.paths.specs.Text.{Reading, reached, ended, refused as row_refusal, reading, read_to}
use Rattle.paths.specs.Token.{path_token}
use Rattle.paths.specs.Trace.{columns, lines, FirstWithout, Unmixed, FirstMixed}
use Rattle.paths.specs.Voices.{step_row}
use Rattle.paths.proofs.Demand.{demand}
use Rattle.sheet.specs.Record.{Record}
use Rattle.reading.specs.State.{State, Step, refused, goes, ends, start}
use Rattle.reading.specs.Records.{read_line}
use Rattle.reading.specs.Text.{Answer, refusal, accepted, finish, read_lines, read_text, sheet_bytes, answered, answer_of}
use Rattle.account.specs.Rows.{Numbered, is_record, records_from, records_of, header_in, header_of, paths_of}
use Rattle.account.specs.Reached.{Place, where_goes, place_after, ReachedStar, later_among, Question17, Question8}
use Rattle.account.proofs.RowLaws.{Follows, follows_first, reads_on, kind_star}
use Rattle.account.proofs.LineLaws.{records_some, carry_on, read_line_lem, paths_in}
use Rattle.account.proofs.PlaceLaws.{PlacedAt, place_line, place_start}
use Rattle.account.proofs.RefusalLaws.{star_reading, StarStopped, OfRow, Stops, line_stops, StarIs, star_is}

-- ---- the line that question 17 or 8 stops

-- no other number is theirs
not_theirs : (n w : ℕ) → OfRow w → n ≡ w → (n ≡ 8 → ⊥) → (n ≡ 17 → ⊥) → ⊥
not_theirs n w (inl x) e a b = a (e ∙ x)
not_theirs n w (inr x) e a b = b (e ∙ x)

finish_passes : (begun : Bool) (before : List Record) (st : State) (w m q : ℕ) → OfRow w → finish begun before st ≡ refusal w m q → ⊥
unfolding finish
finish_passes begun before st w m q x = go begun (eqb st.notes 0) _ _ _
  where
    go : (b few : Bool) (a c : ℕ) (rs : List Record) → cond b (cond few (refusal 12 0 0) (accepted a c rs)) (refusal 11 0 0) ≡ refusal w m q → ⊥
    go true true a c rs e = not_theirs 12 w x (cc) (λ z. omega arith) (λ z. omega arith)
    go true false a c rs e = clash cc
    go false few a c rs e = not_theirs 11 w x (cc) (λ z. omega arith) (λ z. omega arith)

-- lines refused on line m with question w: those before it are passed, and it is a star record that w stops
pub record StoppedAt (begun : Bool) (k offset : ℕ) (st : State) (ls : List (List ℕ)) (w m q : ℕ) : Type 0 where
  pub before : List (List ℕ)
  pub here : List ℕ
  pub rest : List (List ℕ)
  pub cut : ls ≡ before ++ (here ∷ rest)
  pub state : State
  pub reached : place_after begun k offset st before ≡ some (record { begun = true; state = state })
  pub stops_there : StarStopped true (without_crs here) state w q
  pub number : m ≡ k + length before + 1

abbrev StopsFrom : ℕ → ℕ → List (List ℕ) → Type 0
StopsFrom k offset ls = (begun : Bool) (before : List Record) (st : State) (w m q : ℕ) → OfRow w → read_lines begun k offset before st ls ≡ refusal w m q
    → StoppedAt begun k offset st ls w m q

stopped_line : (k offset : ℕ) (l : List ℕ) (ls : List (List ℕ)) → StopsFrom (k + 1) (offset + length l + 1) ls → StopsFrom k offset (l ∷ ls)
unfolding place_after
stopped_line k offset l ls later begun before st w m q x e =
    go (read_line begun (k + 1) offset (without_crs l) st) refl (line_stops (k + 1) offset (without_crs l) st begun) (sym (read_line_lem begun k offset before st l ls) ∙ e)
  where
    here : (b : Bool) → b ≡ true → ◌≡◌ {A = Option Place} (some (record { begun = b; state = st })) (some (record { begun = true; state = st }))
    here b e = rw e

    go : (s : Step) → read_line begun (k + 1) offset (without_crs l) st ≡ s → Stops (k + 1) (StarStopped begun (without_crs l) st) s
        → carry_on (begun || is_record (kind_of (without_crs l))) (k + 1) (offset + length l + 1) before ls s ≡ refusal w m q → StoppedAt begun k offset st (l ∷ ls) w m q
    go (refused n i f) r (a, (y, b)) e =
        let number : n ≡ w = cc in
        let line : i ≡ m = cc in
        let figure : f ≡ q = cc in
        let v : StarStopped begun (without_crs l) st w q = rw (number, figure) at (b (rw number x)) in
        record {
          before = [];
          here = l;
          rest = ls;
          cut = refl;
          state = st;
          reached = here begun v.behind_header;
          stops_there = subst (λ (b : Bool). StarStopped b (without_crs l) st w q) v.behind_header v;
          number = omega arith;
        }
    go (goes r) i s e =
        let t : StoppedAt (begun || is_record (kind_of (without_crs l))) (k + 1) (offset + length l + 1) r.state ls w m q = later (begun || is_record (kind_of (without_crs l))) (before ++ r.records) r.state w m q x e in
        record {
          before = l ∷ t.before;
          here = t.here;
          rest = t.rest;
          cut = ap (λ (ls : List (List ℕ)). l ∷ ls) t.cut;
          state = t.state;
          reached = place_line begun k offset st l t.before ∙ ap (λ (s : Step). where_goes s (λ (s : State). place_after (begun || is_record (kind_of (without_crs l))) (k + 1) (offset + length l + 1) s t.before)) i ∙ t.reached;
          stops_there = t.stops_there;
          number = omega (arith, t.number);
        }
    go (ends r) i s e = absurd (finish_passes true (before ++ r.records) r.state w m q x e)

pub stopped : (k offset : ℕ) (ls : List (List ℕ)) → StopsFrom k offset ls
unfolding read_lines
stopped k offset [] = λ begun before st w m q x e. absurd (finish_passes begun before st w m q x e)
stopped k offset (l ∷ ls) = stopped_line k offset l ls (stopped (k + 1) (offset + length l + 1) ls)

-- ---- a star record that is reached

module _ (h : List Bool) (recs : ℕ → Rec) (n : ℕ) (st : State) (bytes : List ℕ) (at : At h recs n st.row) (first : recs n ≡ record_of (length st.row) bytes)
    (is_star_lem : kind_of bytes ≡ Star) (some_spine : 0 < length st.row) (p : Repair) (even : repaired_of (length st.row) (tokens_of bytes) ≡ Ok p) where
  abbrev star_tokens : List (List ℕ)
  star_tokens = repaired (length st.row) (tokens_of bytes)

  star_next : read_to h recs (suc n) ≡ reading (step_row st.row (map path_token star_tokens))
  star_next = rw is_star_lem at (reads_on h recs n st.row at bytes some_spine (rw is_star_lem) even first)

  star_paths : recs n ≡ star (map path_token star_tokens)
  unfolding record_of
  star_paths = first ∙ rw (kind_star bytes (rw is_star_lem), is_star_lem)

  star_fits : Fits h recs n
  star_fits =
      let size : length st.row ≡ columns h recs n = (demand h recs).size n st.row at in
      (omega arith, ap tokens first ∙ record_tokens_lem (length st.row) bytes ∙ even_width (length st.row) (tokens_of bytes) even ∙ size)

-- ---- the whole text

text_lines : (text : List ℕ) → length text ≤ 67108864 → utf8_length text ≡ length text → read_text text ≡ read_lines false 0 0 [] start (lines_of text)
unfolding read_text
text_lines text l e = rw (le-leb (length text) 67108864 l, eq-eqb (utf8_length text) (length text) e)

text_stopped : (text : List ℕ) (w m q : ℕ) → OfRow w → read_text text ≡ refusal w m q
    → (length text ≤ 67108864) × (utf8_length text ≡ length text) × StoppedAt false 0 0 start (lines_of text) w m q
unfolding read_text
text_stopped text w m q o = go (leb (length text) 67108864) (eqb (utf8_length text) (length text)) refl refl
  where
    go : (a b : Bool) → leb (length text) 67108864 ≡ a → eqb (utf8_length text) (length text) ≡ b
        → cond a (cond b (read_lines false 0 0 [] start (lines_of text)) (refusal 2 0 (utf8_length text))) (refusal 1 0 (length text)) ≡ refusal w m q
        → (length text ≤ 67108864) × (utf8_length text ≡ length text) × StoppedAt false 0 0 start (lines_of text) w m q
    go true true x y e = (leb-true (length text) 67108864 x, eqb-true (utf8_length text) (length text) y, stopped 0 0 (lines_of text) false [] start w m q o e)
    go true false x y e = absurd (not_theirs 2 w o (cc) (λ z. omega arith) (λ z. omega arith))
    go false b x y e = absurd (not_theirs 1 w o (cc) (λ z. omega arith) (λ z. omega arith))

module _ (text : List ℕ) (before : List (List ℕ)) (here : List ℕ) (rest : List (List ℕ)) (there : ReachedStar text before here rest) where
  placed : PlacedAt (header_of text) (paths_of text) (later_among before) there.state (length before) (here ∷ rest) (read_text text)
  unfolding records_of paths_of
  placed =
      let z : 0 + length before ≡ length before = omega arith in
      rw (text_lines text there.short there.well_formed)
      (subst (λ (k : ℕ). PlacedAt (header_of text) (paths_of text) (later_among before) there.state k (here ∷ rest) (read_lines false 0 0 [] start (lines_of text))) z
      (subst (λ (ls : List (List ℕ)). PlacedAt (header_in (records_from 0 ls)) (paths_in (records_from 0 ls)) (later_among before) there.state (0 + length before) (here ∷ rest) (read_lines false 0 0 [] start ls)) (sym there.cut)
      (place_start (here ∷ rest) there.state 0 0 before [] start there.reached)))

  follows : paths_of text (later_among before) ≡ record_of (length there.state.row) (without_crs here)
  follows = follows_first (subst (λ (rs : List Numbered). Follows (paths_of text) (later_among before) (length there.state.row) rs) (records_some (length before) here rest (rw there.is_star_lem)) placed.stands.follows)

  abbrev row_reading : Reading
  row_reading = star_reading there.state (repaired (length there.state.row) (tokens_of (without_crs here)))

  star_there : StarIs (length before + 1) row_reading (read_line true (length before + 1) placed.offset (without_crs here) there.state)
  star_there = star_is (length before + 1) placed.offset (without_crs here) there.state there.repair there.is_star_lem there.some_spine there.even

  answers : read_text text
      ≡ carry_on true (length before + 1) (placed.offset + length here + 1) placed.before rest
      (read_line true (length before + 1) placed.offset (without_crs here) there.state)
  answers = placed.reads ∙ read_line_lem true (length before) placed.offset placed.before there.state here rest

  row_next : read_to (header_of text) (paths_of text) (suc (later_among before)) ≡ row_reading
  row_next = star_next (header_of text) (paths_of text) (later_among before) there.state (without_crs here) placed.stands.at follows there.is_star_lem there.some_spine there.repair there.even

  paths_there : paths_of text (later_among before) ≡ star (map path_token (repaired (length there.state.row) (tokens_of (without_crs here))))
  paths_there = star_paths (header_of text) (paths_of text) (later_among before) there.state (without_crs here) placed.stands.at follows there.is_star_lem there.some_spine there.repair there.even

  fits_there : Fits (header_of text) (paths_of text) (later_among before)
  fits_there = star_fits (header_of text) (paths_of text) (later_among before) there.state (without_crs here) placed.stands.at follows there.is_star_lem there.some_spine there.repair there.even

  -- refused with 17 or 8 on this line, the row is refused so
  refused_row : (w q : ℕ) → OfRow w → read_text text ≡ refusal w (length before + 1) q → read_to (header_of text) (paths_of text) (suc (later_among before)) ≡ row_refusal w q
  refused_row w q x e = row_next ∙ go row_reading star_there
    where
      go : (o : Reading) → StarIs (length before + 1) o (read_line true (length before + 1) placed.offset (without_crs here) there.state) → o ≡ row_refusal w q
      go (reached row) (u, i) =
          let s : StoppedAt true (length before + 1) (placed.offset + length here + 1) u.state rest w (length before + 1) q =
          stopped (length before + 1) (placed.offset + length here + 1) rest true (placed.before ++ u.records) u.state w (length before + 1) q x
          (sym (answers ∙ ap (carry_on true (length before + 1) (placed.offset + length here + 1) placed.before rest) i) ∙ e) in
          absurd (omega (arith, s.number))
      go ended i = absurd i
      go (row_refusal n f) i =
          let r : refusal n (length before + 1) f ≡ refusal w (length before + 1) q =
          sym (answers ∙ ap (carry_on true (length before + 1) (placed.offset + length here + 1) placed.before rest) i) ∙ e in
          let number : n ≡ w = cc in
          let figure : f ≡ q = cc in
          ap₂ row_refusal number figure

  -- and the other way
  row_refused : (w q : ℕ) → read_to (header_of text) (paths_of text) (suc (later_among before)) ≡ row_refusal w q → read_text text ≡ refusal w (length before + 1) q
  row_refused w q e = answers ∙ ap (carry_on true (length before + 1) (placed.offset + length here + 1) placed.before rest)
      (subst (λ (o : Reading). StarIs (length before + 1) o (read_line true (length before + 1) placed.offset (without_crs here) there.state)) (sym row_next ∙ e) star_there)

  mixed_there : (f : ℕ) → (read_text text ≡ refusal 17 (length before + 1) f) ↔ FirstMixed (header_of text) (paths_of text) (later_among before) f
  mixed_there f = (λ e. question.0 (refused_row 17 f (inr refl) e), λ m. row_refused 17 f (question.1 m))
    where
      question : (read_to (header_of text) (paths_of text) (suc (later_among before)) ≡ row_refusal 17 f) ↔ FirstMixed (header_of text) (paths_of text) (later_among before) f
      question = (demand (header_of text) (paths_of text)).question_17 (later_among before) there.state.row placed.stands.at fits_there _ paths_there f

  voiceless_there : Unmixed (header_of text) (paths_of text) (later_among before)
      → ((q : ℕ) × (read_text text ≡ refusal 8 (length before + 1) q)) ↔ ((p : ℕ) × (4 < lines (header_of text) (paths_of text) (suc (later_among before)) p))
  voiceless_there u = (λ e. question.0 (e.0, refused_row 8 e.0 (inl refl) e.1), λ p. back (question.1 p))
    where
      question : ((q : ℕ) × (read_to (header_of text) (paths_of text) (suc (later_among before)) ≡ row_refusal 8 q))
          ↔ ((p : ℕ) × (4 < lines (header_of text) (paths_of text) (suc (later_among before)) p))
      question = (demand (header_of text) (paths_of text)).question_8 (later_among before) there.state.row placed.stands.at fits_there _ paths_there u

      back : (q : ℕ) × (read_to (header_of text) (paths_of text) (suc (later_among before)) ≡ row_refusal 8 q) → (q : ℕ) × (read_text text ≡ refusal 8 (length before + 1) q)
      back r = (r.0, row_refused 8 r.0 r.1)

  named_there : (q : ℕ) → row_reading ≡ row_refusal 8 q
      → Unmixed (header_of text) (paths_of text) (later_among before) × FirstWithout (header_of text) (paths_of text) (later_among before) q
  named_there q e = (
    (demand (header_of text) (paths_of text)).unmixed_8 (later_among before) there.state.row placed.stands.at q (row_next ∙ e),
    (demand (header_of text) (paths_of text)).names (later_among before) there.state.row placed.stands.at q (row_next ∙ e),
  )

-- a record that is refused with 17 or 8 is a star record that is reached
record Reaches (text : List ℕ) (w k q : ℕ) : Type 0 where
  before : List (List ℕ)
  here : List ℕ
  rest : List (List ℕ)
  there : ReachedStar text before here rest
  number : k ≡ length before + 1
  stops : star_reading there.state (repaired (length there.state.row) (tokens_of (without_crs here))) ≡ row_refusal w q

reaches : (text : List ℕ) (w k q : ℕ) → OfRow w → read_text text ≡ refusal w k q → Reaches text w k q
reaches text w k q x e =
    let t : (length text ≤ 67108864) × (utf8_length text ≡ length text) × StoppedAt false 0 0 start (lines_of text) w k q = text_stopped text w k q x e in
    let s : StoppedAt false 0 0 start (lines_of text) w k q = t.2 in
    let v : StarStopped true (without_crs s.here) s.state w q = s.stops_there in
    record {
      before = s.before;
      here = s.here;
      rest = s.rest;
      there = record {
        short = t.0;
        well_formed = t.1;
        cut = s.cut;
        state = s.state;
        reached = s.reached;
        is_star_lem = v.is_star_lem;
        some_spine = v.some_spine;
        repair = v.repair;
        even = v.even;
      };
      number = omega (arith, s.number);
      stops = v.stops;
    }

-- ---- the answer

-- an answer with the number of either question is that of a refusal with it
refused_so : (a : Answer) (room w k f : ℕ) → OfRow w → answered a room ≡ (w, k, f) → a ≡ refusal w k f
refused_so (refusal n l g) room w k f o e =
    let number : n ≡ w = ap (λ (x : ℕ × ℕ × ℕ). x.0) e in
    let line : l ≡ k = ap (λ (x : ℕ × ℕ × ℕ). x.1) e in
    let figure : g ≡ f = ap (λ (x : ℕ × ℕ × ℕ). x.2) e in
    rw (number, line, figure)
refused_so (accepted parts notes rs) room w k f o e = go (leb (length (sheet_bytes parts notes rs)) room) e
  where
    go : (b : Bool) → ◌≡◌ {A = ℕ × ℕ × ℕ} (cond b (0, 0, length (sheet_bytes parts notes rs)) (13, 0, length (sheet_bytes parts notes rs))) (w, k, f)
        → ◌≡◌ {A = Answer} (accepted parts notes rs) (refusal w k f)
    go true x = let z : 0 ≡ w = ap (λ (y : ℕ × ℕ × ℕ). y.0) x in absurd (not_theirs 0 w o z (λ y. omega arith) (λ y. omega arith))
    go false x = let z : 13 ≡ w = ap (λ (y : ℕ × ℕ × ℕ). y.0) x in absurd (not_theirs 13 w o z (λ y. omega arith) (λ y. omega arith))

module _ (text old : List ℕ) (w k f : ℕ) where
  pub from_answer : OfRow w → answer_of text old ≡ (w, k, f) → read_text text ≡ refusal w k f
  unfolding answer_of
  from_answer o e = refused_so (read_text text) (length old) w k f o e

  to_answer : read_text text ≡ refusal w k f → answer_of text old ≡ (w, k, f)
  unfolding answer_of
  to_answer e = rw e

-- "a run of `*v` mixes origins": question 17, of the answer
pub question_17 : (text old : List ℕ) → Question17 text (answer_of text old)
question_17 text old = record {
  exactly = λ before rest here there f.
      let m = mixed_there text before here rest there f in
      (λ e. m.0 (from_answer text old 17 (length before + 1) f (inr refl) e), λ x. to_answer text old 17 (length before + 1) f (m.1 x));
  only = λ k f e.
      let r : Reaches text 17 k f = reaches text 17 k f (inr refl) (from_answer text old 17 k f (inr refl) e) in
      (r.before, r.here, r.rest, r.there, r.number);
}

-- a text that is refused with 8
pub refused_with_8 : (text : List ℕ) (k q : ℕ) → read_text text ≡ refusal 8 k q →
    (before : List (List ℕ)) × (here : List ℕ) × (rest : List (List ℕ)) × ReachedStar text before here rest × (k ≡ length before + 1)
    × Unmixed (header_of text) (paths_of text) (later_among before) × FirstWithout (header_of text) (paths_of text) (later_among before) q
refused_with_8 text k q e =
    let r : Reaches text 8 k q = reaches text 8 k q (inl refl) e in
    let n : Unmixed (header_of text) (paths_of text) (later_among r.before) × FirstWithout (header_of text) (paths_of text) (later_among r.before) q =
    named_there text r.before r.here r.rest r.there q r.stops in
    (r.before, r.here, r.rest, r.there, r.number, n.0, n.1)

-- "A part would hold over four lines": question 8, of the answer
pub question_8 : (text old : List ℕ) → Question8 text (answer_of text old)
question_8 text old = record {
  exactly = λ before rest here there u.
      let v = voiceless_there text before here rest there u in
      (λ e. v.0 (e.0, from_answer text old 8 (length before + 1) e.0 (inl refl) e.1), λ p. let r = v.1 p in (r.0, to_answer text old 8 (length before + 1) r.0 r.1));
  only = λ k q e. refused_with_8 text k q (from_answer text old 8 k q (inl refl) e);
}
