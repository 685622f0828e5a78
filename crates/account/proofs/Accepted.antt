-- Demand 3: the NOTEs of an accepted text are its note tokens, one by one, over the whole text.
use Prim.Native.Nat.{ℕ, ◌+◌}
use native.Mathlib.Omega.{arith}
use mathlib.Core.Bool.{Bool, true, false, cond}
use mathlib.Core.List.{List, [], ◌∷◌, ◌++◌, map, reverse, append-nil, append_assoc}
use mathlib.Core.Path.{◌≡◌, refl, sym, ap, ◌∙◌}
use lib.Dec.{eqb, leb}
use lib.ListN.{length, length-append}
use Rattle.slices.proofs.TestLaws.{clash}
use Rattle.lines.specs.Lines.{lines_of, without_crs, kind_of}
use Rattle.utf8.specs.Utf8.{utf8_length}
use Rattle.paths.specs.Record.{Rec}
use Rattle.paths.specs.Trace.{part}
use Rattle.paths.specs.TracedVoice.{voice}
use Rattle.sheet.specs.Player.{notes_of}
use Rattle.sheet.specs.Record.{Record}
use Rattle.reading.specs.State.{State, Result, Step, refused, goes, ends, start}
use Rattle.reading.specs.declared.Part.{Part}
use Rattle.reading.specs.Notices.{quiet}
use Rattle.reading.specs.Bars.{any_noted, closing}
use Rattle.reading.specs.Records.{read_line, on_record}
use Rattle.reading.specs.Text.{refusal, accepted, part_record, end_record, last_closing, last_records, finish, read_lines, read_text}
use Rattle.account.specs.Rows.{Numbered, is_record, records_from, records_of, header_in, header_of, later_in, paths_of, taken_from, taken_of}
use Rattle.account.specs.Account.{Item, account_from, account_by, account}
use Rattle.account.specs.Agree.{Agree, both_end}
use Rattle.account.proofs.ResultLaws.{Adds, notes_append, agree_notes}
use Rattle.account.proofs.RecordLaws.{Stands, rest, OnRows, closes}
use Rattle.account.proofs.LineLaws.{record_at, records_some, records_none, other_line, record_line, carry_on, read_line_lem, Passed, passed, Last, passed_last, counted, paths_in, Begins, begins, header_last}

-- the notes that a text comes to, and their number
pub record Played (items : List Item) (notes : ℕ) (rs : List Record) : Type 0 where
  pub agree : Agree (notes_of rs) items
  pub count : notes ≡ length items

silent : Agree (notes_of []) []
unfolding notes_of
silent = both_end

-- ---- the end

parts_silent : (ps : List Part) → notes_of (map part_record ps) ≡ []
unfolding notes_of
parts_silent [] = refl
parts_silent (p ∷ ps) = parts_silent ps

last_silent : (st : State) → notes_of (last_records st) ≡ []
unfolding last_records notes_of
last_silent st = notes_append (map part_record (reverse st.parts)) (end_record st ∷ []) ∙ rw (parts_silent (reverse st.parts))

closing_silent : (st : State) → notes_of (last_closing st).records ≡ []
unfolding last_closing notes_of
closing_silent st = go (any_noted st.parts) refl
  where
    go : (b : Bool) → any_noted st.parts ≡ b → notes_of (cond b (closing 0 0 st) (quiet st)).records ≡ []
    go true e = (closes 0 0 st e).silent
    go false e = refl

pub finish_played : (begun : Bool) (before : List Record) (st : State) {items : List Item} {parts notes : ℕ} {rs : List Record}
    → Agree (notes_of before) items → st.notes ≡ length items
    → finish begun before st ≡ accepted parts notes rs → Played items notes rs
unfolding finish
finish_played begun before st {items} {parts} {notes} {rs} a c = go begun (eqb st.notes 0)
  where
    tail : List Record
    tail = (last_closing st).records ++ last_records (last_closing st).state

    silent : notes_of (before ++ tail) ≡ notes_of before
    silent =
        notes_append before tail
        ∙ ap (λ (l : List _). notes_of before ++ l) (notes_append (last_closing st).records (last_records (last_closing st).state))
        ∙ rw (closing_silent st, last_silent (last_closing st).state) (append-nil (notes_of before))

    go : (b none : Bool) → cond b (cond none (refusal 12 0 0) (accepted (length st.parts) st.notes (before ++ tail))) (refusal 11 0 0) ≡ accepted parts notes rs
        → Played items notes rs
    go true true e = clash cc
    go true false e =
        let same : before ++ tail ≡ rs = cc in
        let many : st.notes ≡ notes = cc in
        record { agree = rw (← same, silent) a; count = sym many ∙ c }
    go false none e = clash cc

-- ---- the lines behind the header

module _ (h : List Bool) (recs : ℕ → Rec) (parts notes : ℕ) (rs : List Record) where
  -- the reading from these lines on plays what the text says from there on, behind what was played, and each taken record stands over a row
  abbrev Whole : ℕ → State → List Item → List Numbered → Type 0
  Whole n st done later = Played (done ++ rest h recs n st later) notes rs × OnRows h recs n (taken_from (length st.row) later)

  abbrev FromHere : ℕ → ℕ → List (List ℕ) → Type 0
  FromHere k offset ls = (n : ℕ) (before : List Record) (st : State) (done : List Item) → Stands h recs n st (records_from k ls)
      → Agree (notes_of before) done → st.notes ≡ length done → read_lines true k offset before st ls ≡ accepted parts notes rs → Whole n st done (records_from k ls)

  one_line : (k offset : ℕ) (l : List ℕ) (ls : List (List ℕ)) → FromHere (k + 1) (offset + length l + 1) ls → FromHere k offset (l ∷ ls)
  one_line k offset l ls later n before st done here a c e =
      go (read_line true (k + 1) offset (without_crs l) st) refl (sym (read_line_lem true k offset before st l ls) ∙ e)
    where
      go : (s : Step) → read_line true (k + 1) offset (without_crs l) st ≡ s
          → carry_on true (k + 1) (offset + length l + 1) before ls s ≡ accepted parts notes rs → Whole n st done (records_from k (l ∷ ls))
      go (refused q m f) i e = clash cc
      go (goes r) i e =
          let p : Passed h recs n k st l ls r = passed h recs n k offset st l ls r here i in
          let many : r.state.notes ≡ length (done ++ p.items) = omega (arith, p.notes, length-append done p.items) in
          let w : Whole (counted l n) r.state (done ++ p.items) (records_from (k + 1) ls) =
          later (counted l n) (before ++ r.records) r.state (done ++ p.items) p.stands (agree_notes before r.records a p.agree) many e in
          (rw (p.rest_is, ← append_assoc done p.items (rest h recs (counted l n) r.state (records_from (k + 1) ls))) w.0, p.rows w.1)
      go (ends r) i e =
          let p : Last h recs n k offset st l ls r here = passed_last h recs n k offset st l ls r here i in
          let many : r.state.notes ≡ length (done ++ []) = omega (arith, p.0.notes, length-append {A = Item} done []) in
          (rw p.1 (finish_played true (before ++ r.records) r.state (agree_notes before r.records a p.0.agree) many e), p.2)

  pub lines_played : (k offset : ℕ) (ls : List (List ℕ)) → FromHere k offset ls
  unfolding read_lines records_from taken_from account_from
  lines_played k offset [] = λ n before st done here a c e. (rw append-nil (finish_played true before st a c e), tt)
  lines_played k offset (l ∷ ls) = one_line k offset l ls (lines_played (k + 1) (offset + length l + 1) ls)

-- ---- the lines before it

abbrev pub account_in : List Numbered → List Item
account_in rs =
    account_from (part (header_in rs) (paths_in rs)) (voice (header_in rs) (paths_in rs)) 0 0 false (taken_from (length (header_in rs)) (later_in rs))

abbrev pub rows_in : List Numbered → Type 0
rows_in rs = OnRows (header_in rs) (paths_in rs) 0 (taken_from (length (header_in rs)) (later_in rs))

module _ (parts notes : ℕ) (rs : List Record) where
  abbrev WholeText : List Numbered → Type 0
  WholeText numbered = Played (account_in numbered) notes rs × rows_in numbered

  abbrev FromStart : ℕ → ℕ → List (List ℕ) → Type 0
  FromStart k offset ls = (before : List Record) (st : State) → Agree (notes_of before) [] → st.bars ≡ 0 → st.notes ≡ 0
      → read_lines false k offset before st ls ≡ accepted parts notes rs → WholeText (records_from k ls)

  first_line : (k offset : ℕ) (l : List ℕ) (ls : List (List ℕ)) → FromStart (k + 1) (offset + length l + 1) ls → FromStart k offset (l ∷ ls)
  first_line k offset l ls later before st a b c e = by_kind_lem (is_record (kind_of (without_crs l))) refl (sym (read_line_lem false k offset before st l ls) ∙ e)
    where
      x : Numbered
      x = record_at k l ls

      header : (s : Step) → on_record false (k + 1) offset (without_crs l) st ≡ s
          → carry_on true (k + 1) (offset + length l + 1) before ls s ≡ accepted parts notes rs → WholeText (x ∷ records_from (k + 1) ls)
      header (refused q m f) i e = clash cc
      header (goes r) i e =
          let g : Begins x (records_from (k + 1) ls) st r = begins x (records_from (k + 1) ls) offset st r i in
          let none : r.state.bars ≡ 0 = g.bars ∙ b in
          rw (g.row_size, g.noted, none) at
          (lines_played (header_in (x ∷ records_from (k + 1) ls)) (paths_in (x ∷ records_from (k + 1) ls)) parts notes rs
          (k + 1) (offset + length l + 1) ls 0 (before ++ r.records) r.state [] g.stands (agree_notes before r.records a g.agree) (g.notes ∙ c) e)
      header (ends r) i e = absurd (header_last x (records_from (k + 1) ls) offset st r i)

      by_kind_lem : (t : Bool) → is_record (kind_of (without_crs l)) ≡ t
          → carry_on (is_record (kind_of (without_crs l))) (k + 1) (offset + length l + 1) before ls
          (read_line false (k + 1) offset (without_crs l) st) ≡ accepted parts notes rs
          → WholeText (records_from k (l ∷ ls))
      by_kind_lem true i e = rw (records_some k l ls i)
          (header (on_record false (k + 1) offset (without_crs l) st) refl (rw (i, record_line false (k + 1) offset (without_crs l) st i) at e))
      by_kind_lem false i e =
          let o : (r : Result) × (read_line false (k + 1) offset (without_crs l) st ≡ goes r) × Adds st r [] = other_line false (k + 1) offset (without_crs l) st i in
          let many : o.0.state.notes ≡ 0 = omega (arith, o.2.notes) in
          rw (records_none k l ls i)
          (later (before ++ o.0.records) o.0.state (agree_notes before o.0.records a o.2.agree) (o.2.bars ∙ b) many (rw (i, o.1) at e))

  pub text_played : (k offset : ℕ) (ls : List (List ℕ)) → FromStart k offset ls
  unfolding read_lines finish
  text_played k offset [] = λ before st a b c e. clash cc
  text_played k offset (l ∷ ls) = first_line k offset l ls (text_played (k + 1) (offset + length l + 1) ls)

-- "In an accepted text's sheet there are as many NOTEs .. as taken records have note tokens. The k-th NOTE has the part, voice, bar, line, column,
-- pitches and length of the k-th note token": one claim over the whole text
pub record Accounted (text : List ℕ) (notes : ℕ) (rs : List Record) : Type 0 where
  pub agree : Agree (notes_of rs) (account text)
  pub count : notes ≡ length (account text)
  -- each taken record stands over a row that the paths reach
  pub rows : OnRows (header_of text) (paths_of text) 0 (taken_of text)

pub accepted_notes : (text : List ℕ) (parts notes : ℕ) (rs : List Record) → read_text text ≡ accepted parts notes rs → Accounted text notes rs
unfolding read_text account account_by taken_of paths_of records_of
accepted_notes text parts notes rs = go (leb (length text) 67108864) (eqb (utf8_length text) (length text))
  where
    go : (a b : Bool)
        → cond a (cond b (read_lines false 0 0 [] start (lines_of text)) (refusal 2 0 (utf8_length text))) (refusal 1 0 (length text)) ≡ accepted parts notes rs
        → Accounted text notes rs
    go true true e =
        let w : WholeText parts notes rs (records_from 0 (lines_of text)) = text_played parts notes rs 0 0 (lines_of text) [] start silent refl refl e in
        record { agree = w.0.agree; count = w.0.count; rows = w.1 }
    go true false e = clash cc
    go false b e = clash cc
