-- One line of a text: what the reading goes on with, and what the text says from there on.
use Prim.Native.Nat.{ℕ, suc, ◌+◌}
use native.Mathlib.Omega.{arith}
use mathlib.Core.Bool.{Bool, true, false, cond, not, ◌||◌, or-false}
use mathlib.Core.List.{List, [], ◌∷◌, ◌++◌, map}
use mathlib.Core.Path.{◌≡◌, refl, sym, ap, subst, ◌∙◌}
use lib.Dec.{ltb}
use lib.ListN.{length, get_or}
use Rattle.slices.proofs.TestLaws.{clash}
use Rattle.lines.specs.Lines.{without_crs, kind_of}
use Rattle.lines.specs.Tokens.{tokens_of, is_kern, is_exclusive}
use Rattle.lines.specs.declared.Kind.{Kind}
use Rattle.lines.specs.declared.Kind.TheVariants.{Empty, Reference, Comment, Star, Bar, Data}
use Rattle.paths.specs.Record.{Rec, plain}
use Rattle.paths.specs.Text.{header_row, reached, read_to}
use Rattle.paths.specs.Trace.{columns}
use Rattle.paths.proofs.Demand.{demand}
use Rattle.repair.specs.Repair.{each}
use Rattle.sheet.specs.Player.{notes_of}
use Rattle.sheet.specs.Record.{Record}
use Rattle.reading.specs.State.{State, Result, Step, refused, goes, ends, with_row, with_parts}
use Rattle.reading.specs.Notices.{quiet, placed}
use Rattle.reading.specs.Header.{fresh_parts, any_kern, notice_others, read_reference, read_header}
use Rattle.reading.specs.Bars.{any_noted}
use Rattle.reading.specs.Records.{by_line, on_record, read_line, is_record as is_record_read}
use Rattle.reading.specs.Text.{Answer, refusal, finish, read_lines}
use Rattle.account.specs.Rows.{Numbered, is_record, records_from, header_in, later_in, paths_from, taken_from}
use Rattle.account.specs.Account.{Item}
use Rattle.account.specs.Agree.{Agree}
use Rattle.account.proofs.ResultLaws.{Adds, quiet_adds, reference_adds, others_add}
use Rattle.account.proofs.RecordLaws.{Stands, rest, OnRows, Went, went, went_last}
use Rattle.reading.proofs.StateLaws.{fresh_noted}

-- ---- the records among lines

module _ (k : ℕ) (l : List ℕ) (ls : List (List ℕ)) where
  abbrev pub record_at : Numbered
  record_at = record { number = k + 1; bytes = without_crs l }

  pub records_some : is_record (kind_of (without_crs l)) ≡ true → records_from k (l ∷ ls) ≡ record_at ∷ records_from (k + 1) ls
  unfolding records_from
  records_some e = rw e

  pub records_none : is_record (kind_of (without_crs l)) ≡ false → records_from k (l ∷ ls) ≡ records_from (k + 1) ls
  unfolding records_from
  records_none e = rw e

-- a line that is no record adds nothing
pub other_line : (begun : Bool) (k offset : ℕ) (bytes : List ℕ) (st : State) → is_record (kind_of bytes) ≡ false
    → (r : Result) × (read_line begun k offset bytes st ≡ goes r) × Adds st r []
unfolding read_line
other_line begun k offset bytes st = go (kind_of bytes)
  where
    go : (kind : Kind) → is_record kind ≡ false → (r : Result) × (by_line kind begun k offset bytes st ≡ goes r) × Adds st r []
    go Empty i = (quiet st, refl, quiet_adds st)
    go Reference i = (read_reference k offset bytes st, refl, reference_adds k offset bytes st)
    go Comment i = (quiet st, refl, quiet_adds st)
    go Star i = clash cc
    go Bar i = clash cc
    go Data i = clash cc

pub record_line : (begun : Bool) (k offset : ℕ) (bytes : List ℕ) (st : State) → is_record (kind_of bytes) ≡ true
    → read_line begun k offset bytes st ≡ on_record begun k offset bytes st
unfolding read_line
record_line begun k offset bytes st = go (kind_of bytes)
  where
    go : (kind : Kind) → is_record kind ≡ true → by_line kind begun k offset bytes st ≡ on_record begun k offset bytes st
    go Empty i = cc
    go Reference i = cc
    go Comment i = cc
    go Star i = refl
    go Bar i = refl
    go Data i = refl

-- ---- the lines behind one
abbrev pub carry_on : Bool → ℕ → ℕ → List Record → List (List ℕ) → Step → Answer
carry_on begun k offset before ls (refused n m f) = refusal n m f
carry_on begun k offset before ls (goes r) = read_lines begun k offset (before ++ r.records) r.state ls
carry_on begun k offset before ls (ends r) = finish true (before ++ r.records) r.state

pub same_record : (kind : Kind) → is_record_read kind ≡ is_record kind
same_record Empty = refl
same_record Reference = refl
same_record Comment = refl
same_record Star = refl
same_record Bar = refl
same_record Data = refl

pub read_line_lem : (begun : Bool) (k offset : ℕ) (before : List Record) (st : State) (l : List ℕ) (ls : List (List ℕ))
    → read_lines begun k offset before st (l ∷ ls)
    ≡ carry_on (begun || is_record (kind_of (without_crs l))) (k + 1) (offset + length l + 1) before ls (read_line begun (k + 1) offset (without_crs l) st)
unfolding read_lines
read_line_lem begun k offset before st l ls = rw (← same_record (kind_of (without_crs l))) (go (read_line begun (k + 1) offset (without_crs l) st))
  where
    go : (s : Step) → ◌≡◌ {A = Answer} (elim s as (λ x. Answer) [
      | refused n m f ↦ refusal n m f
      | goes r ↦ read_lines (begun || is_record_read (kind_of (without_crs l))) (k + 1) (offset + length l + 1) (before ++ r.records) r.state ls
      | ends r ↦ finish true (before ++ r.records) r.state
    ]) (carry_on (begun || is_record_read (kind_of (without_crs l))) (k + 1) (offset + length l + 1) before ls s)
    go (refused n m f) = refl
    go (goes r) = refl
    go (ends r) = refl

-- ---- a line behind the header

-- how many records were met with this one
abbrev pub counted : List ℕ → ℕ → ℕ
counted l n = cond (is_record (kind_of (without_crs l))) (suc n) n

module _ (h : List Bool) (recs : ℕ → Rec) where
  pub record Passed (n k : ℕ) (st : State) (l : List ℕ) (ls : List (List ℕ)) (r : Result) : Type 0 where
    pub items : List Item
    pub agree : Agree (notes_of r.records) items
    pub notes : r.state.notes ≡ st.notes + length items
    pub stands : Stands h recs (counted l n) r.state (records_from (k + 1) ls)
    pub rest_is : rest h recs n st (records_from k (l ∷ ls)) ≡ items ++ rest h recs (counted l n) r.state (records_from (k + 1) ls)
    pub rows : OnRows h recs (counted l n) (taken_from (length r.state.row) (records_from (k + 1) ls))
        → OnRows h recs n (taken_from (length st.row) (records_from k (l ∷ ls)))

  -- a result that adds nothing leaves the reading where it stands
  pub stands_still : {n : ℕ} {st : State} {rs : List Numbered} (r : Result) → Adds st r [] → Stands h recs n st rs
      → Stands h recs n r.state rs × (rest h recs n r.state rs ≡ rest h recs n st rs)
  stands_still {n} {st} {rs} r a here = (
    record { at = rw a.row here.at; size = a.size ∙ here.size; follows = rw a.row here.follows },
    rw (a.row, a.bars, a.noted, or-false (any_noted st.parts)),
  )

  module _ (n k offset : ℕ) (st : State) (l : List ℕ) (ls : List (List ℕ)) (r : Result) (here : Stands h recs n st (records_from k (l ∷ ls))) where
    pub passed : read_line true (k + 1) offset (without_crs l) st ≡ goes r → Passed n k st l ls r
    passed e = go (is_record (kind_of (without_crs l))) refl
      where
        go : (b : Bool) → is_record (kind_of (without_crs l)) ≡ b → Passed n k st l ls r
        go true i =
            let w : Went h recs n st (record_at k l ls) (records_from (k + 1) ls) r =
            went h recs n st (record_at k l ls) (records_from (k + 1) ls) r (rw (records_some k l ls i) at here) i offset
            (sym (record_line true (k + 1) offset (without_crs l) st i) ∙ e) in
            record {
              items = w.items;
              agree = w.agree;
              notes = w.notes;
              stands = rw i w.stands;
              rest_is = rw (records_some k l ls i, i) w.rest_is;
              rows = rw (records_some k l ls i, i) w.rows;
            }
        go false i =
            let o : (r : Result) × (read_line true (k + 1) offset (without_crs l) st ≡ goes r) × Adds st r [] = other_line true (k + 1) offset (without_crs l) st i in
            let same : o.0 ≡ r = cc in
            let a : Adds st r [] = subst (λ (u : Result). Adds st u []) same o.2 in
            let s : Stands h recs n r.state (records_from (k + 1) ls) × (rest h recs n r.state (records_from (k + 1) ls) ≡ rest h recs n st (records_from (k + 1) ls)) =
            stands_still r a (rw (records_none k l ls i) at here) in
            record {
              items = [];
              agree = a.agree;
              notes = a.notes;
              stands = rw i s.0;
              rest_is = rw (records_none k l ls i, i) (sym s.1);
              rows = rw (records_none k l ls i, i, a.row) (λ rows. rows);
            }

    -- and where the reading ends, nothing is taken any more
    abbrev pub Last : Type 0
    Last = Adds st r [] × (rest h recs n st (records_from k (l ∷ ls)) ≡ []) × OnRows h recs n (taken_from (length st.row) (records_from k (l ∷ ls)))

    pub passed_last : read_line true (k + 1) offset (without_crs l) st ≡ ends r → Last
    passed_last e = go (is_record (kind_of (without_crs l))) refl
      where
        go : (b : Bool) → is_record (kind_of (without_crs l)) ≡ b → Last
        go true i = rw (records_some k l ls i)
            (went_last h recs n st (record_at k l ls) (records_from (k + 1) ls) r (rw (records_some k l ls i) at here) i offset
            (sym (record_line true (k + 1) offset (without_crs l) st i) ∙ e))
        go false i =
            let o : (r : Result) × (read_line true (k + 1) offset (without_crs l) st ≡ goes r) × Adds st r [] = other_line true (k + 1) offset (without_crs l) st i in
            clash cc

-- ---- the header

-- what the records say of paths, the first of them the header
abbrev pub paths_in : List Numbered → ℕ → Rec
paths_in rs n = get_or (paths_from (length (header_in rs)) (later_in rs)) n (plain 0)

-- the header is met: these records, and the state behind it
pub record Begins (x : Numbered) (rs : List Numbered) (st : State) (r : Result) : Type 0 where
  pub agree : Agree (notes_of r.records) []
  pub row : r.state.row ≡ header_row (header_in (x ∷ rs))
  pub row_size : length r.state.row ≡ length (header_in (x ∷ rs))
  pub bars : r.state.bars ≡ st.bars
  pub notes : r.state.notes ≡ st.notes
  pub noted : any_noted r.state.parts ≡ false
  pub stands : Stands (header_in (x ∷ rs)) (paths_in (x ∷ rs)) 0 r.state rs

module _ (x : Numbered) (rs : List Numbered) (offset : ℕ) (st : State) where
  -- the header's columns, the state with its row and parts, and its notices
  abbrev kerns_of : List Bool
  kerns_of = map is_kern (tokens_of x.bytes)

  abbrev headed_state : State
  headed_state = with_parts (with_row st (header_row kerns_of)) (fresh_parts 0 kerns_of)

  abbrev headed_result : Result
  headed_result = notice_others x.number 1 (placed offset (tokens_of x.bytes)) headed_state

  header_begins : Begins x rs st headed_result
  unfolding read_to columns
  header_begins = record {
    agree = a.agree;
    row = a.row;
    row_size = width;
    bars = a.bars;
    notes = omega (arith, a.notes);
    noted = a.noted ∙ or-false (any_noted (fresh_parts 0 kerns_of)) ∙ fresh_noted 0 kerns_of;
    stands = record {
      at = ap reached (sym a.row);
      size = a.size;
      follows = record { each = λ j. let z : 0 + j ≡ j = omega arith in ap (paths_in (x ∷ rs)) z ∙ ap (λ (w : ℕ). get_or (paths_from w rs) j (plain 0)) (sym width) };
    };
  }
    where
      a : Adds headed_state headed_result []
      a = others_add x.number 1 (placed offset (tokens_of x.bytes)) headed_state

      width : length headed_result.state.row ≡ length kerns_of
      width = ap length a.row ∙ (demand kerns_of (paths_in (x ∷ rs))).size 0 (header_row kerns_of) refl

  pub begins : (r : Result) → read_header x.number offset x.bytes st ≡ goes r → Begins x rs st r
  unfolding read_header
  begins r e = subst (Begins x rs st) (go (not (each is_exclusive (tokens_of x.bytes))) (ltb 256 (length (tokens_of x.bytes))) (not (any_kern kerns_of)) e) header_begins
    where
      go : (a b c : Bool)
          → cond a (refused 3 x.number 0)
          (cond b (refused 4 x.number (length (tokens_of x.bytes))) (cond c (refused 5 x.number 0) (goes headed_result))) ≡ goes r
          → headed_result ≡ r
      go true b c e = cc
      go false true c e = cc
      go false false true e = cc
      go false false false e = cc

  pub header_last : (r : Result) → read_header x.number offset x.bytes st ≡ ends r → ⊥
  unfolding read_header
  header_last r = go (not (each is_exclusive (tokens_of x.bytes))) (ltb 256 (length (tokens_of x.bytes))) (not (any_kern kerns_of))
    where
      go : (a b c : Bool)
          → cond a (refused 3 x.number 0)
          (cond b (refused 4 x.number (length (tokens_of x.bytes))) (cond c (refused 5 x.number 0) (goes headed_result))) ≡ ends r → ⊥
      go true b c e = clash cc
      go false true c e = clash cc
      go false false true e = clash cc
      go false false false e = clash cc
