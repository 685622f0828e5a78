-- One record behind the header: the NOTEs that the reading gives of it play its note tokens, and what comes after it is what the text says.
use Rattle.std.proofs.Common.{Ok, Err}
use Prim.Native.Nat.{ℕ, suc, ◌+◌, ◌<◌}
use native.Mathlib.Omega.{arith}
use mathlib.Core.Bool.{Bool, true, false, cond, ◌||◌, or-false}
use mathlib.Core.List.{List, [], ◌∷◌, ◌++◌, map}
use mathlib.Core.Path.{◌≡◌, refl, sym, ap, subst, ◌∙◌}
use lib.Dec.{eqb}
use lib.ListN.{length, length-map}
use Rattle.slices.proofs.TestLaws.{clash}
use Rattle.lines.specs.Lines.{kind_of}
use Rattle.lines.specs.Tokens.{tokens_of}
use Rattle.lines.specs.declared.Kind.{Kind}
use Rattle.lines.specs.declared.Kind.TheVariants.{Empty, Reference, Comment, Star, Bar, Data}
use Rattle.paths.specs.declared.PathToken.{PathToken}
use Rattle.paths.specs.Record.{Rec}
use Rattle.paths.specs.declared.Spine.{Spine}
use Rattle.paths.specs.Demand.{At}
use Rattle.paths.specs.Text.{reading}
use Rattle.paths.specs.Token.{path_token}
use Rattle.paths.specs.Trace.{part, width_in}
use Rattle.paths.specs.TracedVoice.{voice}
use Rattle.paths.specs.Voices.{Outcome, next, mixed, voiceless, wide, step_row}
use Rattle.repair.specs.Record.{record_of}
use Rattle.repair.specs.Repair.{repaired, Repaired, repaired_of}
use Rattle.repair.specs.declared.Repair.{Repair}
use Rattle.repair.specs.declared.Unrepaired.TheVariants.{Uneven, Mixed}
use Rattle.repair.proofs.WidthLaws.{even_width}
use Rattle.sheet.specs.Player.{notes_of}
use Rattle.sheet.specs.Record.{BAR}
use Rattle.reading.specs.State.{State, Result, Step, refused, goes, ends, with_parts}
use Rattle.reading.specs.declared.Part.{Part}
use Rattle.reading.specs.Notices.{Token, quiet, placed}
use Rattle.reading.specs.Header.{fresh_parts}
use Rattle.reading.specs.Star.{read_columns, to_row, read_star}
use Rattle.reading.specs.Bars.{any_noted, closed_bar, closed_part, closing, left_anew, keep_left, is_kern_spine, close_with, read_bar}
use Rattle.reading.specs.Notes.{read_data, behind}
use Rattle.reading.specs.Records.{notice_repair, by_kind, by_repair, on_row}
use Rattle.account.specs.Rows.{Numbered, is_record, Taken, taken_from}
use Rattle.account.specs.Account.{Item, closings_after, noted_after, items_of, items_by, account_from}
use Rattle.account.specs.Agree.{Agree, both_end}
use Rattle.account.proofs.ResultLaws.{Adds, agree_notes, notify_adds, repair_adds, columns_add}
use Rattle.account.proofs.DataLaws.{StepAdds, Columns, tokens_add}
use Rattle.account.proofs.RowLaws.{row_after, Follows, follows_first, next_width, follows_next, reads_on, row_columns, kern_columns_lem}
use Rattle.reading.proofs.StateLaws.{placed_bytes, closed_noted}

-- ---- barlines

left_noted : (left : ℕ) (ps : List Part) → any_noted (map (left_anew left) ps) ≡ any_noted ps
unfolding any_noted
left_noted left [] = refl
left_noted left (p ∷ ps) = ap (λ (b : Bool). p.noted || b) (left_noted left ps)

bars_silent : (right number : ℕ) (ps : List Part) → notes_of (map (λ (p : Part). BAR (closed_bar right number p.current)) ps) ≡ []
unfolding notes_of
bars_silent right number [] = refl
bars_silent right number (p ∷ ps) = bars_silent right number ps

-- what a `=` record comes to
pub record Closes (st : State) (r : Result) : Type 0 where
  pub silent : notes_of r.records ≡ []
  pub row : r.state.row ≡ st.row
  pub bars : r.state.bars ≡ cond (any_noted st.parts) (st.bars + 1) st.bars
  pub notes : r.state.notes ≡ st.notes
  pub noted : any_noted r.state.parts ≡ false
  pub size : length r.state.parts ≡ length st.parts

keeps_left : (left : ℕ) (st : State) → any_noted st.parts ≡ false → Closes st (quiet (keep_left left st))
unfolding keep_left notes_of
keeps_left left st e = go (eqb left 0)
  where
    go : (b : Bool) → Closes st (quiet (cond b st (with_parts st (map (left_anew left) st.parts))))
    go true = record { silent = refl; row = refl; bars = rw e; notes = refl; noted = e; size = refl }
    go false = record { silent = refl; row = refl; bars = rw e; notes = refl; noted = left_noted left st.parts ∙ e; size = length-map st.parts (left_anew left) }

pub closes : (right left : ℕ) (st : State) → any_noted st.parts ≡ true → Closes st (closing right left st)
unfolding closing
closes right left st e = record {
  silent = bars_silent right (st.bars + 1) st.parts;
  row = refl;
  bars = rw e;
  notes = refl;
  noted = closed_noted right left (st.bars + 1) st.parts;
  size = length-map st.parts (closed_part right left (st.bars + 1));
}

pub closes_with : (right left : ℕ) (st : State) → Closes st (close_with right left st)
unfolding close_with
closes_with right left st = go (any_noted st.parts) refl
  where
    go : (b : Bool) → any_noted st.parts ≡ b → Closes st (cond b (closing right left st) (quiet (keep_left left st)))
    go true e = closes right left st e
    go false e = keeps_left left st e

pub bar_closes : (ts : List Token) (st : State) → Closes st (read_bar ts st)
unfolding read_bar
bar_closes ts st = closes_with _ _ st

-- ---- a record by its kind

pub paths : (us : List Token) → map (λ (t : Token). path_token t.bytes) us ≡ map path_token (map (λ (t : Token). t.bytes) us)
paths [] = refl
paths (u ∷ us) = ap (λ (l : List PathToken). path_token u.bytes ∷ l) (paths us)

-- as many tokens with their places as the row has spines
placed_even : (offset : ℕ) (row : List Spine) (bytes : List ℕ) {p : Repair} → repaired_of (length row) (tokens_of bytes) ≡ Ok p
    → length row ≡ length (placed offset (repaired (length row) (tokens_of bytes)))
placed_even offset row bytes e =
    let ts : List (List ℕ) = repaired (length row) (tokens_of bytes) in
    let many : length (map (λ (t : Token). t.bytes) (placed offset ts)) ≡ length (placed offset ts) = length-map (placed offset ts) _ in
    let same : length (map (λ (t : Token). t.bytes) (placed offset ts)) ≡ length ts = ap length (placed_bytes offset ts) in
    omega (arith, even_width (length row) (tokens_of bytes) e)

module _ (h : List Bool) (recs : ℕ → Rec) where
  -- the note tokens of a taken record, the n-th behind the header, by the trace
  abbrev pub items_at : Kind → ℕ → ℕ → Taken → List Item
  items_at kind n bars t = items_by (part h recs) (voice h recs) kind n bars t

  abbrev taken_on : Kind → ℕ → List (List ℕ) → Taken
  taken_on kind k ts = record { number = k; kind = kind; tokens = ts }

  -- a record on line k, of this kind and these tokens, the n-th behind the header: from row, closings and notes to a result
  pub record Took (kind : Kind) (n k : ℕ) (ts : List (List ℕ)) (row : List Spine) (bars : ℕ) (noted : Bool) (notes parts : ℕ) (r : Result) : Type 0 where
    pub agree : Agree (notes_of r.records) (items_at kind n bars (taken_on kind k ts))
    pub row_is : row_after kind ts row ≡ next r.state.row
    pub bars_is : r.state.bars ≡ closings_after kind noted bars
    pub notes_is : r.state.notes ≡ notes + length (items_at kind n bars (taken_on kind k ts))
    pub noted_is : any_noted r.state.parts ≡ noted_after kind noted (items_at kind n bars (taken_on kind k ts))
    pub size_is : length r.state.parts ≡ parts

  abbrev TookFrom : Kind → ℕ → ℕ → List (List ℕ) → State → Result → Type 0
  TookFrom kind n k ts st r = Took kind n k ts st.row st.bars (any_noted st.parts) st.notes (length st.parts) r

  data_step : (n k : ℕ) (st : State) → At h recs n st.row → length st.parts ≡ length (fresh_parts 0 h) → (us : List Token) → length st.row ≡ length us
      → StepAdds st (read_data k us st) (items_at Data n st.bars (taken_on Data k (map (λ (t : Token). t.bytes) us)))
  unfolding read_data items_of
  data_step n k st at size us z =
      let many : length st.row ≡ length (map (λ (t : Token). t.bytes) us) = z ∙ sym (length-map us _) in
      rw (kern_columns_lem (part h recs n) (voice h recs n) (length st.parts) 0 st.row (map (λ (t : Token). t.bytes) us) many columns)
      (tokens_add (part h recs n) (voice h recs n) (map (λ (t : Token). t.bytes) us) (map is_kern_spine st.row) k (st.bars + 1) 0 st.row us st z refl columns)
    where
      columns : Columns (part h recs n) (voice h recs n) (length st.parts) 0 st.row
      columns = rw size (row_columns h recs n st.row at)

  -- no kind of record ends the reading
  never_ends : (kind : Kind) (n k : ℕ) (st : State) → At h recs n st.row → length st.parts ≡ length (fresh_parts 0 h)
      → (us : List Token) → length st.row ≡ length us → (r : Result) → by_kind kind k us st ≡ ends r → ⊥
  unfolding read_star
  never_ends Empty n k st at size us z r e = clash cc
  never_ends Reference n k st at size us z r e = clash cc
  never_ends Comment n k st at size us z r e = clash cc
  never_ends Star n k st at size us z r e = go (step_row st.row (map (λ (t : Token). path_token t.bytes) us)) e
    where
      c : Result
      c = read_columns (map (λ (t : Token). path_token t.bytes) us) k 0 st.row us st

      go : (o : Outcome) → to_row k c o ≡ ends r → ⊥
      go (next row) e = clash cc
      go (mixed c) e = clash cc
      go (voiceless p) e = clash cc
      go (wide w) e = clash cc
  never_ends Bar n k st at size us z r e = clash cc
  never_ends Data n k st at size us z r e =
      subst (λ (s : Step). StepAdds st s (items_at Data n st.bars (taken_on Data k (map (λ (t : Token). t.bytes) us)))) e (data_step n k st at size us z)

  module _ (n k : ℕ) (st : State) (r : Result) where
    star_took : (ts : List (List ℕ)) (us : List Token) → map (λ (t : Token). t.bytes) us ≡ ts → read_star k us st ≡ goes r → TookFrom Star n k ts st r
    unfolding read_star
    star_took ts us e g =
        go (step_row st.row (map (λ (t : Token). path_token t.bytes) us))
        (ap (λ (l : List PathToken). step_row st.row l) (paths us) ∙ ap (λ (l : List (List ℕ)). step_row st.row (map path_token l)) e) g
      where
        c : Result
        c = read_columns (map (λ (t : Token). path_token t.bytes) us) k 0 st.row us st

        a : Adds st c []
        a = columns_add (map (λ (t : Token). path_token t.bytes) us) k 0 st.row us st

        result : (u : Result) → goes u ≡ goes r → u ≡ r
        result u e = cc

        go : (o : Outcome) → o ≡ step_row st.row (map path_token ts) → to_row k c o ≡ goes r → TookFrom Star n k ts st r
        go (next row) o f = subst (TookFrom Star n k ts st) (result _ f) (record {
          agree = a.agree;
          row_is = sym o;
          bars_is = a.bars;
          notes_is = a.notes;
          noted_is = a.noted ∙ or-false (any_noted st.parts);
          size_is = a.size;
        })
        go (mixed c) o f = clash cc
        go (voiceless p) o f = clash cc
        go (wide w) o f = clash cc

    bar_took : (ts : List (List ℕ)) (us : List Token) → goes (read_bar us st) ≡ goes r → TookFrom Bar n k ts st r
    bar_took ts us g = subst (TookFrom Bar n k ts st) result (record {
      agree = rw c.silent both_end;
      row_is = ap next (sym c.row);
      bars_is = c.bars;
      notes_is = omega (arith, c.notes);
      noted_is = c.noted;
      size_is = c.size;
    })
      where
        c : Closes st (read_bar us st)
        c = bar_closes us st

        result : read_bar us st ≡ r
        result = cc

    data_took : At h recs n st.row → length st.parts ≡ length (fresh_parts 0 h) → (ts : List (List ℕ)) (us : List Token) → length st.row ≡ length us
        → map (λ (t : Token). t.bytes) us ≡ ts → read_data k us st ≡ goes r → TookFrom Data n k ts st r
    data_took at size ts us z e g = record {
      agree = added.agree;
      row_is = ap next (sym added.row);
      bars_is = added.bars;
      notes_is = added.notes;
      noted_is = added.noted;
      size_is = added.size;
    }
      where
        added : Adds st r (items_at Data n st.bars (taken_on Data k ts))
        added = rw (← e)
            (subst (λ (s : Step). StepAdds st s (items_at Data n st.bars (taken_on Data k (map (λ (t : Token). t.bytes) us)))) g (data_step n k st at size us z))

    kind_took : (kind : Kind) → is_record kind ≡ true → At h recs n st.row → length st.parts ≡ length (fresh_parts 0 h)
        → (ts : List (List ℕ)) (us : List Token) → length st.row ≡ length us → map (λ (t : Token). t.bytes) us ≡ ts → by_kind kind k us st ≡ goes r
        → TookFrom kind n k ts st r
    kind_took Empty i at size ts us z e g = clash cc
    kind_took Reference i at size ts us z e g = clash cc
    kind_took Comment i at size ts us z e g = clash cc
    kind_took Star i at size ts us z e g = star_took ts us e g
    kind_took Bar i at size ts us z e g = bar_took ts us g
    kind_took Data i at size ts us z e g = data_took at size ts us z e g

  -- behind the notice of a repair
  behind_took : (kind : Kind) (n k : ℕ) (ts : List (List ℕ)) (st : State) (q u : Result) → Adds st q [] → TookFrom kind n k ts q.state u
      → TookFrom kind n k ts st (record { state = u.state; records = q.records ++ u.records })
  behind_took kind n k ts st q u a t = record {
    agree = agree_notes q.records u.records a.agree here.agree;
    row_is = here.row_is;
    bars_is = here.bars_is;
    notes_is = here.notes_is;
    noted_is = here.noted_is;
    size_is = here.size_is;
  }
    where
      noted : any_noted q.state.parts ≡ any_noted st.parts
      noted = a.noted ∙ or-false (any_noted st.parts)

      notes : q.state.notes ≡ st.notes
      notes = omega (arith, a.notes)

      here : TookFrom kind n k ts st u
      here = rw (a.row, a.bars, noted, notes, a.size) at t

-- what a step behind a result is, where it goes on
pub behind_goes : (q : Result) (f : State → Step) (r : Result) → behind q f ≡ goes r
    → (u : Result) × (f q.state ≡ goes u) × (◌≡◌ {A = Result} (record { state = u.state; records = q.records ++ u.records }) r)
behind_goes q f r = go (f q.state)
  where
    go : (s : Step) → behind q (λ x. s) ≡ goes r → (u : Result) × (s ≡ goes u) × (◌≡◌ {A = Result} (record { state = u.state; records = q.records ++ u.records }) r)
    go (refused n l g) e = clash cc
    go (goes u) e = (u, refl, cc)
    go (ends u) e = clash cc

behind_ends : (q : Result) (f : State → Step) (r : Result) → behind q f ≡ ends r → (u : Result) × (f q.state ≡ ends u)
behind_ends q f r = go (f q.state)
  where
    go : (s : Step) → behind q (λ x. s) ≡ ends r → (u : Result) × (s ≡ ends u)
    go (refused n l g) e = clash cc
    go (goes u) e = clash cc
    go (ends u) e = (u, refl)

-- ---- a record that is taken

-- it is the first of those that the text says
pub taken_one : (x : Numbered) (rs : List Numbered) (row after : List Spine) → 0 < length row
    → length after ≡ width_in (record_of (length row) x.bytes) (length row)
    → taken_from (length row) (x ∷ rs)
    ≡ record { number = x.number; kind = kind_of x.bytes; tokens = repaired (length row) (tokens_of x.bytes) } ∷ taken_from (length after) rs
unfolding taken_from
taken_one x rs [] after l w = absurd (omega arith)
taken_one x rs (s ∷ row) after l w = rw w

module _ (h : List Bool) (recs : ℕ → Rec) where
  -- the reading stands in this state before these records, the first of them the n-th behind the header
  pub record Stands (n : ℕ) (st : State) (rs : List Numbered) : Type 0 where
    pub at : At h recs n st.row
    pub size : length st.parts ≡ length (fresh_parts 0 h)
    pub follows : Follows recs n (length st.row) rs

  -- the note tokens from there on
  abbrev pub rest : ℕ → State → List Numbered → List Item
  rest n st rs = account_from (part h recs) (voice h recs) n st.bars (any_noted st.parts) (taken_from (length st.row) rs)

  -- each of these taken records, the first of them the n-th behind the header, stands over a row that the paths reach
  abbrev pub OnRows : ℕ → List Taken → Type 0
  OnRows n [] = Unit {0}
  OnRows n (t ∷ ts) = ((row : List Spine) × At h recs n row) × OnRows (suc n) ts

  -- the reading went past a record: its note tokens are played
  pub record Went (n : ℕ) (st : State) (x : Numbered) (rs : List Numbered) (r : Result) : Type 0 where
    pub items : List Item
    pub agree : Agree (notes_of r.records) items
    pub notes : r.state.notes ≡ st.notes + length items
    pub stands : Stands (suc n) r.state rs
    pub rest_is : rest n st (x ∷ rs) ≡ items ++ rest (suc n) r.state rs
    pub rows : OnRows (suc n) (taken_from (length r.state.row) rs) → OnRows n (taken_from (length st.row) (x ∷ rs))

  module _ (n : ℕ) (st : State) (x : Numbered) (rs : List Numbered) (r : Result) (here : Stands n st (x ∷ rs))
      (is_record_lem : is_record (kind_of x.bytes) ≡ true) where
    went_by : {p : Repair} → 0 < length st.row → repaired_of (length st.row) (tokens_of x.bytes) ≡ Ok p
        → TookFrom h recs (kind_of x.bytes) n x.number (repaired (length st.row) (tokens_of x.bytes)) st r → Went n st x rs r
    unfolding account_from
    went_by l e t = record {
      items = _;
      agree = t.agree;
      notes = t.notes_is;
      stands = record { at = at'; size = t.size_is ∙ here.size; follows = follows_next h recs st.row r.state.row here.at at' here.follows };
      rest_is = rw (one, t.bars_is, t.noted_is);
      rows = λ rows. rw one ((st.row, here.at), rows);
    }
      where
        first : recs n ≡ record_of (length st.row) x.bytes
        first = follows_first here.follows

        at' : At h recs (suc n) r.state.row
        at' = reads_on h recs n st.row here.at x.bytes l is_record_lem e first ∙ ap reading t.row_is

        one : taken_from (length st.row) (x ∷ rs)
            ≡ taken_on h recs (kind_of x.bytes) x.number (repaired (length st.row) (tokens_of x.bytes)) ∷ taken_from (length r.state.row) rs
        one = taken_one x rs st.row r.state.row l (next_width h recs n x.bytes st.row r.state.row here.at at' first)

    went_even : {p : Repair} (offset : ℕ) → 0 < length st.row → repaired_of (length st.row) (tokens_of x.bytes) ≡ Ok p
        → behind (notice_repair p x.number offset x.bytes st)
        (by_kind (kind_of x.bytes) x.number (placed offset (repaired (length st.row) (tokens_of x.bytes)))) ≡ goes r → Went n st x rs r
    went_even {p} offset l e g = went_by l e (subst (TookFrom h recs kind n k ts st) parts.2 (behind_took h recs kind n k ts st q parts.0 a took))
      where
        kind : Kind
        kind = kind_of x.bytes

        k : ℕ
        k = x.number

        ts : List (List ℕ)
        ts = repaired (length st.row) (tokens_of x.bytes)

        q : Result
        q = notice_repair p k offset x.bytes st

        a : Adds st q []
        a = repair_adds p k offset x.bytes st

        parts : (u : Result) × (by_kind kind k (placed offset ts) q.state ≡ goes u)
            × (◌≡◌ {A = Result} (record { state = u.state; records = q.records ++ u.records }) r)
        parts = behind_goes q (by_kind kind k (placed offset ts)) r g

        took : TookFrom h recs kind n k ts q.state parts.0
        took = kind_took h recs n k q.state parts.0 kind is_record_lem (rw a.row here.at) (a.size ∙ here.size) ts (placed offset ts)
            (rw a.row (placed_even offset st.row x.bytes e)) (placed_bytes offset ts) parts.1

    pub went : (offset : ℕ) → on_row st.row x.number offset x.bytes st ≡ goes r → Went n st x rs r
    went offset = by_row st.row refl
      where
        even : 0 < length st.row → (o : Repaired) → repaired_of (length st.row) (tokens_of x.bytes) ≡ o
            → by_repair o x.number offset x.bytes (placed offset (repaired (length st.row) (tokens_of x.bytes))) st ≡ goes r → Went n st x rs r
        even l (Err (Uneven c)) q g = clash cc
        even l (Err Mixed) q g = clash cc
        even l (Ok p) q g = went_even offset l q g

        by_row : (row : List Spine) → st.row ≡ row → on_row row x.number offset x.bytes st ≡ goes r → Went n st x rs r
        by_row [] e g = clash cc
        by_row (s ∷ row) e g =
            even (omega (arith, ap length e)) (repaired_of (length st.row) (tokens_of x.bytes)) refl
            (subst (λ (w : ℕ). by_repair (repaired_of w (tokens_of x.bytes)) x.number offset x.bytes (placed offset (repaired w (tokens_of x.bytes))) st ≡ goes r)
            (sym (ap length e)) g)

    -- with no active spine left the reading ends, and so do the records that are taken
    pub went_last : (offset : ℕ) → on_row st.row x.number offset x.bytes st ≡ ends r
        → Adds st r [] × (rest n st (x ∷ rs) ≡ []) × OnRows n (taken_from (length st.row) (x ∷ rs))
    unfolding taken_from account_from
    went_last offset = by_row st.row refl
      where
        result : (u : Result) → ends u ≡ ends r → u ≡ r
        result u e = cc

        even : (us : List Token) (o : Repaired) → repaired_of (length st.row) (tokens_of x.bytes) ≡ o → by_repair o x.number offset x.bytes us st ≡ ends r
            → ((p : Repair) → repaired_of (length st.row) (tokens_of x.bytes) ≡ Ok p → length st.row ≡ length us) → ⊥
        even us (Err (Uneven c)) v g z = clash cc
        even us (Err Mixed) v g z = clash cc
        even us (Ok p) v g z =
            let q : Result = notice_repair p x.number offset x.bytes st in
            let a : Adds st q [] = repair_adds p x.number offset x.bytes st in
            let u : (u : Result) × (by_kind (kind_of x.bytes) x.number us q.state ≡ ends u) = behind_ends q (by_kind (kind_of x.bytes) x.number us) r g in
            never_ends h recs (kind_of x.bytes) n x.number q.state (rw a.row here.at) (a.size ∙ here.size) us (rw a.row (z p v)) u.0 u.1

        by_row : (row : List Spine) → st.row ≡ row → on_row row x.number offset x.bytes st ≡ ends r
            → Adds st r [] × (rest n st (x ∷ rs) ≡ []) × OnRows n (taken_from (length st.row) (x ∷ rs))
        by_row [] e g = (subst (λ (u : Result). Adds st u []) (result _ g) (notify_adds 3 x.number 0 _ st), rw e, rw e tt)
        by_row (s ∷ row) e g =
            absurd (even (placed offset (repaired (length st.row) (tokens_of x.bytes))) (repaired_of (length st.row) (tokens_of x.bytes)) refl
            (subst (λ (w : ℕ). by_repair (repaired_of w (tokens_of x.bytes)) x.number offset x.bytes (placed offset (repaired w (tokens_of x.bytes))) st ≡ ends r)
            (sym (ap length e)) g)
            (λ p v. placed_even offset st.row x.bytes v))
