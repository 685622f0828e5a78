-- What a piece of the reading adds to the notes, and what it leaves as it was.
use Prim.Native.Nat.{ℕ, suc, ◌+◌}
use native.Mathlib.Omega.{arith}
use mathlib.Core.Bool.{Bool, true, false, cond, ◌||◌, or-false}
use mathlib.Core.List.{List, [], ◌∷◌, ◌++◌}
use mathlib.Core.Path.{◌≡◌, refl, sym, ap, ◌∙◌}
use lib.Dec.{ltb}
use lib.ListN.{length, drop, length-append, length-set}
use Rattle.paths.specs.declared.PathToken.{PathToken}
use Rattle.paths.specs.declared.PathToken.TheVariants.{Split, Join, Exchange, End, Add, Other}
use Rattle.lines.specs.Tokens.{is_kern}
use Rattle.paths.specs.declared.Spine.{Spine}
use Rattle.paths.specs.declared.Spine.TheVariants.{Line, Branch, Outside}
use Rattle.paths.specs.Token.{path_token}
use Rattle.interpretation.specs.Interpretation.{interpretation_of}
use Rattle.interpretation.specs.declared.Interpretation.{Interpretation}
use Rattle.interpretation.specs.declared.Interpretation.TheVariants.{Nothing, Clef, Key, Meter, Symbol, Tempo, Name, ShortName, Mode}
use Rattle.std.proofs.Common.{Ok, Err, Option, Some, None}
use Rattle.std.specs.Option.{option_map_or}
use Rattle.interpretation.specs.Unsupported.{notice_number, Says}
use Rattle.reference.specs.Reference.{reference_of}
use Rattle.reference.specs.declared.Key.{Key as ReferenceKey}
use Rattle.reference.specs.declared.Key.TheVariants.{Title, Composer, Lyricist, Other as OtherKey}
use Rattle.repair.specs.Repair.{repair_notice}
use Rattle.repair.specs.declared.Repair.{Repair}
use Rattle.sheet.specs.Player.{Noted, notes_of}
use Rattle.sheet.specs.Record.{Record, NOTE, BAR, PART, END, NOTICE, span_of}
use Rattle.sheet.specs.declared.Notice.{Notice as NoticeRecord}
use Rattle.sheet.specs.declared.Span.{Span}
use Rattle.reading.specs.State.{State, Result, part_at, fresh_part, with_notices, with_part}
use Rattle.reading.specs.declared.Part.{Part}
use Rattle.reading.specs.Notices.{Token, quiet, after, keep, notify, notify_signifiers, span_of_token}
use Rattle.reading.specs.Bars.{any_noted}
use Rattle.reading.specs.Header.{by_key, read_reference, notice_others}
use Rattle.reading.specs.Star.{applied, heeded, interpret, column_by, paired, read_columns, first_tempo}
use Rattle.reading.specs.Records.{notice_repair}
use Rattle.account.specs.Account.{Item, any_item}
use Rattle.account.specs.Agree.{Agree, both_end, one_more}
use Rattle.reading.proofs.StateLaws.{set_noted}

-- ---- lists that agree

pub notes_append : (xs ys : List Record) → notes_of (xs ++ ys) ≡ notes_of xs ++ notes_of ys
unfolding notes_of
notes_append [] ys = refl
notes_append (NOTE n ps marks ∷ xs) ys = ap (λ (l : List Noted). record { note = n; pitches = ps; articulations = marks } ∷ l) (notes_append xs ys)
notes_append (BAR r ∷ xs) ys = notes_append xs ys
notes_append (PART p ∷ xs) ys = notes_append xs ys
notes_append (END e ∷ xs) ys = notes_append xs ys
notes_append (NOTICE n extra ∷ xs) ys = notes_append xs ys

agree_append : {xs ys : List Noted} {is js : List Item} → Agree xs is → Agree ys js → Agree (xs ++ ys) (is ++ js)
agree_append both_end b = b
agree_append (one_more p a) b = one_more p (agree_append a b)

pub agree_notes : (xs ys : List Record) {is js : List Item} → Agree (notes_of xs) is → Agree (notes_of ys) js → Agree (notes_of (xs ++ ys)) (is ++ js)
agree_notes xs ys a b = rw notes_append (agree_append a b)

-- ---- what a result adds

-- the result adds NOTEs that play these items, and leaves the row, the closings and the number of parts
pub record Adds (st : State) (r : Result) (items : List Item) : Type 0 where
  pub agree : Agree (notes_of r.records) items
  pub row : r.state.row ≡ st.row
  pub bars : r.state.bars ≡ st.bars
  pub notes : r.state.notes ≡ st.notes + length items
  pub noted : any_noted r.state.parts ≡ (any_noted st.parts || any_item items)
  pub size : length r.state.parts ≡ length st.parts

or_items : (b : Bool) (is js : List Item) → ((b || any_item is) || any_item js) ≡ (b || any_item (is ++ js))
or_items true is js = refl
or_items false [] js = refl
or_items false (i ∷ is) js = refl

-- a result that adds nothing
pub nothing : (st : State) (r : Result) → notes_of r.records ≡ [] → r.state.row ≡ st.row → r.state.bars ≡ st.bars → r.state.notes ≡ st.notes
    → any_noted r.state.parts ≡ any_noted st.parts → length r.state.parts ≡ length st.parts → Adds st r []
nothing st r e row bars notes noted size = record {
  agree = rw e both_end;
  row = row;
  bars = bars;
  notes = omega arith;
  noted = noted ∙ sym (or-false (any_noted st.parts));
  size = size;
}

pub quiet_adds : (st : State) → Adds st (quiet st) []
unfolding notes_of
quiet_adds st = nothing st (quiet st) refl refl refl refl refl refl

-- one result after another
pub then_adds : {st : State} {r s : Result} {is js : List Item} → Adds st r is → Adds r.state s js
    → Adds st (record { state = s.state; records = r.records ++ s.records }) (is ++ js)
then_adds {st} {r} {s} {is} {js} a b = record {
  agree = agree_notes r.records s.records a.agree b.agree;
  row = b.row ∙ a.row;
  bars = b.bars ∙ a.bars;
  notes = omega (arith, b.notes, a.notes, length-append is js);
  noted = b.noted ∙ ap (λ (x : Bool). x || any_item js) a.noted ∙ or_items (any_noted st.parts) is js;
  size = b.size ∙ a.size;
}

-- ---- notices

pub keep_adds : (n : NoticeRecord) (bytes : List ℕ) (st : State) → Adds st (keep n bytes st) []
unfolding keep notes_of
keep_adds n bytes st = go (ltb st.notices 1024)
  where
    go : (t : Bool) → Adds st (cond t (record { state = with_notices st (st.notices + 1); records = NOTICE n bytes ∷ [] }) (quiet st)) []
    go true = nothing st _ refl refl refl refl refl refl
    go false = nothing st _ refl refl refl refl refl refl

pub notify_adds : (number k column : ℕ) (value : Span) (st : State) → Adds st (notify number k column value st) []
unfolding notify
notify_adds number k column value st = keep_adds _ [] st

pub signifiers_adds : (k column : ℕ) (bytes : List ℕ) (st : State) → Adds st (notify_signifiers k column bytes st) []
unfolding notify_signifiers
signifiers_adds k column bytes st = keep_adds _ bytes st

pub repair_adds : (r : Repair) (k at : ℕ) (bytes : List ℕ) (st : State) → Adds st (notice_repair r k at bytes st) []
unfolding notice_repair
repair_adds r k at bytes st = go (repair_notice r)
  where
    go : (o : Option ℕ) → Adds st (option_map_or (λ (n : ℕ). notify n k 0 (span_of at (length bytes)) st) o (quiet st)) []
    go None = quiet_adds st
    go (Some n) = notify_adds n k 0 (span_of at (length bytes)) st

-- "`!!!` lines"
pub reference_adds : (k at : ℕ) (bytes : List ℕ) (st : State) → Adds st (read_reference k at bytes st) []
unfolding read_reference notes_of
reference_adds k at bytes st = go (reference_of (drop 3 bytes)).key _ _
  where
    go : (key : ReferenceKey) (value shown : Span) → Adds st (by_key key k value shown st) []
    go Title value shown = nothing st _ refl refl refl refl refl refl
    go Composer value shown = nothing st _ refl refl refl refl refl refl
    go Lyricist value shown = nothing st _ refl refl refl refl refl refl
    go OtherKey value shown = keep_adds _ [] st

-- ---- star records: what the columns add is nothing

module _ (st : State) (p : ℕ) where
  -- a part set anew, whether it has a note left as it was
  part_adds : (x : Part) → x.noted ≡ (part_at st p).noted → Adds st (quiet (with_part st p x)) []
  unfolding notes_of
  part_adds x e = nothing st _ refl refl refl refl (set_noted st.parts p x (fresh_part p) e) (length-set st.parts p x)

  tempo_adds : (x : Part) (bpm : ℕ) → x.noted ≡ (part_at st p).noted → Adds st (quiet (first_tempo (with_part st p x) bpm)) []
  unfolding notes_of
  tempo_adds x bpm e = nothing st _ refl refl refl refl (set_noted st.parts p x (fresh_part p) e) (length-set st.parts p x)

  applied_adds : (i : Interpretation) (t : Token) → Adds st (applied i t p (part_at st p) st) []
  applied_adds Nothing t = quiet_adds st
  applied_adds (Clef clef) t = part_adds _ refl
  applied_adds (Key fifths) t = part_adds _ refl
  applied_adds (Meter n d) t = part_adds _ refl
  applied_adds (Symbol s) t = part_adds _ refl
  applied_adds (Tempo bpm) t = tempo_adds _ bpm refl
  applied_adds Name t = part_adds _ refl
  applied_adds ShortName t = part_adds _ refl
  applied_adds (Mode mode) t = part_adds _ refl

  heeded_adds : (says : Says) (k j : ℕ) (t : Token) → Adds st (heeded says k j t p (part_at st p) st) []
  heeded_adds (Ok what) k j t = applied_adds what t
  heeded_adds (Err why) k j t = notify_adds (notice_number why) k j _ st

interpret_adds : (s : Spine) (k j : ℕ) (t : Token) (st : State) → Adds st (interpret s k j t st) []
interpret_adds (Line p v) k j t st = heeded_adds st p (interpretation_of t.bytes (part_at st p).noted) k j t
interpret_adds (Branch p) k j t st = quiet_adds st
interpret_adds Outside k j t st = quiet_adds st

column_adds : (x : PathToken) (b : Bool) (s : Spine) (k j : ℕ) (t : Token) (st : State) → Adds st (column_by x b s k j t st) []
column_adds Split b s k j t st = quiet_adds st
column_adds Join b s k j t st = quiet_adds st
column_adds Exchange true s k j t st = quiet_adds st
column_adds Exchange false s k j t st = interpret_adds s k j t st
column_adds End b s k j t st = quiet_adds st
column_adds Add b s k j t st = notify_adds 7 k j _ st
column_adds Other b s k j t st = interpret_adds s k j t st

pub columns_add : (ps : List PathToken) (k i : ℕ) (row : List Spine) (ts : List Token) (st : State) → Adds st (read_columns ps k i row ts st) []
unfolding read_columns
columns_add ps k i [] ts st = quiet_adds st
columns_add ps k i (s ∷ row) [] st = quiet_adds st
columns_add ps k i (s ∷ row) (t ∷ ts) st = then_adds (column_adds (path_token t.bytes) (paired ps i) s k (i + 1) t st) (columns_add ps k (suc i) row ts _)

-- ---- the header: its notices

pub others_add : (k j : ℕ) (ts : List Token) (st : State) → Adds st (notice_others k j ts st) []
unfolding notice_others
others_add k j [] st = quiet_adds st
others_add k j (t ∷ ts) st = go (is_kern t.bytes) (others_add k (suc j) ts st) (others_add k (suc j) ts _)
  where
    go : (b : Bool) → Adds st (notice_others k (suc j) ts st) [] → Adds (notify 2 k j (span_of_token t) st).state (notice_others k (suc j) ts (notify 2 k j (span_of_token t) st).state) []
        → Adds st (cond b (notice_others k (suc j) ts st) (after (notify 2 k j (span_of_token t) st) (notice_others k (suc j) ts))) []
    go true a b = a
    go false a b = then_adds (notify_adds 2 k j (span_of_token t) st) b
