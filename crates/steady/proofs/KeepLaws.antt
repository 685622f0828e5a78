-- Records other than the header and star records keep the row; none but the header changes the number of parts.
use mathlib.Core.Path.{◌≡◌, ◌∙◌}
use Prim.Native.Nat.{ℕ, suc, ◌+◌}
use mathlib.Core.Bool.{Bool, true, false, cond}
use mathlib.Core.List.{List, [], ◌∷◌, map}
use lib.Dec.{eqb, ltb}
use lib.ListN.{length, drop, length-set, length-map}
use Rattle.lines.specs.Tokens.{is_null, is_kern}
use Rattle.notation.specs.Barline.{barlines_of, barline_number}
use Rattle.interpretation.specs.Interpretation.{interpretation_of}
use Rattle.interpretation.specs.declared.Interpretation.{Interpretation}
use Rattle.interpretation.specs.declared.Interpretation.TheVariants.{Nothing, Clef, Key, Meter, Symbol, Tempo, Name, ShortName, Mode}
use Rattle.std.proofs.Common.{Ok, Err}
use Rattle.interpretation.specs.Unsupported.{notice_number as unsupported_number, Says}
use Rattle.reference.specs.Reference.{reference_of}
use Rattle.reference.specs.declared.Key.{Key as Named}
use Rattle.reference.specs.declared.Key.TheVariants.{Title, Composer, Lyricist, Other as OtherKey}
use Rattle.token.specs.Outcome.{Outcome, notice_number, read_token, reported}
use Rattle.token.specs.declared.outcome.Note.{Note}
use Rattle.std.specs.Prelude.{Some, None, Ok, Err}
use Rattle.paths.specs.declared.PathToken.{PathToken}
use Rattle.paths.specs.declared.PathToken.TheVariants.{Split, Join, Exchange, End, Add, Other}
use Rattle.paths.specs.Token.{path_token}
use Rattle.paths.specs.declared.Spine.{Spine}
use Rattle.paths.specs.declared.Spine.TheVariants.{Line, Branch, Outside}
use Rattle.sheet.specs.Record.{NOTICE}
use Rattle.sheet.specs.declared.Notice.{Notice as Told}
use Rattle.sheet.specs.declared.Span.{Span}
use Rattle.reading.specs.State.{State, Result, Step, refused, goes, ends, part_at, with_part, with_parts, with_notes, with_notices}
use Rattle.reading.specs.declared.Part.{Part}
use Rattle.reading.specs.Notices.{Token, span_of_token, quiet, after, keep, notify, notify_signifiers}
use Rattle.reading.specs.Header.{by_key, key_span, value_span, read_reference, notice_others}
use Rattle.reading.specs.Star.{applied, heeded, interpret, column_by, paired, read_columns}
use Rattle.reading.specs.Bars.{any_noted, closed_part, closing, left_anew, keep_left, deciding, close_with, read_bar, is_kern_spine}
use Rattle.reading.specs.Notes.{sounded, note_record, add_note, behind, and_then, by_outcome, signify, inferred_for, read_token_at, read_spine, read_tokens, read_data}
use Rattle.extent.proofs.StateLaws.{either}

-- a state with that row and that many parts
abbrev pub Is : List Spine → ℕ → State → Type 0
Is row n x = (x.row ≡ row) × (length x.parts ≡ n)

abbrev pub IsStep : List Spine → ℕ → Step → Type 0
IsStep row n (refused q k f) = Unit {0}
IsStep row n (goes r) = Is row n r.state
IsStep row n (ends r) = Is row n r.state

-- ---- notices and parts
keep_is : {row : List Spine} {n : ℕ} (x : Told) (bytes : List ℕ) (st : State) → Is row n st → Is row n (keep x bytes st).state
unfolding keep
keep_is {row} {n} x bytes st h = go (ltb st.notices 1024)
  where
    go : (t : Bool) → Is row n (cond t (record { state = with_notices st (st.notices + 1); records = NOTICE x bytes ∷ [] }) (quiet st)).state
    go true = h
    go false = h

pub notify_is : {row : List Spine} {n : ℕ} (number k j : ℕ) (value : Span) (st : State) → Is row n st → Is row n (notify number k j value st).state
unfolding notify
notify_is number k j value st h = keep_is _ [] st h

signifiers_is : {row : List Spine} {n : ℕ} (k j : ℕ) (bytes : List ℕ) (st : State) → Is row n st → Is row n (notify_signifiers k j bytes st).state
unfolding notify_signifiers
signifiers_is k j bytes st h = keep_is _ bytes st h

part_is : {row : List Spine} {n : ℕ} (p : ℕ) (x : Part) (st : State) → Is row n st → Is row n (with_part st p x)
part_is p x st h = (h.0, length-set st.parts p x ∙ h.1)

-- ---- reference records, and the notices of a header
key_is : {row : List Spine} {n : ℕ} (x : Named) (k : ℕ) (value key : Span) (st : State) → Is row n st → Is row n (by_key x k value key st).state
key_is Title k value key st h = h
key_is Composer k value key st h = h
key_is Lyricist k value key st h = h
key_is OtherKey k value key st h = keep_is _ [] st h

pub reference_is : {row : List Spine} {n : ℕ} (k at : ℕ) (s : List ℕ) (st : State) → Is row n st → Is row n (read_reference k at s st).state
unfolding read_reference
reference_is k at s st h = let r = reference_of (drop 3 s) in key_is r.key k (value_span (at + 3) r) (key_span (at + 3) r) st h

pub others_are : {row : List Spine} {n : ℕ} (k j : ℕ) (ts : List Token) (st : State) → Is row n st → Is row n (notice_others k j ts st).state
unfolding notice_others
others_are k j [] st h = h
others_are {row} {n} k j (t ∷ ts) st h =
    let r = notify 2 k j (span_of_token t) st in
    either (λ (x : Result). Is row n x.state) (is_kern t.bytes) (notice_others k (suc j) ts st) (after r (notice_others k (suc j) ts))
    (others_are k (suc j) ts st h)
    (others_are k (suc j) ts r.state (notify_is 2 k j (span_of_token t) st h))

-- ---- star records, column by column
applied_is : {row : List Spine} {n : ℕ} (i : Interpretation) (t : Token) (p : ℕ) (st : State) → Is row n st
    → Is row n (applied i t p (part_at st p) st).state
applied_is Nothing t p st h = h
applied_is (Clef clef) t p st h = part_is p _ st h
applied_is (Key fifths) t p st h = part_is p _ st h
applied_is (Meter n d) t p st h = part_is p _ st h
applied_is (Symbol s) t p st h = part_is p _ st h
applied_is (Tempo bpm) t p st h = part_is p _ st h
applied_is Name t p st h = part_is p _ st h
applied_is ShortName t p st h = part_is p _ st h
applied_is (Mode mode) t p st h = part_is p _ st h

heeded_is : {row : List Spine} {n : ℕ} (says : Says) (k j : ℕ) (t : Token) (p : ℕ) (st : State) → Is row n st
    → Is row n (heeded says k j t p (part_at st p) st).state
heeded_is (Ok what) k j t p st h = applied_is what t p st h
heeded_is (Err why) k j t p st h = notify_is (unsupported_number why) k j (span_of_token t) st h

interpret_is : {row : List Spine} {n : ℕ} (s : Spine) (k j : ℕ) (t : Token) (st : State) → Is row n st → Is row n (interpret s k j t st).state
interpret_is (Line p v) k j t st h = heeded_is (interpretation_of t.bytes (part_at st p).noted) k j t p st h
interpret_is (Branch p) k j t st h = h
interpret_is Outside k j t st h = h

column_is : {row : List Spine} {n : ℕ} (x : PathToken) (two : Bool) (s : Spine) (k j : ℕ) (t : Token) (st : State) → Is row n st
    → Is row n (column_by x two s k j t st).state
column_is Split two s k j t st h = h
column_is Join two s k j t st h = h
column_is Exchange true s k j t st h = h
column_is Exchange false s k j t st h = interpret_is s k j t st h
column_is End two s k j t st h = h
column_is Add two s k j t st h = notify_is 7 k j (span_of_token t) st h
column_is Other two s k j t st h = interpret_is s k j t st h

pub columns_are : {row : List Spine} {n : ℕ} (ps : List PathToken) (k i : ℕ) (left : List Spine) (ts : List Token) (st : State) → Is row n st
    → Is row n (read_columns ps k i left ts st).state
unfolding read_columns
columns_are ps k i [] ts st h = h
columns_are ps k i (s ∷ left) [] st h = h
columns_are ps k i (s ∷ left) (t ∷ ts) st h =
    let r = column_by (path_token t.bytes) (paired ps i) s k (i + 1) t st in
    columns_are ps k (suc i) left ts r.state (column_is (path_token t.bytes) (paired ps i) s k (i + 1) t st h)

-- ---- barlines
closing_is : {row : List Spine} {n : ℕ} (right left : ℕ) (st : State) → Is row n st → Is row n (closing right left st).state
unfolding closing
closing_is right left st h = (h.0, length-map st.parts (closed_part right left (st.bars + 1)) ∙ h.1)

left_is : {row : List Spine} {n : ℕ} (left : ℕ) (st : State) → Is row n st → Is row n (keep_left left st)
unfolding keep_left
left_is {row} {n} left st h =
    either (Is row n) (eqb left 0) st (with_parts st (map (left_anew left) st.parts)) h (h.0, length-map st.parts (left_anew left) ∙ h.1)

close_is : {row : List Spine} {n : ℕ} (right left : ℕ) (st : State) → Is row n st → Is row n (close_with right left st).state
unfolding close_with
close_is {row} {n} right left st h =
    either (λ (x : Result). Is row n x.state) (any_noted st.parts) (closing right left st) (quiet (keep_left left st)) (closing_is right left st h)
    (left_is left st h)

pub bar_is : {row : List Spine} {n : ℕ} (ts : List Token) (st : State) → Is row n st → Is row n (read_bar ts st).state
unfolding read_bar
bar_is ts st h = let x = barlines_of (deciding st.row ts) in close_is (barline_number x.right) (barline_number x.left) st h

-- ---- data records
behind_is : (row : List Spine) (n : ℕ) (r : Result) (f : State → Step) → IsStep row n (f r.state) → IsStep row n (behind r f)
behind_is row n r f h = go (f r.state) h
  where
    go : (s : Step) → IsStep row n s → IsStep row n (behind (record { state = r.state; records = r.records }) (λ (x : State). s))
    go (refused q k g) h = tt
    go (goes x) h = h
    go (ends x) h = h

then_is : (row : List Spine) (n : ℕ) (s : Step) (g : State → Step) → IsStep row n s → ((st : State) → Is row n st → IsStep row n (g st))
    → IsStep row n (and_then s g)
then_is row n (refused q k f) g h on = tt
then_is row n (goes r) g h on = behind_is row n r g (on r.state h)
then_is row n (ends r) g h on = h

note_is : {row : List Spine} {n : ℕ} (p v k j : ℕ) (t : Token) (x : Note) (st : State) → Is row n st → IsStep row n (add_note p v k j t x st)
unfolding add_note
note_is {row} {n} p v k j t x st h = go (ltb st.notes 100000) x.inferred
  where
    added : State → Result
    added s = record { state = with_notes (with_part s p (sounded (part_at s p) v t.bytes)) (s.notes + 1); records = note_record p v k j t.bytes x s ∷ [] }

    go : (few inferred : Bool)
        → IsStep row n (cond few (goes (after (cond inferred (notify 20 k j (span_of_token t) st) (quiet st)) added)) (refused 10 k 0))
    go true true = part_is p _ (notify 20 k j (span_of_token t) st).state (notify_is 20 k j (span_of_token t) st h)
    go true false = part_is p _ st h
    go false inferred = tt

outcome_is : {row : List Spine} {n : ℕ} (o : Outcome) (p v k j : ℕ) (t : Token) (st : State) → Is row n st → IsStep row n (by_outcome o p v k j t st)
outcome_is (Ok None) p v k j t st h = h
outcome_is (Err why) p v k j t st h = notify_is (notice_number why) k j (span_of_token t) st h
outcome_is (Ok (Some x)) p v k j t st h = note_is p v k j t x st h

signify_is : {row : List Spine} {n : ℕ} (bytes : List ℕ) (k j : ℕ) (st : State) → Is row n st → Is row n (signify bytes k j st).state
signify_is [] k j st h = h
signify_is (x ∷ xs) k j st h = signifiers_is k j (x ∷ xs) st h

token_is : {row : List Spine} {n : ℕ} (all : List (List ℕ)) (kern : List Bool) (p v k i : ℕ) (t : Token) (st : State) → Is row n st
    → IsStep row n (read_token_at all kern p v k i t st)
unfolding read_token_at
token_is {row} {n} all kern p v k i t st h =
    let r = signify (reported t.bytes) k (i + 1) st in
    let o = read_token t.bytes (inferred_for all kern i t.bytes) in
    either (IsStep row n) (is_null t.bytes) (goes (quiet st)) (behind r (by_outcome o p v k (i + 1) t)) h
    (behind_is row n r (by_outcome o p v k (i + 1) t) (outcome_is o p v k (i + 1) t r.state (signify_is (reported t.bytes) k (i + 1) st h)))

spine_is : {row : List Spine} {n : ℕ} (s : Spine) (all : List (List ℕ)) (kern : List Bool) (k i : ℕ) (t : Token) (st : State) → Is row n st
    → IsStep row n (read_spine s all kern k i t st)
spine_is (Line p v) all kern k i t st h = token_is all kern p v k i t st h
spine_is (Branch p) all kern k i t st h = h
spine_is Outside all kern k i t st h = h

tokens_are : {row : List Spine} {n : ℕ} (all : List (List ℕ)) (kern : List Bool) (k i : ℕ) (left : List Spine) (ts : List Token) (st : State) → Is row n st
    → IsStep row n (read_tokens all kern k i left ts st)
unfolding read_tokens
tokens_are all kern k i [] ts st h = h
tokens_are all kern k i (s ∷ left) [] st h = h
tokens_are {row} {n} all kern k i (s ∷ left) (t ∷ ts) st h =
    then_is row n (read_spine s all kern k i t st) (read_tokens all kern k (suc i) left ts) (spine_is s all kern k i t st h)
    (λ (x : State) (g : Is row n x). tokens_are all kern k (suc i) left ts x g)

pub data_is : {row : List Spine} {n : ℕ} (k : ℕ) (ts : List Token) (st : State) → Is row n st → IsStep row n (read_data k ts st)
unfolding read_data
data_is k ts st h = tokens_are (map (λ (t : Token). t.bytes) ts) (map is_kern_spine st.row) k 0 st.row ts st h
