-- Where a line is refused: by one of the questions 1 to 12 or by 17, with its own number, and questions 17 and 8 stop star records only.
use Rattle.std.proofs.Common.{Ok, Err}
use Prim.Native.Nat.{ℕ, suc, ◌+◌, ◌<◌, ◌≤◌}
use native.Mathlib.Omega.{arith}
use mathlib.Core.Bool.{Bool, true, false, cond, not}
use mathlib.Core.List.{List, [], ◌∷◌, ◌++◌, map}
use mathlib.Core.Logic.{◌⊎◌, inl, inr}
use mathlib.Core.Path.{◌≡◌, refl, sym, ap, subst, ◌∙◌}
use lib.Dec.{ltb}
use lib.ListN.{length}
use Rattle.lines.specs.Lines.{kind_of}
use Rattle.lines.specs.Tokens.{tokens_of, is_null, is_kern, is_exclusive}
use Rattle.lines.specs.declared.Kind.{Kind}
use Rattle.lines.specs.declared.Kind.TheVariants.{Empty, Reference, Comment, Star, Bar, Data}
use Rattle.token.specs.Outcome.{Outcome, read_token, reported}
use Rattle.token.specs.declared.outcome.Note.{Note}
use Rattle.std.specs.Prelude.{Some, None, Ok, Err}
use Rattle.paths.specs.declared.PathToken.{PathToken}
use Rattle.paths.specs.declared.Spine.{Spine}
use Rattle.paths.specs.declared.Spine.TheVariants.{Line, Branch, Outside}
use Rattle.paths.specs.Token.{path_token}
use Rattle.paths.specs.Voices.{Outcome as RowOutcome, next, mixed, voiceless, wide, step_row}
use Rattle.paths.specs.Text.{Reading, reached, ended, refused as row_refusal, reading}
use Rattle.repair.specs.Repair.{each, repaired, Repaired, repaired_of}
use Rattle.repair.specs.declared.Repair.{Repair}
use Rattle.repair.specs.declared.Unrepaired.TheVariants.{Uneven, Mixed}
use Rattle.reading.specs.State.{State, Result, Step, refused, goes, ends}
use Rattle.reading.specs.Notices.{Token, quiet, placed}
use Rattle.reading.specs.Header.{any_kern, read_header}
use Rattle.reading.specs.Star.{read_columns, to_row, read_star}
use Rattle.reading.specs.Notes.{add_note, behind, by_outcome, signify, inferred_for, read_token_at, read_spine, and_then, read_tokens, read_data}
use Rattle.reading.specs.Records.{notice_repair, by_kind, by_repair, on_row, on_record, by_line, read_line}
use Rattle.account.proofs.ResultLaws.{repair_adds}
use Rattle.account.proofs.RecordLaws.{paths}
use Rattle.reading.proofs.StateLaws.{placed_bytes}
use Rattle.account.proofs.LineLaws.{record_line}

-- what a star record comes to: its row of spines, or the question that stops it
abbrev pub star_reading : State → List (List ℕ) → Reading
star_reading st ts = reading (step_row st.row (map path_token ts))

-- a star record behind the header, stopped by question n with figure f
pub record StarStopped (begun : Bool) (bytes : List ℕ) (st : State) (n f : ℕ) : Type 0 where
  pub behind_header : begun ≡ true
  pub is_star_lem : kind_of bytes ≡ Star
  pub some_spine : 0 < length st.row
  pub repair : Repair
  pub even : repaired_of (length st.row) (tokens_of bytes) ≡ Ok repair
  pub stops : star_reading st (repaired (length st.row) (tokens_of bytes)) ≡ row_refusal n f

-- a question of the reading
abbrev pub Asked : ℕ → Type 0
Asked n = (1 ≤ n) × ((n ≤ 12) ⊎ (n ≡ 17))

-- one of the two that concern a row
abbrev pub OfRow : ℕ → Type 0
OfRow n = (n ≡ 8) ⊎ (n ≡ 17)

-- a step that is no refusal, or one by such a question on line k, with a question of the row only where P says so of its number and figure
module _ (k : ℕ) (P : ℕ → ℕ → Type 0) where
  abbrev pub Stops : Step → Type 0
  Stops (refused n m f) = (m ≡ k) × (Asked n × (OfRow n → P n f))
  Stops (goes r) = Unit {0}
  Stops (ends r) = Unit {0}

  behind_stops : (q : Result) (f : State → Step) → Stops (f q.state) → Stops (behind q f)
  behind_stops q f = go (f q.state)
    where
      go : (s : Step) → Stops s → Stops (behind q (λ x. s))
      go (refused n m g) e = e
      go (goes r) e = tt
      go (ends r) e = tt

  then_stops : (s : Step) (f : State → Step) → Stops s → ((st : State) → Stops (f st)) → Stops (and_then s f)
  then_stops (refused n m g) f e later = e
  then_stops (goes r) f e later = behind_stops r f (later r.state)
  then_stops (ends r) f e later = tt

  -- another question
  other : (n f : ℕ) → 1 ≤ n → n ≤ 12 → (n ≡ 8 → ⊥) → Stops (refused n k f)
  other n f l h d = (refl, ((l, inl h), no))
    where
      no : OfRow n → P n f
      no (inl e) = absurd (d e)
      no (inr e) = absurd (omega arith)

  -- ---- data records

  add_stops : (p v j : ℕ) (t : Token) (n : Note) (st : State) → Stops (add_note p v k j t n st)
  unfolding add_note
  add_stops p v j t n st = go (ltb st.notes 100000) _
    where
      go : (b : Bool) (r : Result) → Stops (cond b (goes r) (refused 10 k 0))
      go true r = tt
      go false r = other 10 0 (omega arith) (omega arith) (λ e. omega arith)

  outcome_stops : (o : Outcome) (p v j : ℕ) (t : Token) (st : State) → Stops (by_outcome o p v k j t st)
  outcome_stops (Ok None) p v j t st = tt
  outcome_stops (Err why) p v j t st = tt
  outcome_stops (Ok (Some n)) p v j t st = add_stops p v j t n st

  module _ (all : List (List ℕ)) (kern : List Bool) where
    token_stops : (p v i : ℕ) (t : Token) (st : State) → Stops (read_token_at all kern p v k i t st)
    unfolding read_token_at
    token_stops p v i t st = go (quiet st) _ (is_null t.bytes)
        (behind_stops (signify (reported t.bytes) k (i + 1) st) (by_outcome (read_token t.bytes (inferred_for all kern i t.bytes)) p v k (i + 1) t)
        (outcome_stops (read_token t.bytes (inferred_for all kern i t.bytes)) p v (i + 1) t _))
      where
        go : (r : Result) (s : Step) (b : Bool) → Stops s → Stops (cond b (goes r) s)
        go r s true e = tt
        go r s false e = e

    spine_stops : (s : Spine) (i : ℕ) (t : Token) (st : State) → Stops (read_spine s all kern k i t st)
    spine_stops (Line p v) i t st = token_stops p v i t st
    spine_stops (Branch p) i t st = tt
    spine_stops Outside i t st = tt

    tokens_stop : (i : ℕ) (row : List Spine) (ts : List Token) (st : State) → Stops (read_tokens all kern k i row ts st)
    unfolding read_tokens
    tokens_stop i [] ts st = tt
    tokens_stop i (s ∷ row) [] st = tt
    tokens_stop i (s ∷ row) (t ∷ ts) st = then_stops (read_spine s all kern k i t st) (read_tokens all kern k (suc i) row ts) (spine_stops s i t st) (tokens_stop (suc i) row ts)

  data_stops : (ts : List Token) (st : State) → Stops (read_data k ts st)
  unfolding read_data
  data_stops ts st = tokens_stop _ _ 0 st.row ts st

  -- ---- the header

  header_stops : (offset : ℕ) (bytes : List ℕ) (st : State) → Stops (read_header k offset bytes st)
  unfolding read_header
  header_stops offset bytes st = go (not (each is_exclusive (tokens_of bytes))) (ltb 256 (length (tokens_of bytes))) (not (any_kern (map is_kern (tokens_of bytes)))) _
    where
      go : (a b c : Bool) (r : Result) → Stops (cond a (refused 3 k 0) (cond b (refused 4 k (length (tokens_of bytes))) (cond c (refused 5 k 0) (goes r))))
      go true b c r = other 3 0 (omega arith) (omega arith) (λ e. omega arith)
      go false true c r = other 4 (length (tokens_of bytes)) (omega arith) (omega arith) (λ e. omega arith)
      go false false true r = other 5 0 (omega arith) (omega arith) (λ e. omega arith)
      go false false false r = tt

-- ---- a star record

pub star_stops : (k : ℕ) (ts : List (List ℕ)) (us : List Token) (st : State) → map (λ (t : Token). t.bytes) us ≡ ts
    → Stops k (λ n f. star_reading st ts ≡ row_refusal n f) (read_star k us st)
unfolding read_star
star_stops k ts us st e =
    go (read_columns (map (λ (t : Token). path_token t.bytes) us) k 0 st.row us st) (step_row st.row (map (λ (t : Token). path_token t.bytes) us))
    (ap (λ (l : List PathToken). step_row st.row l) (paths us) ∙ ap (λ (l : List (List ℕ)). step_row st.row (map path_token l)) e)
  where
    go : (c : Result) (o : RowOutcome) → o ≡ step_row st.row (map path_token ts) → Stops k (λ n f. star_reading st ts ≡ row_refusal n f) (to_row k c o)
    go c (next row) e = tt
    go c (mixed m) e = (refl, ((omega arith, inr refl), λ x. ap reading (sym e)))
    go c (voiceless p) e = (refl, ((omega arith, inl (omega arith)), λ x. ap reading (sym e)))
    go c (wide n) e = (refl, ((omega arith, inl (omega arith)), λ x. ap reading (sym e)))

-- ---- any line

stops_map : (k : ℕ) (P Q : ℕ → ℕ → Type 0) (s : Step) → ((n f : ℕ) → P n f → Q n f) → Stops k P s → Stops k Q s
stops_map k P Q (refused n m f) i e = (e.0, (e.1.0, λ x. i n f (e.1.1 x)))
stops_map k P Q (goes r) i e = tt
stops_map k P Q (ends r) i e = tt

module _ (k offset : ℕ) (bytes : List ℕ) (st : State) where
  even_stops : (p : Repair) → 0 < length st.row → repaired_of (length st.row) (tokens_of bytes) ≡ Ok p → (kind : Kind) → kind_of bytes ≡ kind
      → Stops k (StarStopped true bytes st) (behind (notice_repair p k offset bytes st) (by_kind kind k (placed offset (repaired (length st.row) (tokens_of bytes)))))
  even_stops p l e kind i = behind_stops k (StarStopped true bytes st) q (by_kind kind k us) (go kind i)
    where
      ts : List (List ℕ)
      ts = repaired (length st.row) (tokens_of bytes)

      us : List Token
      us = placed offset ts

      q : Result
      q = notice_repair p k offset bytes st

      row : q.state.row ≡ st.row
      row = (repair_adds p k offset bytes st).row

      stopped : kind_of bytes ≡ Star → (n f : ℕ) → star_reading q.state ts ≡ row_refusal n f → StarStopped true bytes st n f
      stopped i n f v = record {
        behind_header = refl;
        is_star_lem = i;
        some_spine = l;
        repair = p;
        even = e;
        stops = ap (λ (row : List Spine). reading (step_row row (map path_token ts))) (sym row) ∙ v;
      }

      go : (kind : Kind) → kind_of bytes ≡ kind → Stops k (StarStopped true bytes st) (by_kind kind k us q.state)
      go Empty i = tt
      go Reference i = tt
      go Comment i = tt
      go Star i = stops_map k (λ n f. star_reading q.state ts ≡ row_refusal n f) (StarStopped true bytes st) (read_star k us q.state) (stopped i) (star_stops k ts us q.state (placed_bytes offset ts))
      go Bar i = tt
      go Data i = data_stops k (StarStopped true bytes st) us q.state

  row_stops : Stops k (StarStopped true bytes st) (on_row st.row k offset bytes st)
  row_stops = by_row st.row refl
    where
      by_repair_lem : 0 < length st.row → (o : Repaired) → repaired_of (length st.row) (tokens_of bytes) ≡ o
          → Stops k (StarStopped true bytes st) (by_repair o k offset bytes (placed offset (repaired (length st.row) (tokens_of bytes))) st)
      by_repair_lem l (Err (Uneven c)) e = other k (StarStopped true bytes st) 6 c (omega arith) (omega arith) (λ x. omega arith)
      by_repair_lem l (Err Mixed) e = other k (StarStopped true bytes st) 7 0 (omega arith) (omega arith) (λ x. omega arith)
      by_repair_lem l (Ok p) e = even_stops p l e (kind_of bytes) refl

      by_row : (row : List Spine) → st.row ≡ row → Stops k (StarStopped true bytes st) (on_row row k offset bytes st)
      by_row [] e = tt
      by_row (s ∷ row) e =
          subst (λ (w : ℕ). Stops k (StarStopped true bytes st) (by_repair (repaired_of w (tokens_of bytes)) k offset bytes (placed offset (repaired w (tokens_of bytes))) st)) (ap length e)
          (by_repair_lem (omega (arith, ap length e)) (repaired_of (length st.row) (tokens_of bytes)) refl)

  record_stops : (begun : Bool) → Stops k (StarStopped begun bytes st) (on_record begun k offset bytes st)
  record_stops true = row_stops
  record_stops false = header_stops k (StarStopped false bytes st) offset bytes st

  -- a line is refused with its own number, and by questions 17 and 8 only where it is such a star record
  pub line_stops : (begun : Bool) → Stops k (StarStopped begun bytes st) (read_line begun k offset bytes st)
  unfolding read_line
  line_stops begun = go (kind_of bytes)
    where
      go : (kind : Kind) → Stops k (StarStopped begun bytes st) (by_line kind begun k offset bytes st)
      go Empty = tt
      go Reference = tt
      go Comment = tt
      go Star = record_stops begun
      go Bar = record_stops begun
      go Data = record_stops begun

-- ---- a star record behind the header, whose questions 6 and 7 pass

abbrev pub StarIs : ℕ → Reading → Step → Type 0
StarIs k (reached row) s = (r : Result) × (s ≡ goes r)
StarIs k ended s = ⊥
StarIs k (row_refusal n f) s = s ≡ refused n k f

behind_star : (k : ℕ) (o : Reading) (q : Result) (f : State → Step) → StarIs k o (f q.state) → StarIs k o (behind q f)
behind_star k (reached row) q f e = (record { state = e.0.state; records = q.records ++ e.0.records }, ap (λ (s : Step). behind q (λ x. s)) e.1)
behind_star k ended q f e = e
behind_star k (row_refusal n g) q f e = ap (λ (s : Step). behind q (λ x. s)) e

read_star_lem : (k : ℕ) (ts : List (List ℕ)) (us : List Token) (st : State) → map (λ (t : Token). t.bytes) us ≡ ts → StarIs k (star_reading st ts) (read_star k us st)
unfolding read_star
read_star_lem k ts us st e =
    subst (λ (l : List PathToken). StarIs k (reading (step_row st.row l)) (read_star k us st)) (paths us ∙ ap (λ (l : List (List ℕ)). map path_token l) e)
    (go (step_row st.row (map (λ (t : Token). path_token t.bytes) us)) (read_columns (map (λ (t : Token). path_token t.bytes) us) k 0 st.row us st))
  where
    go : (o : RowOutcome) (c : Result) → StarIs k (reading o) (to_row k c o)
    go (next row) c = (_, refl)
    go (mixed m) c = refl
    go (voiceless p) c = refl
    go (wide n) c = refl

pub star_is : (k offset : ℕ) (bytes : List ℕ) (st : State) (p : Repair) → kind_of bytes ≡ Star → 0 < length st.row → repaired_of (length st.row) (tokens_of bytes) ≡ Ok p
    → StarIs k (star_reading st (repaired (length st.row) (tokens_of bytes))) (read_line true k offset bytes st)
star_is k offset bytes st p i l e =
    subst (StarIs k (star_reading st (repaired (length st.row) (tokens_of bytes)))) (sym (record_line true k offset bytes st (rw i) ∙ by_row st.row refl))
    (behind_star k (star_reading st ts) q (read_star k (placed offset ts))
    (subst (λ (row : List Spine). StarIs k (reading (step_row row (map path_token ts))) (read_star k (placed offset ts) q.state)) (repair_adds p k offset bytes st).row
    (read_star_lem k ts (placed offset ts) q.state (placed_bytes offset ts))))
  where
    ts : List (List ℕ)
    ts = repaired (length st.row) (tokens_of bytes)

    q : Result
    q = notice_repair p k offset bytes st

    by_row : (row : List Spine) → st.row ≡ row → on_row row k offset bytes st ≡ behind q (read_star k (placed offset ts))
    by_row [] r = absurd (omega (arith, ap length r))
    by_row (s ∷ row) r =
        let even : repaired_of (length (s ∷ row)) (tokens_of bytes) ≡ Ok p = ap (λ (w : ℕ). repaired_of w (tokens_of bytes)) (sym (ap length r)) ∙ e in
        let same : repaired (length (s ∷ row)) (tokens_of bytes) ≡ ts = ap (λ (w : ℕ). repaired w (tokens_of bytes)) (sym (ap length r)) in
        rw (even, same, i)
