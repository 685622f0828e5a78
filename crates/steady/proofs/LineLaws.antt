-- Line after line: the row is short, its parts are among the state's, and the counts are small.
use Rattle.std.proofs.Common.{Ok, Err}
use mathlib.Core.Path.{◌≡◌, refl, sym, subst}
use Prim.Native.Nat.{ℕ}
use native.Mathlib.Omega.{arith}
use mathlib.Core.Bool.{Bool, true, false, cond, not}
use mathlib.Core.List.{List, [], ◌∷◌, map}
use lib.Dec.{eqb, ltb}
use lib.ListN.{length, length-map}
use borrow.Author.Tests.{ltb-false}
use Rattle.lines.specs.Lines.{kind_of}
use Rattle.lines.specs.Tokens.{tokens_of, is_kern, is_exclusive}
use Rattle.lines.specs.declared.Kind.{Kind}
use Rattle.lines.specs.declared.Kind.TheVariants.{Empty, Reference, Comment, Star, Bar, Data}
use Rattle.std.proofs.Common.{Option, Some, None}
use Rattle.std.specs.Option.{option_map_or}
use Rattle.repair.specs.Repair.{each, repaired, Repaired, repaired_of, repair_notice}
use Rattle.repair.specs.declared.Repair.{Repair}
use Rattle.repair.specs.declared.Unrepaired.TheVariants.{Uneven, Mixed}
use Rattle.paths.specs.declared.Spine.{Spine}
use Rattle.paths.specs.Text.{header_row}
use Rattle.paths.specs.Token.{path_token}
use Rattle.paths.specs.Voices.{Outcome, next, mixed, voiceless, wide, step_row}
use Rattle.sheet.specs.Record.{span_of}
use Rattle.reading.specs.State.{State, Result, Step, refused, goes, ends, start, with_row, with_parts}
use Rattle.reading.specs.Notices.{Token, placed, quiet, notify}
use Rattle.reading.specs.Header.{notice_others, fresh_parts, any_kern, read_header}
use Rattle.reading.specs.Star.{read_columns, to_row, read_star}
use Rattle.reading.specs.Notes.{behind}
use Rattle.reading.specs.Records.{notice_repair, by_kind, by_repair, on_row, on_record, by_line, read_line}
use Rattle.state.specs.Ready.{Steady}
use Rattle.extent.proofs.StateLaws.{either, Holds}
use Rattle.steady.proofs.RowLaws.{Firm, OutcomeFirm, inside_within, header_in, step_firm}
use Rattle.steady.proofs.KeepLaws.{Is, IsStep, notify_is, reference_is, others_are, columns_are, bar_is, data_is}
use Rattle.paths.proofs.TextLaws.{header_length}

-- a state whose row is short, and of its parts
abbrev pub Firmly : State → Type 0
Firmly st = Firm st.row (length st.parts)

abbrev StepFirm : Step → Type 0
StepFirm (refused q k f) = Unit {0}
StepFirm (goes r) = Firmly r.state
StepFirm (ends r) = Firmly r.state

is_firm : (row : List Spine) (n : ℕ) (x : State) → Is row n x → Firm row n → Firmly x
is_firm row n x h f =
    subst (λ (m : ℕ). Firm x.row m) (sym h.1) (subst (λ (r : List Spine). Firm r n) (sym h.0) f)

step_is_firm : (row : List Spine) (n : ℕ) (s : Step) → IsStep row n s → Firm row n → StepFirm s
step_is_firm row n (refused q k f) h g = tt
step_is_firm row n (goes r) h g = is_firm row n r.state h g
step_is_firm row n (ends r) h g = is_firm row n r.state h g

-- ---- the header
header_firm : (k at : ℕ) (s : List ℕ) (st : State) → StepFirm (read_header k at s st)
unfolding read_header
header_firm k at s st = go (not (each is_exclusive ts)) (ltb 256 (length ts)) (not (any_kern ks)) refl
  where
    ts : List (List ℕ)
    ts = tokens_of s

    ks : List Bool
    ks = map is_kern ts

    begun : State
    begun = with_parts (with_row st (header_row ks)) (fresh_parts 0 ks)

    go : (x y z : Bool) → ltb 256 (length ts) ≡ y
        → StepFirm (cond x (refused 3 k 0) (cond y (refused 4 k (length ts)) (cond z (refused 5 k 0) (goes (notice_others k 1 (placed at ts) begun)))))
    go true y z e = tt
    go false true z e = tt
    go false false true e = tt
    go false false false e =
        is_firm (header_row ks) (length (fresh_parts 0 ks)) (notice_others k 1 (placed at ts) begun).state (others_are k 1 (placed at ts) begun (refl, refl))
        (omega (arith, ltb-false 256 (length ts) e, header_length 0 ks, length-map ts is_kern), header_in (length (fresh_parts 0 ks)) 0 ks (omega arith))

-- ---- star records
row_firm : (n k : ℕ) (r : Result) (o : Outcome) → length r.state.parts ≡ n → OutcomeFirm n o → StepFirm (to_row k r o)
row_firm n k r (next row) e h = subst (λ (m : ℕ). Firm row m) (sym e) h
row_firm n k r (mixed c) e h = tt
row_firm n k r (voiceless p) e h = tt
row_firm n k r (wide m) e h = tt

star_firm : (k : ℕ) (ts : List Token) (st : State) → Firmly st → StepFirm (read_star k ts st)
unfolding read_star
star_firm k ts st h =
    let ps = map (λ (t : Token). path_token t.bytes) ts in
    let r = read_columns ps k 0 st.row ts st in
    let same : Is st.row (length st.parts) r.state = columns_are ps k 0 st.row ts st (refl, refl) in
    row_firm (length st.parts) k r (step_row st.row ps) same.1 (step_firm (length st.parts) st.row ps h.1)

-- ---- any record, any line
kind_firm : (x : Kind) (k : ℕ) (ts : List Token) (st : State) → Firmly st → StepFirm (by_kind x k ts st)
kind_firm Empty k ts st h = h
kind_firm Reference k ts st h = h
kind_firm Comment k ts st h = h
kind_firm Star k ts st h = star_firm k ts st h
kind_firm Bar k ts st h = step_is_firm st.row (length st.parts) (by_kind Bar k ts st) (bar_is ts st (refl, refl)) h
kind_firm Data k ts st h = step_is_firm st.row (length st.parts) (by_kind Data k ts st) (data_is k ts st (refl, refl)) h

behind_firm : (r : Result) (f : State → Step) → StepFirm (f r.state) → StepFirm (behind r f)
behind_firm r f h = go (f r.state) h
  where
    go : (s : Step) → StepFirm s → StepFirm (behind (record { state = r.state; records = r.records }) (λ (x : State). s))
    go (refused q k g) h = tt
    go (goes x) h = h
    go (ends x) h = h

notify_firm : (number k j : ℕ) (at len : ℕ) (st : State) → Firmly st → Firmly (notify number k j (span_of at len) st).state
notify_firm number k j at len st h =
    is_firm st.row (length st.parts) (notify number k j (span_of at len) st).state (notify_is number k j (span_of at len) st (refl, refl)) h

repair_firm : (r : Repair) (k at : ℕ) (s : List ℕ) (st : State) → Firmly st → Firmly (notice_repair r k at s st).state
unfolding notice_repair
repair_firm r k at s st h = go (repair_notice r)
  where
    go : (o : Option ℕ) → Firmly (option_map_or (λ (n : ℕ). notify n k 0 (span_of at (length s)) st) o (quiet st)).state
    go None = h
    go (Some n) = notify_firm n k 0 at (length s) st h

repaired_firm : (x : Repaired) (k at : ℕ) (s : List ℕ) (ts : List Token) (st : State) → Firmly st → StepFirm (by_repair x k at s ts st)
repaired_firm (Err (Uneven count)) k at s ts st h = tt
repaired_firm (Err Mixed) k at s ts st h = tt
repaired_firm (Ok r) k at s ts st h =
    let x = notice_repair r k at s st in
    behind_firm x (by_kind (kind_of s) k ts) (kind_firm (kind_of s) k ts x.state (repair_firm r k at s st h))

on_row_firm : (row : List Spine) (k at : ℕ) (s : List ℕ) (st : State) → Firmly st → StepFirm (on_row row k at s st)
on_row_firm [] k at s st h = notify_firm 3 k 0 at (length s) st h
on_row_firm (x ∷ row) k at s st h =
    let n = length (x ∷ row) in
    let ts = repaired n (tokens_of s) in
    repaired_firm (repaired_of n (tokens_of s)) k at s (placed at ts) st h

record_firm : (begun : Bool) (k at : ℕ) (s : List ℕ) (st : State) → Firmly st → StepFirm (on_record begun k at s st)
record_firm true k at s st h = on_row_firm st.row k at s st h
record_firm false k at s st h = header_firm k at s st

by_firm : (x : Kind) (begun : Bool) (k at : ℕ) (s : List ℕ) (st : State) → Firmly st → StepFirm (by_line x begun k at s st)
by_firm Empty begun k at s st h = h
by_firm Reference begun k at s st h = step_is_firm st.row (length st.parts) (by_line Reference begun k at s st) (reference_is k at s st (refl, refl)) h
by_firm Comment begun k at s st h = h
by_firm Star begun k at s st h = record_firm begun k at s st h
by_firm Bar begun k at s st h = record_firm begun k at s st h
by_firm Data begun k at s st h = record_firm begun k at s st h

step_firm_all : (begun : Bool) (k at : ℕ) (s : List ℕ) (st : State) → Firmly st → StepFirm (read_line begun k at s st)
unfolding read_line
step_firm_all begun k at s st h = by_firm (kind_of s) begun k at s st h

pub line_firm : (begun : Bool) (k at : ℕ) (s : List ℕ) (st : State) (r : Result) → Firmly st → read_line begun k at s st ≡ goes r → Firmly r.state
line_firm begun k at s st r h e = subst StepFirm e (step_firm_all begun k at s st h)

pub start_firm : Firmly start
start_firm = (omega arith, tt)

-- ---- what the code of the reader counts on
pub firm_steady : {b n : ℕ} (st : State) → Holds b n st → Firmly st → Steady st
firm_steady st h f = record {
  row_short = f.0;
  parts_few = h.parts_few;
  bars_few = omega (arith, h.closed, h.notes_few);
  within = inside_within (length st.parts) st.row f.1;
}
