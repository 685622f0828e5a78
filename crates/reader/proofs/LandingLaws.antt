-- Reading line by line with the buffer at hand comes to what the definition of the reading says.
use mathlib.Core.Path.{◌≡◌, refl, ap, ap₂, ◌∙◌}
use Prim.Native.Nat.{ℕ, ◌+◌}
use mathlib.Core.Bool.{Bool, true, false, cond, ◌||◌}
use mathlib.Core.List.{List, [], ◌∷◌, ◌++◌}
use lib.Dec.{eqb}
use lib.ListN.{length}
use Rattle.lines.specs.Lines.{without_crs, kind_of}
use Rattle.sheet.specs.Record.{Record}
use Rattle.reading.specs.State.{State, Result, Step, refused as refused-step, goes, ends}
use Rattle.reading.specs.Records.{read_line, is_record}
use Rattle.reading.specs.Text.{Answer, refusal, accepted, finish, read_lines}
use Rattle.state.specs.Lay.{laid, behind}
use Rattle.state.specs.View.{landed}
use Rattle.state.proofs.LayLaws.{laid_append, behind_append}
use Rattle.reader.specs.Landing.{Finished, refused, written, finished, final_records, finish_at, line_at, lines_at}

-- the end, where the records before it are laid
finish_at_lem : (begun : Bool) (before : List Record) (st : State) (out : List ℕ)
    → finished (finish begun before st) out ≡ finish_at begun st (behind 0 before) (laid out 0 before)
unfolding finish finish_at
finish_at_lem false before st out = refl
finish_at_lem true before st out = go (eqb st.notes 0) refl
  where
    go : (t : Bool) → eqb st.notes 0 ≡ t
        → finished (cond t (refusal 12 0 0) (accepted (length st.parts) st.notes (before ++ final_records st))) out
        ≡ cond t (refused 12 0 0) (written (length st.parts) st.notes (behind (behind 0 before) (final_records st)) (laid (laid out 0 before) (behind 0 before) (final_records st)))
    go true e = refl
    go false e = ap₂ (written (length st.parts) st.notes) (behind_append before (final_records st) 0) (laid_append before (final_records st) out 0)

-- what read_lines comes to after a line's step
abbrev answer_after : Step → List Record → (Result → Answer) → Answer
answer_after (refused-step n m f) before rest = refusal n m f
answer_after (goes r) before rest = rest r
answer_after (ends r) before rest = finish true (before ++ r.records) r.state

-- a line, where what comes after it agrees
step_at : (s : Step) (before : List Record) (out : List ℕ) (rest : Result → Answer) (rest_at : State → ℕ → List ℕ → Finished)
    → ((r : Result) → finished (rest r) out ≡ rest_at r.state (behind 0 (before ++ r.records)) (laid out 0 (before ++ r.records)))
    → finished (answer_after s before rest) out ≡ line_at (landed s (laid out 0 before) (behind 0 before)) rest_at
step_at (refused-step n m f) before out rest rest_at agrees = refl
step_at (goes r) before out rest rest_at agrees =
    agrees r ∙ ap₂ (rest_at r.state) (behind_append before r.records 0) (laid_append before r.records out 0)
step_at (ends r) before out rest rest_at agrees =
    finish_at_lem true (before ++ r.records) r.state out
    ∙ ap₂ (finish_at true r.state) (behind_append before r.records 0) (laid_append before r.records out 0)

lines_step : (begun : Bool) (k offset : ℕ) (before : List Record) (st : State) (l : List ℕ) (ls : List (List ℕ)) (s : Step)
    → read_line begun (k + 1) offset (without_crs l) st ≡ s
    → read_lines begun k offset before st (l ∷ ls)
    ≡ answer_after s before (λ (r : Result). read_lines (begun || is_record (kind_of (without_crs l))) (k + 1) (offset + length l + 1) (before ++ r.records) r.state ls)
unfolding read_lines
lines_step begun k offset before st l ls (refused-step n m f) e = rw (e, read_lines)
lines_step begun k offset before st l ls (goes r) e = rw (e, read_lines)
lines_step begun k offset before st l ls (ends r) e = rw (e, read_lines)

pub lines_at_lem : (begun : Bool) (k offset : ℕ) (before : List Record) (st : State) (ls : List (List ℕ)) (out : List ℕ)
    → finished (read_lines begun k offset before st ls) out ≡ lines_at begun k offset ls st (behind 0 before) (laid out 0 before)
unfolding read_lines lines_at
lines_at_lem begun k offset before st [] out = finish_at_lem begun before st out
lines_at_lem begun k offset before st (l ∷ ls) out =
    let begun' = begun || is_record (kind_of (without_crs l)) in
    ap (λ (a : Answer). finished a out) (lines_step begun k offset before st l ls (read_line begun (k + 1) offset (without_crs l) st) refl)
    ∙ step_at (read_line begun (k + 1) offset (without_crs l) st) before out
    (λ (r : Result). read_lines begun' (k + 1) (offset + length l + 1) (before ++ r.records) r.state ls)
    (lines_at begun' (k + 1) (offset + length l + 1) ls)
    (λ (r : Result). lines_at_lem begun' (k + 1) (offset + length l + 1) (before ++ r.records) r.state ls out)
