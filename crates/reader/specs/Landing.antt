-- A text read line by line, its records laid in a buffer as they arise.
use Rattle.std.specs.Prelude.{ℕ, ◌+◌, Bool, true, false, cond, ◌||◌, List, [], ◌∷◌, ◌++◌, eqb, length}
use Rattle.lines.specs.Lines.{without_crs, kind_of}
use Rattle.lines.specs.declared.Kind.{Kind}
use Rattle.lines.specs.declared.Kind.TheVariants.{Empty, Reference, Comment, Star, Bar, Data}
use Rattle.sheet.specs.Record.{Record}
use Rattle.reading.specs.State.{State}
use Rattle.reading.specs.Records.{read_line, is_record}
use Rattle.reading.specs.Text.{Answer, refusal, accepted, last_closing, last_records}
use Rattle.state.specs.Lay.{laid, behind}
use Rattle.state.specs.View.{Landed, stopped, going, ending, landed}

-- "empty lines count but do nothing"; "Other `!` lines are dropped."
abbrev pub is_passed : Kind → Bool
is_passed Empty = true
is_passed Reference = false
is_passed Comment = true
is_passed Star = false
is_passed Bar = false
is_passed Data = false

-- a refusal; or the parts, the notes, the place behind the records, and the buffer
pub data Finished : Type 0 where
  refused : ℕ → ℕ → ℕ → Finished
  written : ℕ → ℕ → ℕ → List ℕ → Finished

-- what a text comes to, its records laid from the start of a buffer
abbrev pub finished : Answer → List ℕ → Finished
finished (refusal n l f) out = refused n l f
finished (accepted parts notes rs) out = written parts notes (behind 0 rs) (laid out 0 rs)

-- the records at the end: the last closing's, PARTs and END
abbrev pub final_records : State → List Record
final_records st = (last_closing st).records ++ last_records (last_closing st).state

unfoldable pub finish_at : Bool → State → ℕ → List ℕ → Finished
finish_at begun st at out =
    cond begun
    (cond (eqb st.notes 0) (refused 12 0 0)
    (written (length st.parts) st.notes (behind at (final_records st)) (laid out at (final_records st))))
    (refused 11 0 0)

abbrev pub line_at : Landed → (State → ℕ → List ℕ → Finished) → Finished
line_at (stopped n l f) rest = refused n l f
line_at (going st at out) rest = rest st at out
line_at (ending st at out) rest = finish_at true st at out

-- the lines from the one of number k + 1 on, which begins at an offset of the text
unfoldable pub lines_at : Bool → ℕ → ℕ → List (List ℕ) → State → ℕ → List ℕ → Finished
lines_at begun k offset [] st at out = finish_at begun st at out
lines_at begun k offset (l ∷ ls) st at out =
    line_at (landed (read_line begun (k + 1) offset (without_crs l) st) out at)
    (lines_at (begun || is_record (kind_of (without_crs l))) (k + 1) (offset + length l + 1) ls)
