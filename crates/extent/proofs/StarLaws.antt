-- Star records: notices, and parts that have a note as before.
use mathlib.Core.Path.{◌≡◌, refl}
use Prim.Native.Nat.{ℕ, suc, ◌+◌}
use mathlib.Core.List.{List, [], ◌∷◌, map}
use mathlib.Core.Bool.{Bool, true, false}
use lib.ListN.{length}
use Rattle.sheet.specs.Record.{records_bytes}
use Rattle.interpretation.specs.Interpretation.{interpretation_of}
use Rattle.interpretation.specs.declared.Interpretation.{Interpretation}
use Rattle.interpretation.specs.declared.Interpretation.TheVariants.{Nothing, Clef, Key, Meter, Symbol, Tempo, Name, ShortName, Mode}
use Rattle.std.proofs.Common.{Ok, Err}
use Rattle.interpretation.specs.Unsupported.{notice_number, Says}
use Rattle.paths.specs.declared.PathToken.{PathToken}
use Rattle.paths.specs.declared.PathToken.TheVariants.{Split, Join, Exchange, End, Add, Other}
use Rattle.paths.specs.Token.{path_token}
use Rattle.paths.specs.declared.Spine.{Spine}
use Rattle.paths.specs.declared.Spine.TheVariants.{Line, Branch, Outside}
use Rattle.paths.specs.Voices.{Outcome, next, mixed, voiceless, wide, step_row}
use Rattle.reading.specs.State.{State, Result, part_at, with_part}
use Rattle.reading.specs.declared.Part.{Part}
use Rattle.reading.specs.Notices.{Token, span_of_token, quiet}
use Rattle.reading.specs.Star.{applied, heeded, interpret, column_by, paired, read_columns, to_row, read_star}
use Rattle.extent.proofs.StateLaws.{Holds, After, Passes, quiet_holds, after_holds, notify_holds, part_holds}

-- a part with something set
set_holds : {b n : ℕ} (p : ℕ) (x : Part) (st : State) → x.noted ≡ (part_at st p).noted → Holds b n st → After b n (quiet (with_part st p x))
set_holds p x st e h = quiet_holds (with_part st p x) (part_holds p x st e h)

applied_holds : {b n : ℕ} (i : Interpretation) (t : Token) (p : ℕ) (st : State) → Holds b n st → After b n (applied i t p (part_at st p) st)
applied_holds Nothing t p st h = quiet_holds st h
applied_holds (Clef clef) t p st h = set_holds p _ st refl h
applied_holds (Key fifths) t p st h = set_holds p _ st refl h
applied_holds (Meter n d) t p st h = set_holds p _ st refl h
applied_holds (Symbol s) t p st h = set_holds p _ st refl h
applied_holds (Tempo bpm) t p st h = set_holds p _ st refl h
applied_holds Name t p st h = set_holds p _ st refl h
applied_holds ShortName t p st h = set_holds p _ st refl h
applied_holds (Mode mode) t p st h = set_holds p _ st refl h

heeded_holds : {b n : ℕ} (says : Says) (k j : ℕ) (t : Token) (p : ℕ) (st : State) → Holds b n st → After b n (heeded says k j t p (part_at st p) st)
heeded_holds (Ok what) k j t p st h = applied_holds what t p st h
heeded_holds (Err why) k j t p st h = notify_holds (notice_number why) k j (span_of_token t) st h

interpret_holds : {b n : ℕ} (s : Spine) (k j : ℕ) (t : Token) (st : State) → Holds b n st → After b n (interpret s k j t st)
interpret_holds (Line p v) k j t st h = heeded_holds (interpretation_of t.bytes (part_at st p).noted) k j t p st h
interpret_holds (Branch p) k j t st h = quiet_holds st h
interpret_holds Outside k j t st h = quiet_holds st h

column_holds : {b n : ℕ} (x : PathToken) (two : Bool) (s : Spine) (k j : ℕ) (t : Token) (st : State) → Holds b n st → After b n (column_by x two s k j t st)
column_holds Split two s k j t st h = quiet_holds st h
column_holds Join two s k j t st h = quiet_holds st h
column_holds Exchange true s k j t st h = quiet_holds st h
column_holds Exchange false s k j t st h = interpret_holds s k j t st h
column_holds End two s k j t st h = quiet_holds st h
column_holds Add two s k j t st h = notify_holds 7 k j (span_of_token t) st h
column_holds Other two s k j t st h = interpret_holds s k j t st h

columns_hold : {b n : ℕ} (ps : List PathToken) (k i : ℕ) (row : List Spine) (ts : List Token) (st : State) → Holds b n st → After b n (read_columns ps k i row ts st)
unfolding read_columns
columns_hold ps k i [] ts st h = quiet_holds st h
columns_hold ps k i (s ∷ row) [] st h = quiet_holds st h
columns_hold {b} {n} ps k i (s ∷ row) (t ∷ ts) st h =
    let r = column_by (path_token t.bytes) (paired ps i) s k (i + 1) t st in
    after_holds n r (read_columns ps k (suc i) row ts)
    (columns_hold {b = b} {n = n + length (records_bytes r.records)} ps k (suc i) row ts r.state (column_holds (path_token t.bytes) (paired ps i) s k (i + 1) t st h))

row_holds : {b : ℕ} (n k : ℕ) (r : Result) (o : Outcome) → After b n r → Passes b n (to_row k r o)
row_holds n k r (next row) h = h
row_holds n k r (mixed c) h = tt
row_holds n k r (voiceless p) h = tt
row_holds n k r (wide m) h = tt

pub star_holds : {b n : ℕ} (k : ℕ) (ts : List Token) (st : State) → Holds b n st → Passes b n (read_star k ts st)
unfolding read_star
star_holds {n = n} k ts st h =
    let ps = map (λ (t : Token). path_token t.bytes) ts in
    row_holds n k (read_columns ps k 0 st.row ts st) (step_row st.row ps) (columns_hold ps k 0 st.row ts st h)
