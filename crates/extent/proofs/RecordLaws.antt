-- A line pays five bytes for each of its own.
use Rattle.std.proofs.Common.{Ok, Err}
use mathlib.Core.Path.{◌≡◌, refl}
use Prim.Native.Nat.{ℕ, ◌+◌, ◌*◌, ◌≤◌}
use native.Mathlib.Omega.{arith}
use mathlib.Core.List.{List, [], ◌∷◌}
use mathlib.Core.Bool.{Bool, true, false}
use lib.Dec.{eqb}
use lib.ListN.{length}
use Rattle.lines.specs.Lines.{kind_of}
use Rattle.lines.specs.Tokens.{tokens_of}
use Rattle.lines.specs.declared.Kind.{Kind}
use Rattle.lines.specs.declared.Kind.TheVariants.{Empty, Reference, Comment, Star, Bar, Data}
use Rattle.repair.specs.Repair.{repaired, Repaired, repaired_of, repair_notice}
use Rattle.repair.specs.declared.Repair.{Repair}
use Rattle.repair.specs.declared.Unrepaired.TheVariants.{Uneven, Mixed}
use Rattle.paths.specs.declared.Spine.{Spine}
use Rattle.sheet.specs.Record.{span_of}
use Rattle.reading.specs.State.{State}
use Rattle.reading.specs.Notices.{Token, placed, quiet, notify}
use Rattle.reading.specs.Records.{notice_repair, by_kind, by_repair, on_row, on_record, by_line, read_line}
use Rattle.std.proofs.Common.{Option, Some, None}
use Rattle.std.specs.Option.{option_map_or}
use Rattle.extent.proofs.LineLaws.{data_total}
use Rattle.extent.proofs.StateLaws.{either, Holds, After, Passes, widen, widen_step, quiet_holds, behind_holds, notify_holds}
use Rattle.extent.proofs.HeaderLaws.{reference_holds, header_holds}
use Rattle.extent.proofs.BarLaws.{bar_holds}
use Rattle.extent.proofs.StarLaws.{star_holds}
use Rattle.extent.proofs.NoteLaws.{weight, placed_weight, data_holds}

repair_holds : {b n : ℕ} (r : Repair) (k at : ℕ) (line : List ℕ) (st : State) → Holds b n st → After b n (notice_repair r k at line st)
unfolding notice_repair
repair_holds {b} {n} r k at line st h = go (repair_notice r)
  where
    go : (o : Option ℕ) → After b n (option_map_or (λ (x : ℕ). notify x k 0 (span_of at (length line)) st) o (quiet st))
    go None = quiet_holds st h
    go (Some x) = notify_holds x k 0 (span_of at (length line)) st h

-- only a data record's tokens are weighed
kind_holds : {b c n : ℕ} (x : Kind) (k : ℕ) (ts : List Token) (st : State) → b ≤ c → (x ≡ Data → b + 5 * weight ts ≤ c) → Holds b n st
    → Passes c n (by_kind x k ts st)
kind_holds Empty k ts st p q h = quiet_holds st (widen p (omega arith) h)
kind_holds Reference k ts st p q h = quiet_holds st (widen p (omega arith) h)
kind_holds Comment k ts st p q h = quiet_holds st (widen p (omega arith) h)
kind_holds Star k ts st p q h = star_holds k ts st (widen p (omega arith) h)
kind_holds Bar k ts st p q h = bar_holds ts st (widen p (omega arith) h)
kind_holds {n = n} Data k ts st p q h = widen_step n (by_kind Data k ts st) (q refl) (data_holds k ts st h)

repaired_holds : {b n : ℕ} (x : Repaired) (k at : ℕ) (line : List ℕ) (ts : List Token) (st : State)
    → (kind_of line ≡ Data → weight ts ≤ length line) → Holds b n st → Passes (b + 5 * length line) n (by_repair x k at line ts st)
repaired_holds (Err (Uneven count)) k at line ts st few h = tt
repaired_holds (Err Mixed) k at line ts st few h = tt
repaired_holds {b} {n} (Ok r) k at line ts st few h =
    let s = notice_repair r k at line st in
    behind_holds (b + 5 * length line) n s (by_kind (kind_of line) k ts)
    (kind_holds (kind_of line) k ts s.state (omega arith) (λ e. omega (arith, few e)) (repair_holds r k at line st h))

row_holds : {b n : ℕ} (row : List Spine) (k at : ℕ) (line : List ℕ) (st : State) → Holds b n st
    → Passes (b + 5 * length line) n (on_row row k at line st)
row_holds [] k at line st h = notify_holds 3 k 0 (span_of at (length line)) st (widen (omega arith) (omega arith) h)
row_holds (s ∷ row) k at line st h =
    let n = length (s ∷ row) in
    let ts = repaired n (tokens_of line) in
    repaired_holds (repaired_of n (tokens_of line)) k at line (placed at ts) st (λ e. omega (arith, placed_weight at ts, data_total n line e)) h

record_holds : {b n : ℕ} (begun : Bool) (k at : ℕ) (line : List ℕ) (st : State) → Holds b n st
    → Passes (b + 5 * length line) n (on_record begun k at line st)
record_holds true k at line st h = row_holds st.row k at line st h
record_holds false k at line st h = header_holds k at line st (widen (omega arith) (omega arith) h)

by_holds : {b n : ℕ} (x : Kind) (begun : Bool) (k at : ℕ) (line : List ℕ) (st : State) → Holds b n st
    → Passes (b + 5 * length line) n (by_line x begun k at line st)
by_holds Empty begun k at line st h = quiet_holds st (widen (omega arith) (omega arith) h)
by_holds Reference begun k at line st h = reference_holds k at line st (widen (omega arith) (omega arith) h)
by_holds Comment begun k at line st h = quiet_holds st (widen (omega arith) (omega arith) h)
by_holds Star begun k at line st h = record_holds begun k at line st h
by_holds Bar begun k at line st h = record_holds begun k at line st h
by_holds Data begun k at line st h = record_holds begun k at line st h

pub line_holds : {b n : ℕ} (begun : Bool) (k at : ℕ) (line : List ℕ) (st : State) → Holds b n st
    → Passes (b + 5 * length line) n (read_line begun k at line st)
unfolding read_line
line_holds begun k at line st h = by_holds (kind_of line) begun k at line st h
