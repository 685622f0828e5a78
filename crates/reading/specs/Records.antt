-- One line of a text: what it begins with, its repair, and the record's kind.
use Rattle.std.specs.Prelude.{Ok, Err, ℕ, Bool, true, false, cond, List, [], ◌∷◌, eqb, length}
use Rattle.std.specs.Option.{option_map_or}
use Rattle.lines.specs.Lines.{kind_of}
use Rattle.lines.specs.Tokens.{tokens_of}
use Rattle.lines.specs.declared.Kind.{Kind}
use Rattle.lines.specs.declared.Kind.TheVariants.{Empty, Reference, Comment, Star, Bar, Data}
use Rattle.repair.specs.Repair.{repaired, Repaired, repaired_of, repair_notice}
use Rattle.repair.specs.declared.Repair.{Repair}
use Rattle.repair.specs.declared.Unrepaired.TheVariants.{Uneven, Mixed}
use Rattle.paths.specs.declared.Spine.{Spine}
use Rattle.sheet.specs.Record.{span_of}
use Rattle.reading.specs.State.{State, Result, Step, refused, goes, ends}
use Rattle.reading.specs.Notices.{Token, placed, quiet, notify}
use Rattle.reading.specs.Header.{read_reference, read_header}
use Rattle.reading.specs.Star.{read_star}
use Rattle.reading.specs.Bars.{read_bar}
use Rattle.reading.specs.Notes.{read_data, behind}

-- notices 4, 5 and 6 have the line
unfoldable pub notice_repair : Repair → ℕ → ℕ → List ℕ → State → Result
notice_repair r k at line st = option_map_or (λ (number : ℕ). notify number k 0 (span_of at (length line)) st) (repair_notice r) (quiet st)

abbrev pub by_kind : Kind → ℕ → List Token → State → Step
by_kind Empty k ts st = goes (quiet st)
by_kind Reference k ts st = goes (quiet st)
by_kind Comment k ts st = goes (quiet st)
by_kind Star k ts st = read_star k ts st
by_kind Bar k ts st = goes (read_bar ts st)
by_kind Data k ts st = read_data k ts st

-- "6, figure the count before repair"; "7"
abbrev pub by_repair : Repaired → ℕ → ℕ → List ℕ → List Token → State → Step
by_repair (Err (Uneven count)) k at line ts st = refused 6 k count
by_repair (Err Mixed) k at line ts st = refused 7 k 0
by_repair (Ok r) k at line ts st = behind (notice_repair r k at line st) (by_kind (kind_of line) k ts)

-- a record behind the header; "With no active spine left, any other record is put no question, gives notice 3 and ends the reading."
abbrev pub on_row : List Spine → ℕ → ℕ → List ℕ → State → Step
on_row [] k at line st = ends (notify 3 k 0 (span_of at (length line)) st)
on_row (s ∷ row) k at line st =
    let ts = tokens_of line in
    let n = length (s ∷ row) in
    by_repair (repaired_of n ts) k at line (placed at (repaired n ts)) st

abbrev pub on_record : Bool → ℕ → ℕ → List ℕ → State → Step
on_record true k at line st = on_row st.row k at line st
on_record false k at line st = read_header k at line st

-- a line without its trailing CRs: its number k, its offset, and whether the header was met
abbrev pub by_line : Kind → Bool → ℕ → ℕ → List ℕ → State → Step
by_line Empty begun k at line st = goes (quiet st)
by_line Reference begun k at line st = goes (read_reference k at line st)
by_line Comment begun k at line st = goes (quiet st)
by_line Star begun k at line st = on_record begun k at line st
by_line Bar begun k at line st = on_record begun k at line st
by_line Data begun k at line st = on_record begun k at line st

unfoldable pub read_line : Bool → ℕ → ℕ → List ℕ → State → Step
read_line begun k at line st = by_line (kind_of line) begun k at line st

-- whether the header has been met once this line is read
abbrev pub is_record : Kind → Bool
is_record Empty = false
is_record Reference = false
is_record Comment = false
is_record Star = true
is_record Bar = true
is_record Data = true
